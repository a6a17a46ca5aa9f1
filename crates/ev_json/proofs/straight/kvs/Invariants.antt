use Rattle.ev_fields.specs.Kinds.{each}
use Rattle.ev_json.specs.Answers.{kv_in}
use Rattle.ev_json.proofs.Spellings.{Leads}
use Rattle.ev_json.proofs.straight.kvs.Given as goal

abbrev pub invariant-loop : goal.invariant-loop
invariant-loop l = Leads (each kv_in) (each kv_in) 1 l.bytes l.later l.rest l.list.items
