use Rattle.ev_json.proofs.Spellings.{Leads, parts_from}
use Rattle.ev_json.specs.Answers.{parts_in}
use Rattle.ev_json.proofs.straight.parts.Given as goal

abbrev pub invariant-loop-act : goal.invariant-loop-act
invariant-loop-act l = Leads (parts_in l.acts) (parts_from l.acts l.act-index) 5 l.bytes l.later l.rest l.list.items
