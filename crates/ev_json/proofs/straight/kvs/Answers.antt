use Rattle.std.proofs.Common.{◌≡◌, ◌++◌, ◌∷◌, [], rules}
use Rattle.ev_fields.specs.Kinds.{each}
use Rattle.ev_json.specs.Answers.{kv_in}
use Rattle.ev_json.proofs.Spellings.{leads_on, leads_last, each-none, each-more}
use Rattle.ev_json.proofs.straight.kvs.Goals as goal

pub returns-in-Some : goal.returns-in-Some
returns-in-Some c = leads_last (each kv_in) (each kv_in) 1 c.args.bytes.now c.loop.later c.loop.rest.now c.in-Some.rest.now c.loop.list.items c.in-Some.ensures (each-none kv_in) c.loop.invariant

pub loop-preserved : goal.loop-preserved
loop-preserved c =
    let pushed : c.push.new.self.items ≡ c.loop.list.items ++ c.in_ok-found.found ∷ [] = search rules in
    rw pushed (leads_on kv_in (each kv_in) (each kv_in) (each kv_in) 1 c.args.bytes.now c.loop.later c.loop.rest.now c.in_ok-comma_if.field-0.now c.in_ok-found.next.now c.loop.list.items c.in_ok-found.found c.in_ok-comma_if.ensures c.in_ok-found.ensures
    (λ xs d ds. each-more kv_in c.in_ok-found.found xs d ds) c.loop.invariant)
