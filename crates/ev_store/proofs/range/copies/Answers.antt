use Rattle.std.proofs.Common.{◌≡◌, ◌∷◌, ◌<◌, arith}
use Rattle.std.specs.Map.Iter.{deref}
use Rattle.std.proofs.lemmas.Map.Iter.{rest_more}
use Rattle.ev_types.specs.Ranges.{shown}
use Rattle.ev_store.proofs.Copying.{copied_more}
use Rattle.ev_store.proofs.range.copies.Goals as goal

pub loop-found-preserved : goal.loop-found-preserved
loop-found-preserved c =
    let first : c.loop-found.found-iterator ≡ c.in-Some.found.now ∷ c.next.new.self = rest_more deref _ _ _ c.in-Some.found c.in-Some.is c.next.ensures.steps in
    let some : 0 < c.loop-found.left = omega arith in
    copied_more (shown c.args.keys_only) c.loop-found.kvs c.push.new.self c.in_ok-to_kv.field-0 c.in-Some.found.now _ _ c.loop-found.left _ some first c.in_ok-to_kv.ensures c.in_ok-push.ensures.ok c.loop-found.invariant
