use Rattle.std.proofs.Common.{◌≡◌, [], ◌∷◌, ◌++◌, ap, ◌∙◌, w64, to_z, of_z}
use Rattle.std.specs.Map.{keys_of}
use Rattle.std.specs.Map.Iter.{deref_pair}
use Rattle.std.proofs.lemmas.Map.Iter.{rest_more}
use Rattle.zx_base.specs.Maps.{Bytes}
use Rattle.ev_types.specs.declared.answer.Kv.{Kv}
use Rattle.ev_types.specs.Lapses as lapses
use Rattle.ev_store.specs.Changes.{leased_among}
use Rattle.ev_store.proofs.Lapsing.{removed_more}
use Rattle.ev_store.proofs.lapse.removals.Goals as goal

pub loop-name-preserved : goal.loop-name-preserved
loop-name-preserved c =
    let id = to_z w64 (of_z w64 c.args.id) in
    let e : Bytes × Kv = (c.in-Some.name.now, c.in-Some.found.now) in
    let first : c.loop-name.name-iterator ≡ e ∷ c.next.new.self = rest_more deref_pair _ _ _ (c.in-Some.name, c.in-Some.found) c.in-Some.is c.next.ensures.steps in
    let pushed : c.push_removal.new.removals ≡ c.loop-name.removals ++ lapses.removals (keys_of (leased_among id (e ∷ []))) =
    c.in_ok-push_removal.ensures ∙ ap (λ (k : Bytes). c.loop-name.removals ++ lapses.removals (keys_of (leased_among id ((k, c.in-Some.found.now) ∷ [])))) c.name.view_is in
    removed_more id c.loop-name.removals c.push_removal.new.removals _ e c.loop-name.name-iterator c.next.new.self first pushed c.loop-name.invariant
