use Rattle.std.proofs.Common.{◌≡◌, [], None, ap, ◌∙◌, w64}
use Rattle.std.specs.Option.{unwrap_or}
use Rattle.std.proofs.lemmas.Int.{to_z-of_z}
use Rattle.std.proofs.lemmas.Result.{IfOk-weaker}
use Rattle.ev_store.specs.Leased.{named_with, all_held}
use Rattle.ev_store.proofs.leased.held_named.Goals as goal

pub returns-in-Some : goal.returns-in-Some
returns-in-Some c =
    let named : c.in-Some.keys.now ≡ named_with c.args.leased.now c.args.id =
    ap (λ o. unwrap_or o []) c.in-Some.ensures.value ∙ ap (named_with c.args.leased.now) (to_z-of_z w64 c.args.id c.ranges.id) in
    IfOk-weaker c.held_among.result _ _ (λ held h q. h q ∙ ap (all_held c.args.revision c.args.versions.now q None) (c.as_slice.ensures ∙ named)) c.held_among.ensures
