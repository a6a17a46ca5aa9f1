use Rattle.std.proofs.Common.{◌≡◌, ℕ, ℤ, ◌+◌, ap, ◌∙◌, subst, w64, rules, arith}
use Rattle.std.specs.Prelude.{sum_by}
use Rattle.std.proofs.lemmas.Int.{to_z-of_z}
use mir.Val.{SFits}
use Rattle.zk_model.specs.Multi.{data_len}
use Rattle.zk_model.specs.Loads.{within}
use Rattle.zn_multi.specs.Deciding.{IsOwnedLoad}
use Rattle.zn_multi.proofs.Loads.{loads_push}
use Rattle.zn_multi.proofs.load.exceeds.Goals as goal

pub loop-session-preserved : goal.loop-session-preserved
loop-session-preserved c =
    let fits : SFits w64 c.in-Some.session = search rules in
    let before = c.loop-session.invariant in
    let more = c.in_ok-sum.ensures in
    let owned : IsOwnedLoad c.args.view.now c.in-Some.session more.0 = subst (λ (z : ℤ). IsOwnedLoad c.args.view.now z more.0) (to_z-of_z w64 _ fits) more.1 in
    let bytes : ℕ = sum_by data_len c.args.parts.now in
    let sums : bytes + before.0 + more.0 ≡ bytes + (before.0 + more.0) = omega arith in
    (before.0 + more.0, loads_push c.args.view.now c.loop-session.yielded c.in-Some.session before.0 more.0 before.1 owned, more.2 (bytes + before.0) before.2 ∙ ap within sums)
