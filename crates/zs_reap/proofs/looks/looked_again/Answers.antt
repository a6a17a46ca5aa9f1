-- The view saw the record of the session's life or lacks nothing; or the session is looked at anew.
use Rattle.std.proofs.Common.{rules, arith, ◌≡◌, length, ℤ, w64, to_z, of_z, pos, ap, ◌∙◌, subst, inr}
use Rattle.std.proofs.lemmas.Int.{to_z-of_z}
use Rattle.zs_session.specs.Answering.{viewed}
use Rattle.zs_reap.specs.Steps.{IsReaperTested, LacksSome, ReaperLooksFirst}
use Rattle.zs_reap.proofs.Deciding.{lacks-some, looked-at, nothing-whole}
use Rattle.zs_reap.proofs.looks.looked_again.Goals as goal

pub decided-requires-clause-ready : goal.decided-requires-clause-ready
decided-requires-clause-ready c =
    let none : length c.in_ok-lacking.lacking ≡ 0 = search (arith, rules) in
    λ gone. nothing-whole _ c.in_ok-view.view c.in_ok-lacking.lacking (c.in_ok-lacking.ensures.needs gone (pos 0)) none

pub returns-clause-ok : goal.returns-clause-ok
returns-clause-ok c =
    let own = λ (P : ℤ → Type 0). subst P (to_z-of_z w64 c.args.session c.ranges.session) in
    let at = to_z-of_z w64 c.args.revision c.ranges.revision in
    let ws = c.args.wants.now in
    let parts = c.args.parts.now in
    let some : length c.in_ok-lacking.lacking ≡ 0 → ⊥ = search (arith, rules) in (
      subst (λ (r : ℤ). IsReaperTested c.args.session ws r parts) at (own (λ i. IsReaperTested i ws (to_z w64 (of_z w64 c.args.revision)) parts) c.in_ok-view.ensures.tested),
      inr (looked-at c.args.session c.args.revision ws parts c.in_ok-view.view c.in_ok-look.field-0.phase c.in_ok-look.field-0.step c.in_ok-lacking.lacking
          (c.in_ok-view.ensures.ok ∙ ap (λ (r : ℤ). viewed r ws parts) at)
          (own (λ i. LacksSome i c.in_ok-view.view c.in_ok-lacking.lacking) (lacks-some _ c.in_ok-view.view c.in_ok-lacking.lacking c.in_ok-lacking.ensures.kept (λ gone. c.in_ok-lacking.ensures.needs gone (pos 0)) some))
          (own (λ i. ReaperLooksFirst i c.in_ok-look.field-0.phase c.in_ok-look.field-0.step) c.in_ok-look.ensures.asks)),
    )
