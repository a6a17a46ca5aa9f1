use Rattle.std.proofs.Common.{◌≡◌, ℕ, ◌+◌, ◌∷◌, List, drop, sym, ap, ◌∙◌, subst}
use Rattle.std.proofs.lemmas.List.{drop_more}
use Rattle.zk_model.specs.declared.request.Part.{Part}
use Rattle.zn_multi.specs.Carrying.{IsCarriedOne, Runs}
use Rattle.zn_multi.specs.declared.carrying.Carried.{Carried}
use Rattle.zn_multi.specs.declared.carrying.Carried.TheVariants.{Passed}
use Rattle.zn_multi.proofs.carrying.carry_out.Goals as goal

pub loop-part-preserved : goal.loop-part-preserved
loop-part-preserved c =
    let i : ℕ = c.loop-part.part-index in
    let parts : List Part = c.args.parts.now in
    let here : drop i parts ≡ c.part-item.result ∷ drop (i + 1) parts = drop_more parts i c.part-item.result c.loop-part-test.true ∙ ap (λ (p : Part). p ∷ drop (i + 1) parts) (sym c.part-item.is) in
    let one : IsCarriedOne c.part-item.result c.args.who c.args.now c.args.view.now c.loop-part.passed c.loop-part.place (Passed c.in-Passed.more) =
    subst (λ (x : Carried). IsCarriedOne c.part-item.result c.args.who c.args.now c.args.view.now c.loop-part.passed c.loop-part.place x) c.in-Passed.is c.in_ok-place.ensures in (
      ap (λ (n : ℕ). n + 1) c.loop-part.invariant.0,
      λ all runs.
          c.loop-part.invariant.1 all (subst (λ (ps : List Part). Runs c.args.who c.args.now c.args.view.now c.loop-part.passed c.loop-part.place ps all) (sym here) (Passed c.in-Passed.more, one, runs)),
    )
