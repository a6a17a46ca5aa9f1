use Rattle.std.proofs.Common.{◌≡◌, ◌+◌, ◌∷◌, ℕ, ℤ, List, drop, sym, ap, ◌∙◌, subst, rules, w64}
use Rattle.std.proofs.lemmas.Int.{to_z-of_z}
use Rattle.std.proofs.lemmas.List.{drop_all, drop_more}
use mir.Val.{SFits}
use Rattle.zk_model.specs.declared.request.Part.{Part}
use Rattle.zn_multi.proofs.ReadKeys.{all_after, part_after, IsReadAfter}
use Rattle.zn_multi.proofs.reading.keys_read.Goals as goal

pub loop-part-preserved : goal.loop-part-preserved
loop-part-preserved c =
    let i : ℕ = c.loop-part.part-index in
    let parts : List Part = c.args.parts.now in
    let here : drop i parts ≡ c.part-item.result ∷ drop (i + 1) parts = drop_more parts i c.part-item.result c.loop-part-test.true ∙ ap (λ (p : Part). p ∷ drop (i + 1) parts) (sym c.part-item.is) in
    part_after _ c.args.view.now parts i c.part-item.result c.loop-part.left c.loop-part.keys _ c.push_all.new.keys here c.in_ok-own.ensures c.in_ok-push_all.ensures c.loop-part.invariant

pub returns : goal.returns
returns c =
    let fits : SFits w64 c.args.session = search rules in
    let session = to_z-of_z w64 _ fits in
    let h : IsReadAfter c.args.session c.args.view.now c.args.parts.now c.loop-part.part-index c.loop-part.left c.loop-part.keys = subst (λ (id : ℤ). IsReadAfter id c.args.view.now c.args.parts.now c.loop-part.part-index c.loop-part.left c.loop-part.keys) session c.loop-part.invariant in
    all_after c.args.session c.args.view.now c.args.parts.now c.loop-part.part-index c.loop-part.left c.loop-part.keys (drop_all c.loop-part.part-index c.args.parts.now c.loop-part-test.false) h
