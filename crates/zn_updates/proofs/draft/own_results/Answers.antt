-- No draft is left.
use Rattle.std.proofs.Common.{◌≡◌, ℕ, ℤ, List, [], ◌∷◌, ◌++◌, length, map, append-nil, refl, sym, ap, ◌∙◌, subst, rules, arith, w64}
use Rattle.std.proofs.lemmas.Int.{to_z-of_z}
use mir.Val.{SFits}
use Rattle.zk_model.specs.declared.reply.PartResult.{PartResult}
use Rattle.zn_view.specs.Needs.{own_result}
use Rattle.zn_updates.proofs.draft.own_results.Goals as goal

nothing_left : (xs : List PartResult) (n : ℕ) → n ≡ length xs → n ≡ 0 → xs ≡ []
nothing_left [] n e z = refl
nothing_left (x ∷ xs) n e z = absurd (omega (arith, e, z))

pub returns : goal.returns
returns c =
    let fits : SFits w64 c.args.zxid = search rules in
    let items : List PartResult = c.loop-draft.draft-iterator.rest.items in
    let none : items ≡ [] = nothing_left items _ c.loop-draft.draft-iterator.rest.ok.0 c.in-None.ensures.steps.0 in
    let whole : (c.loop-draft.results ++ map (own_result c.args.zxid) items) ≡ map (own_result c.args.zxid) c.args.drafts =
    subst (λ (z : ℤ). (c.loop-draft.results ++ map (own_result z) items) ≡ map (own_result z) c.args.drafts) (to_z-of_z w64 _ fits) c.loop-draft.invariant in
    sym (append-nil c.loop-draft.results) ∙ ap (λ (l : List PartResult). c.loop-draft.results ++ map (own_result c.args.zxid) l) (sym none) ∙ whole
