use Rattle.std.proofs.Common.{rules, ◌≡◌, ◌∙◌, ◌+◌, ap, sym, subst, List, ◌∷◌, drop, w64, ℤ}
use Rattle.std.specs.Prelude.{None}
use Rattle.std.proofs.lemmas.Int.{to_z-of_z}
use Rattle.std.proofs.lemmas.List.{drop_more}
use mir.Val.{SFits}
use Rattle.ev_types.specs.declared.ask.Act.{Act}
use Rattle.zn_view.specs.Keeping.{AreLeft, IsActKept}
use Rattle.zn_view.proofs.KeptActs.{left-off}
use Rattle.zn_view.proofs.keep.lay_acts.Goals as goal

pub returns-then-not-branch-clause-left : goal.returns-then-not-branch-clause-left
returns-then-not-branch-clause-left c =
    let acts = c.args.acts.now in
    let k = c.loop-act.act-index in
    let act = c.act-item.result in
    let keys = c.loop-act.keys.items in
    let fits : SFits w64 c.args.revision = search rules in
    let same = to_z-of_z w64 _ fits in
    let next : drop k acts ≡ act ∷ drop (k + 1) acts = drop_more acts k act c.loop-act-test.true ∙ ap (λ (a : Act). a ∷ drop (k + 1) acts) (sym c.act-item.is) in
    let broken : IsActKept c.args.revision keys act → ⊥ = search rules in
    let left = subst (λ (l : List Act). AreLeft c.args.revision keys l None) (sym next) (left-off c.args.revision keys act (drop (k + 1) acts) broken) in
    subst (λ (z : ℤ). AreLeft z c.args.keys.items acts None) same (c.loop-act.invariant.0 None (subst (λ (z : ℤ). AreLeft z keys (drop k acts) None) (sym same) left))
