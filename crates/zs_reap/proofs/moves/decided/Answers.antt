-- The plan is asked.
use Rattle.std.proofs.Common.{ℤ, w64, subst}
use Rattle.std.proofs.lemmas.Int.{to_z-of_z}
use Rattle.zs_close.specs.Reaping.{IfReaped, IsReap, IsReapDecision, IsReapPlan}
use Rattle.zs_reap.proofs.Deciding.{planned-decides, planned-held}
use Rattle.zs_reap.proofs.moves.decided.Goals as goal

pub returns-in-Planned-clause-asks : goal.returns-in-Planned-clause-asks
returns-in-Planned-clause-asks c =
    let own = λ (P : ℤ → Type 0). subst P (to_z-of_z w64 c.args.session c.ranges.session) in
    let r = c.in_ok-plan.field-0 in
    let v = c.args.view.now in
    planned-decides c.args.session v r c.in-Planned.plan c.in-Planned.is c.remove.result c.requires.ready
    (own (λ i. IsReap i v r) c.in_ok-plan.ensures.seen)
    (own (λ i. IsReapDecision i v r) c.in_ok-plan.ensures.decision)
    (own (λ i. IfReaped (IsReapPlan i v) r) c.in_ok-plan.ensures.plan)
    c.in_ok-plan.ensures.taken
    c.remove.ensures

pub returns-in-Planned-clause-held : goal.returns-in-Planned-clause-held
returns-in-Planned-clause-held c = planned-held c.args.session c.requires.real c.in-Planned.plan c.remove.result c.remove.ensures
