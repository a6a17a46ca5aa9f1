-- What was seen decides.
use Rattle.std.proofs.Common.{◌≡◌, ℤ, false, w64, sym, subst}
use Rattle.std.specs.Prelude.{nat_abs}
use Rattle.std.proofs.lemmas.Int.{to_z-of_z}
use mir.Val.{SFits}
use Rattle.zn_layout.specs.Keys.{LeaseKey, SessionKey}
use Rattle.zn_view.specs.Lookups.{HasSeen}
use Rattle.zs_close.specs.Reaping.{lives, IsReap}
use Rattle.zs_close.specs.Wanting.{AreParentsSeen}
use Rattle.zs_close.proofs.Reaps.{ready-life, ready-session, ready-parents, reap-decides, reap-plan, reap-taken}
use Rattle.zs_close.proofs.reap.plan_reap.Goals as goal

pub reap-requires-clause-life : goal.reap-requires-clause-life
reap-requires-clause-life c =
    let fits : SFits w64 c.args.session = c.ranges.session in
    subst (λ (i : ℤ). HasSeen c.args.view.now (LeaseKey (nat_abs i))) (sym (to_z-of_z w64 c.args.session fits)) (ready-life c.args.session c.args.view.now c.requires.ready)

pub reap-requires-clause-seen : goal.reap-requires-clause-seen
reap-requires-clause-seen c =
    let fits : SFits w64 c.args.session = c.ranges.session in
    subst (λ (i : ℤ). lives i c.args.view.now ≡ false → HasSeen c.args.view.now (SessionKey (nat_abs i))) (sym (to_z-of_z w64 c.args.session fits)) (ready-session c.args.session c.args.view.now c.requires.ready)

pub reap-requires-clause-parents : goal.reap-requires-clause-parents
reap-requires-clause-parents c =
    let fits : SFits w64 c.args.session = c.ranges.session in
    subst (λ (i : ℤ). lives i c.args.view.now ≡ false → AreParentsSeen i c.args.view.now) (sym (to_z-of_z w64 c.args.session fits)) (ready-parents c.args.session c.args.view.now c.requires.ready)

pub returns-clause-seen : goal.returns-clause-seen
returns-clause-seen c = subst (λ (i : ℤ). IsReap i c.args.view.now c.in_ok-reaping.reaping) (to_z-of_z w64 c.args.session c.ranges.session) c.in_ok-reaping.ensures

pub returns-clause-decision : goal.returns-clause-decision
returns-clause-decision c = reap-decides c.args.session c.args.view.now c.requires.real c.in_ok-reaping.reaping (subst (λ (i : ℤ). IsReap i c.args.view.now c.in_ok-reaping.reaping) (to_z-of_z w64 c.args.session c.ranges.session) c.in_ok-reaping.ensures)

pub returns-clause-plan : goal.returns-clause-plan
returns-clause-plan c = reap-plan c.args.session c.args.view.now c.requires.real c.in_ok-reaping.reaping (subst (λ (i : ℤ). IsReap i c.args.view.now c.in_ok-reaping.reaping) (to_z-of_z w64 c.args.session c.ranges.session) c.in_ok-reaping.ensures)

pub returns-clause-taken : goal.returns-clause-taken
returns-clause-taken c = reap-taken c.args.session c.args.view.now c.requires.real c.in_ok-reaping.reaping (subst (λ (i : ℤ). IsReap i c.args.view.now c.in_ok-reaping.reaping) (to_z-of_z w64 c.args.session c.ranges.session) c.in_ok-reaping.ensures)
