-- What a connection asks is fit: the store takes it, and the line of its update has one reading.
use Rattle.std.proofs.Common.{◌≡◌, sym, subst, arith, false}
use Rattle.std.specs.Prelude.{Some, MatchBool, pos, ℤ, ◌≤ℤ◌, ◌<ℤ◌, ◌^◌}
use Rattle.std.proofs.lemmas.Int.{ints}
use Rattle.ev_types.specs.declared.ask.Ask.{Ask}
use Rattle.ev_store.specs.Asks.{IsGrantable}
use Rattle.zk_service.specs.States.{granted_timeout}
use Rattle.zs_session.specs.Connecting.{asked_in_phase}
use Rattle.zs_session.specs.Sessions.{lease_seconds}
use Rattle.zs_session.specs.declared.connect.Connect.{Connect}
use Rattle.zs_session.specs.declared.connect.Phase.{Phase}
use Rattle.zs_session.specs.declared.connect.Phase.TheVariants.{Unasked, Looking, Granting, Creating, Keeping, LookingAgain, Attaching, Over}
use Rattle.zp_core.specs.Held.{IsHeld, IsHeldIn, IsServing}
use Rattle.zp_step.specs.Stages.{Core, Stage, Unconnected, Connecting, Ready, KeepingAlive, Checking, Reading, Committing, Waiting, Shut, asked_of, is_shut}
use Rattle.zn_layout.specs.Begin.{begin_ask}
use Rattle.zx_base.proofs.Options.{none_some, some_is}

few-seconds : (asked : ℤ) → lease_seconds (granted_timeout asked) <ℤ pos (2 ^ 62)
few-seconds asked = grind (arith, ints)

grantable-phase : (c : Connect) (p : Phase) (a : Ask) → pos 1 ≤ℤ c.fresh.id → asked_in_phase c p ≡ Some a → IsGrantable a
grantable-phase c Unasked a least h = absurd (none_some h)
grantable-phase c Looking a least h = subst IsGrantable (some_is h) tt
grantable-phase c Granting a least h = subst IsGrantable (some_is h) (least, grind (arith, ints), few-seconds c.request.timeout)
grantable-phase c Creating a least h = subst IsGrantable (some_is h) tt
grantable-phase c (Keeping seen life) a least h = subst IsGrantable (some_is h) tt
grantable-phase c LookingAgain a least h = subst IsGrantable (some_is h) tt
grantable-phase c (Attaching seen life) a least h = subst IsGrantable (some_is h) tt
grantable-phase c Over a least h = absurd (none_some h)

grantable-stage : (c : Core) (s : Stage) (a : Ask) → IsHeldIn c.who.session s → asked_of c.who s ≡ Some a → IsGrantable a
grantable-stage c (Unconnected fresh) a held h = absurd (none_some h)
grantable-stage c (Connecting connect) a held h = grantable-phase connect connect.phase a held.fresh h
grantable-stage c Ready a held h = absurd (none_some h)
grantable-stage c (KeepingAlive frame) a held h = subst IsGrantable (some_is h) tt
grantable-stage c (Checking frame) a held h = subst IsGrantable (some_is h) tt
grantable-stage c (Reading xid r v ws) a held h = subst IsGrantable (some_is h) tt
grantable-stage c (Committing xid r v p m) a held h = subst IsGrantable (some_is h) tt
grantable-stage c (Waiting p) a held h = absurd (none_some h)
grantable-stage c Shut a held h = absurd (none_some h)

serving : (c : Core) → IsHeld c → is_shut c.stage ≡ false → IsServing c
serving c held live = subst (λ b. MatchBool b (Unit {0}) (IsServing c)) live held

pub grantable : (c : Core) (a : Ask) → IsHeld c → is_shut c.stage ≡ false → asked_of c.who c.stage ≡ Some a → IsGrantable a
grantable c a held live h = grantable-stage c c.stage a (serving c held live).stage h

pub begin-grantable : (q : Ask) → q ≡ begin_ask 0 → IsGrantable q
unfolding begin_ask
begin-grantable q e = subst IsGrantable (sym e) tt
