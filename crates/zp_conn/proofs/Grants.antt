-- What a connection asks may be asked: a grant has a number from 1 on, and its seconds are few.
use Rattle.std.proofs.Common.{◌≡◌, subst, arith, false}
use Rattle.std.specs.Prelude.{Some, None, Option, IfSome, MatchBool, pos, ℤ, ◌≤ℤ◌, ◌<ℤ◌, ◌^◌}
use Rattle.std.proofs.lemmas.Int.{ints}
use Rattle.ev_call.specs.Asks.{IsGrantable}
use Rattle.ev_types.specs.declared.ask.Ask.{Ask}
use Rattle.zk_service.specs.States.{granted_timeout}
use Rattle.zs_session.specs.Connecting.{asked_in_phase}
use Rattle.zs_session.specs.Sessions.{lease_seconds}
use Rattle.zs_session.specs.declared.connect.Connect.{Connect}
use Rattle.zs_session.specs.declared.connect.Phase.{Phase}
use Rattle.zs_session.specs.declared.connect.Phase.TheVariants.{Unasked, Looking, Granting, Creating, Keeping, LookingAgain, Attaching, Over}
use Rattle.zp_core.specs.Held.{IsHeld, IsHeldIn, IsServing}
use Rattle.zp_step.specs.Stages.{Core, Stage, Unconnected, Connecting, Ready, KeepingAlive, Checking, Reading, Committing, Waiting, Shut, asked_of, is_shut}
use Rattle.zx_base.proofs.Options.{none_some, some_is}

few-seconds : (asked : ℤ) → lease_seconds (granted_timeout asked) <ℤ pos (2 ^ 62)
few-seconds asked = grind (arith, ints)

granted-phase : (c : Connect) (p : Phase) (a : Ask) → pos 1 ≤ℤ c.fresh.id → asked_in_phase c p ≡ Some a → IsGrantable a
granted-phase c Unasked a least h = absurd (none_some h)
granted-phase c Looking a least h = subst IsGrantable (some_is h) tt
granted-phase c Granting a least h = subst IsGrantable (some_is h) (least, grind (arith, ints), few-seconds c.request.timeout)
granted-phase c Creating a least h = subst IsGrantable (some_is h) tt
granted-phase c (Keeping seen life) a least h = subst IsGrantable (some_is h) tt
granted-phase c LookingAgain a least h = subst IsGrantable (some_is h) tt
granted-phase c (Attaching seen life) a least h = subst IsGrantable (some_is h) tt
granted-phase c Over a least h = absurd (none_some h)

granted-stage : (c : Core) (s : Stage) (a : Ask) → IsHeldIn c.who.session s → asked_of c.who s ≡ Some a → IsGrantable a
granted-stage c (Unconnected fresh) a held h = absurd (none_some h)
granted-stage c (Connecting connect) a held h = granted-phase connect connect.phase a held.fresh h
granted-stage c Ready a held h = absurd (none_some h)
granted-stage c (KeepingAlive frame) a held h = subst IsGrantable (some_is h) tt
granted-stage c (Checking frame) a held h = subst IsGrantable (some_is h) tt
granted-stage c (Reading xid r v ws) a held h = subst IsGrantable (some_is h) tt
granted-stage c (Committing xid r v p m) a held h = subst IsGrantable (some_is h) tt
granted-stage c (Waiting p) a held h = absurd (none_some h)
granted-stage c Shut a held h = absurd (none_some h)

serving : (c : Core) → IsHeld c → is_shut c.stage ≡ false → IsServing c
serving c held live = subst (λ b. MatchBool b (Unit {0}) (IsServing c)) live held

-- the ask that is out
pub granted_out : (c : Core) (asked : Option Ask) → IsHeld c → is_shut c.stage ≡ false → asked_of c.who c.stage ≡ asked → IfSome asked IsGrantable
granted_out c None held live h = tt
granted_out c (Some a) held live h = granted-stage c c.stage a (serving c held live).stage h
