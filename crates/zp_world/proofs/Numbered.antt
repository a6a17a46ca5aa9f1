-- What a connection asks is of a session whose number is at least 1.
use Rattle.std.proofs.Common.{◌≡◌, ℕ, refl, subst}
use Rattle.std.specs.Prelude.{Some, MatchBool, pos, ℤ, ◌≤ℤ◌}
use Rattle.zk_model.specs.declared.request.Request.{Request}
use Rattle.zk_model.specs.declared.request.Request.TheVariants as req
use Rattle.zk_service.specs.declared.update.UpdateKind.{UpdateKind}
use Rattle.zs_session.specs.Connecting.{IsConnectPhase}
use Rattle.zs_session.specs.declared.connect.Connect.{Connect}
use Rattle.zs_session.specs.declared.connect.Phase.{Phase}
use Rattle.zs_session.specs.declared.connect.Phase.TheVariants.{Unasked, Looking, Granting, Creating, Keeping, LookingAgain, Attaching, Over}
use Rattle.zp_core.specs.Held.{IsHeld, IsHeldIn, IsServing}
use Rattle.zp_step.specs.Kinds.{kind_in_stage, kind_of_connect, kind_of_request}
use Rattle.zp_step.specs.Stages.{Core, Stage, Unconnected, Connecting, Ready, KeepingAlive, Checking, Reading, Committing, Waiting, Shut, is_shut}
use Rattle.zx_base.proofs.Options.{none_some, some_is}
use Rattle.zp_world.specs.Flying.{HasSession}

numbered-connect : (c : ℕ) (x : Connect) (p : Phase) (k : UpdateKind) → pos 1 ≤ℤ x.fresh.id → IsConnectPhase x.request p → kind_of_connect c x p ≡ Some k → HasSession k
numbered-connect c x Unasked k fresh held h = absurd (none_some h)
numbered-connect c x Looking k fresh held h = absurd (none_some h)
numbered-connect c x Granting k fresh held h = absurd (none_some h)
numbered-connect c x Creating k fresh held h = subst HasSession (some_is h) fresh
numbered-connect c x (Keeping seen life) k fresh held h = absurd (none_some h)
numbered-connect c x LookingAgain k fresh held h = absurd (none_some h)
numbered-connect c x (Attaching seen life) k fresh held h = subst HasSession (some_is h) held.session
numbered-connect c x Over k fresh held h = absurd (none_some h)

numbered-request : (c i : ℕ) (id : ℤ) (time : ℕ) (r : Request) → pos 1 ≤ℤ id → HasSession (kind_of_request c i id time r)
numbered-request c i id time req.Close real = real
numbered-request c i id time _ real = tt

numbered-stage : (c : ℕ) (core : Core) (s : Stage) (k : UpdateKind) → IsHeldIn core.who.session s → kind_in_stage c core s ≡ Some k → HasSession k
numbered-stage c core (Unconnected fresh) k held h = absurd (none_some h)
numbered-stage c core (Connecting x) k held h = numbered-connect c x x.phase k held.fresh held.phase h
numbered-stage c core Ready k held h = absurd (none_some h)
numbered-stage c core (KeepingAlive frame) k held h = absurd (none_some h)
numbered-stage c core (Checking frame) k held h = absurd (none_some h)
numbered-stage c core (Reading xid r v ws) k held h = absurd (none_some h)
numbered-stage c core (Committing xid r v p time) k held h = subst HasSession (some_is h) (numbered-request c core.next core.who.session time r held.0)
numbered-stage c core (Waiting p) k held h = absurd (none_some h)
numbered-stage c core Shut k held h = absurd (none_some h)

held-stage : (core : Core) (s : Stage) → MatchBool (is_shut s) (Unit {0}) (IsServing core) → core.stage ≡ s → IsHeldIn core.who.session s
held-stage core (Unconnected fresh) held is = subst (IsHeldIn core.who.session) is held.stage
held-stage core (Connecting x) held is = subst (IsHeldIn core.who.session) is held.stage
held-stage core Ready held is = subst (IsHeldIn core.who.session) is held.stage
held-stage core (KeepingAlive frame) held is = subst (IsHeldIn core.who.session) is held.stage
held-stage core (Checking frame) held is = subst (IsHeldIn core.who.session) is held.stage
held-stage core (Reading xid r v ws) held is = subst (IsHeldIn core.who.session) is held.stage
held-stage core (Committing xid r v p time) held is = subst (IsHeldIn core.who.session) is held.stage
held-stage core (Waiting p) held is = subst (IsHeldIn core.who.session) is held.stage
held-stage core Shut held is = tt

pub numbered : (c : ℕ) (core : Core) (k : UpdateKind) → IsHeld core → kind_in_stage c core core.stage ≡ Some k → HasSession k
numbered c core k held h = numbered-stage c core core.stage k (held-stage core core.stage held refl) h
