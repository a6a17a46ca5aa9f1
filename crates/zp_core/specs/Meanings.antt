-- What the code keeps, as the definition's data.
use Rattle.std.specs.Prelude.{◌≡◌, List, [], ◌∷◌, Option, Some, None}
use Rattle.zk_model.specs.Watches.{Watches}
use Rattle.zk_service.specs.Answers.{Told, only}
use Rattle.zk_service.specs.declared.cause.Cause.{Cause}
use Rattle.zp_step.specs.declared.action.Action.{Action}
use Rattle.zp_step.specs.declared.action.Action.TheVariants as action
use Rattle.zp_step.specs.Stages as step
use Rattle.zp_core.specs.declared.client.Client.{Client}
use Rattle.zp_core.specs.declared.moves.Move.{Move}
use Rattle.zp_core.specs.declared.stage.Pending.{Pending}
use Rattle.zp_core.specs.declared.stage.Stage.{Stage}
use Rattle.zp_core.specs.declared.stage.Stage.TheVariants as stage
use Rattle.zp_core.specs.declared.stage.WatchChange.{WatchChange}
use Rattle.zp_core.specs.declared.stage.WatchChange.TheVariants.{Adds, Sets}

abbrev pub change_of : WatchChange → step.WatchChange
change_of (Adds arm) = step.AddsWatch arm
change_of (Sets since seen) = step.SetsWatches since seen

abbrev pub pending_of : Pending → step.Pending
pending_of p = record { number = p.number; zxid = p.zxid; xid = p.xid; answer = p.answer; change = change_of p.change; ends = p.ends }

-- ---- stages and cores

abbrev pub stage_of : Stage → step.Stage
stage_of (stage.Unconnected fresh) = step.Unconnected fresh
stage_of (stage.Connecting b) = step.Connecting b.value
stage_of stage.Ready = step.Ready
stage_of (stage.KeepingAlive frame) = step.KeepingAlive frame
stage_of (stage.Checking frame) = step.Checking frame
stage_of (stage.Reading b) = let t = b.value in step.Reading t.xid t.request t.view t.asked
stage_of (stage.Committing b) = let t = b.value.task.value in step.Committing t.xid t.request t.view b.value.plan b.value.time
stage_of (stage.Waiting b) = step.Waiting (pending_of b.value)
stage_of stage.Shut = step.Shut

abbrev pub core_of : Client → step.Stage → step.Core
core_of c s = record {
  stage = s;
  waiting = c.waiting.items;
  taken = c.taken;
  zxid = c.zxid;
  cursor = c.cursor;
  watches = c.watches;
  who = c.who;
  timeout = c.timeout;
  kept = c.kept;
  next = c.next;
  views = c.views;
}

-- the core of a client in the stage `Ready`
abbrev pub ready : Client → step.Core
ready c = core_of c step.Ready

-- ---- what is told without the tree

-- what is told where nothing is armed, with these watches armed before and after
abbrev pub told_with : Watches → Option Told → Option Told
told_with w None = None
told_with w (Some t) = Some (only w t.reply)

-- ---- what a move does

-- R holds of the core after a move, and of the move's actions
abbrev pub Leads : (step.Core → List Action → Type 0) → Client → Move → Type 0
Leads R c m = R (core_of c (stage_of m.stage)) m.actions

-- the connection is closed for a cause, and nothing is sent
abbrev pub Shuts : Cause → Move → Type 0
Shuts why m = (stage_of m.stage ≡ step.Shut) × (m.actions ≡ action.Close why ∷ [])
