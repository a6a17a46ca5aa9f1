-- How a connection gets its session: the steps of its connect, and what they end in (ZooKeeper Programmer's Guide, "ZooKeeper
-- Sessions").
use Rattle.std.specs.Prelude.{ℕ, ℤ, List, [], ◌∷◌, ◌⊎◌, Option, Some, None}
use Rattle.ev_types.specs.declared.answer.Answer.{Answer}
use Rattle.ev_types.specs.declared.ask.Ask.{Ask}
use Rattle.ev_types.specs.declared.ask.Ask.TheVariants as ask
use Rattle.zk_jute.specs.Packets.{connect_packet}
use Rattle.zk_model.specs.Watches.{no_watches}
use Rattle.zk_model.specs.declared.connect.ConnectRequest.{ConnectRequest}
use Rattle.zk_service.specs.Answers.{refusal}
use Rattle.zk_service.specs.declared.cause.Cause.TheVariants as cause
use Rattle.zx_base.specs.Maps.{Bytes}
use Rattle.zn_view.specs.declared.plan.Who.{Who}
use Rattle.zs_session.specs.Connecting.{ConnectSteps, IsConnectFault}
use Rattle.zs_session.specs.declared.connect.Connect.{Connect}
use Rattle.zs_session.specs.declared.connect.ConnectStep.{ConnectStep}
use Rattle.zs_session.specs.declared.connect.ConnectStep.TheVariants as steps
use Rattle.zk_service.specs.declared.fresh.Fresh.{Fresh}
use Rattle.zs_session.specs.declared.connect.Phase.TheVariants.{Unasked}
use Rattle.zs_session.specs.declared.fault.StepFault.TheVariants as faults
use Rattle.zp_step.specs.declared.action.Action.{Action}
use Rattle.zp_step.specs.declared.action.Action.TheVariants as action
use Rattle.zp_step.specs.Replies.{Is, closed_by}
use Rattle.zp_step.specs.Stages.{Core, Connecting, Ready, Shut}

-- the time of the last grant or keepalive, once this is asked too
abbrev pub kept_by : ℕ → ℕ → Ask → ℕ
kept_by now kept (ask.Grant id seconds) = now
kept_by now kept (ask.Alive id) = now
kept_by now kept _ = kept

-- the session is attached to the connection by the update of this number and zxid
abbrev pub attached_core : Core → Who → ℤ → ℤ → ℤ → Core
attached_core c who timeout number zxid = record c { stage = Ready; zxid = zxid; cursor = number; watches = no_watches; who = who; timeout = timeout; views = [] }

-- what comes of a step of the connect: its next ask, the welcome, or the end. The client is told of an end only where its resume
-- is refused
abbrev pub connected : Core → ℕ → Connect → ConnectStep → Core × List Action
connected c now new (steps.Ask q) = (record c { stage = Connecting new; kept = kept_by now c.kept q }, action.Ask q ∷ [])
connected c now new (steps.Attached response who timeout number zxid) =
    (attached_core c who timeout number zxid, action.Send (connect_packet response) ∷ [])
connected c now new (steps.Ahead client head) = closed_by c (cause.ZxidAhead client head)
connected c now new steps.Unknown = (record c { stage = Shut }, action.Send (connect_packet (refusal new.request)) ∷ action.Close cause.Unknown ∷ [])
connected c now new (steps.Taken revision) = closed_by c (cause.Taken revision)

pub record StepsConnect (c : Core) (connect : Connect) (a : Option Answer) (now : ℕ) (c' : Core) (out : List Action) : Type 0 where
  pub step : ConnectStep
  pub new : Connect
  pub steps : ConnectSteps connect a step new
  pub is : Is (connected c now new step) c' out

-- a value was found that is no record, and the connection ends
pub record EndsConnect (c : Core) (connect : Connect) (a : Option Answer) (c' : Core) (out : List Action) : Type 0 where
  pub key : Bytes
  pub value : Bytes
  pub found : IsConnectFault connect a (faults.Damaged key value)
  pub is : Is (closed_by c (cause.Damaged key value)) c' out

abbrev pub Connects : Core → Connect → Option Answer → ℕ → Core → List Action → Type 0
Connects c connect a now c' out = EndsConnect c connect a c' out ⊎ StepsConnect c connect a now c' out

-- ---- the first frame, at a place of the client's stream

abbrev pub begun : ConnectRequest → Fresh → Connect
begun r fresh = record { request = r; fresh = fresh; phase = Unasked }

-- it is a connect, or the connection ends
abbrev pub Opens : Core → ℕ → Fresh → ℕ → Core → List Action → Option ConnectRequest → Type 0
Opens c place fresh now c' out None = Is (closed_by c (cause.NoHeader place)) c' out
Opens c place fresh now c' out (Some r) = Connects c (begun r fresh) None now c' out
