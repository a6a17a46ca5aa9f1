-- A step of a connection that has no session yet sends nothing, or the refusal, or the welcome and then a walk from the
-- attachment on.
use Rattle.std.specs.Prelude.{◌≡◌, ℕ, ℤ, pos, ◌+◌, ◌⊎◌, Bool, true, false, List, [], ◌∷◌, Some, slice_get}
use Rattle.ev_types.specs.Store.{Store}
use Rattle.ev_types.specs.declared.answer.Answer.{Answer}
use Rattle.zk_jute.specs.Packets.{connect_packet}
use Rattle.zk_model.specs.declared.connect.ConnectResponse.{ConnectResponse}
use Rattle.zk_service.specs.Answers.{refusal}
use Rattle.zk_transcript.specs.History.{state_at}
use Rattle.zk_transcript.specs.Legal.{is_legal}
use Rattle.zk_transcript.specs.Walks.{at_start}
use Rattle.zk_service.specs.declared.cause.Cause.TheVariants as cause
use Rattle.zk_transcript.specs.declared.transcript.TranscriptLine.{TranscriptLine}
use Rattle.zk_transcript.specs.declared.transcript.TranscriptLine.TheVariants.{Update}
use Rattle.zk_service.specs.declared.update.UpdateRec.{UpdateRec}
use Rattle.zn_view.specs.declared.plan.Who.{Who}
use Rattle.zs_session.specs.Connecting.{ConnectSteps}
use Rattle.zs_session.specs.declared.connect.Connect.{Connect}
use Rattle.zs_session.specs.declared.connect.ConnectStep.TheVariants.{Attached}
use Rattle.zp_step.specs.Connects.{attached_core}
use Rattle.zp_step.specs.Stages.{Core, Stage, Unconnected, Connecting, Shut}
use Rattle.zp_step.specs.Steps.{Steps}
use Rattle.zp_step.specs.declared.action.Action.{Action}
use Rattle.zp_step.specs.declared.action.Action.TheVariants as action
use Rattle.zp_step.specs.declared.input.Input.{Input}
use Rattle.zp_step.specs.declared.input.Input.TheVariants as input
use Rattle.zp_laws.specs.Frames.{AreFrames}
use Rattle.zp_laws.specs.Standing.{is_ahead}
use Rattle.zp_laws.specs.Walking.{Walks}
use Rattle.zp_step.specs.Ending.{sends}

-- no session yet
abbrev pub is_connecting : Stage → Bool
is_connecting (Unconnected fresh) = true
is_connecting (Connecting connect) = true
is_connecting _ = false

abbrev pub is_entry : Input → Bool
is_entry (input.Entry e) = true
is_entry _ = false

-- ---- nothing, or the refusal

pub record IsSilent (c c' : Core) (out : List Action) : Type 0 where
  pub stage : (is_connecting c'.stage ≡ true) ⊎ (c'.stage ≡ Shut)
  pub quiet : sends out ≡ []
  pub next : c'.next ≡ c.next

pub record IsRefusal (c c' : Core) (x : Input) (out : List Action) : Type 0 where
  pub connect : Connect
  pub connecting : c.stage ≡ Connecting connect
  pub answer : Answer
  pub at_answer : x ≡ input.Answer answer
  pub stage : c'.stage ≡ Shut
  pub actions : out ≡ action.Send (connect_packet (refusal connect.request)) ∷ action.Close cause.Unknown ∷ []

-- ---- the welcome

-- the line of the attachment stands at this place, and the frames that wait are those after the connect, none of which was
-- carried out
pub record IsAttachment (lines : List TranscriptLine) (conn : ℕ) (c : Core) (number zxid : ℤ) (place : ℕ) : Type 0 where
  pub legal : is_legal lines ≡ true
  pub update : UpdateRec
  pub shown : slice_get lines place ≡ Some (Update update)
  pub same : update.zxid ≡ zxid
  pub counted : number ≡ pos (state_at lines (place + 1)).updates
  pub next : c.next ≡ 1
  pub waiting : AreFrames lines conn 1 c.waiting
  pub turn : is_ahead lines conn 1 ≡ true

pub record IsWelcome (c c' : Core) (x : Input) (out : List Action) : Type 0 where
  pub connect : Connect
  pub connecting : c.stage ≡ Connecting connect
  pub answer : Answer
  pub at_answer : x ≡ input.Answer answer
  pub response : ConnectResponse
  pub who : Who
  pub timeout : ℤ
  pub number : ℤ
  pub zxid : ℤ
  pub new : Connect
  pub attaches : ConnectSteps connect (Some answer) (Attached response who timeout number zxid) new
  pub later : List Action
  pub actions : out ≡ action.Send (connect_packet response) ∷ later
  pub walks : (store : Store) (lines : List TranscriptLine) (conn place looked : ℕ) → IsAttachment lines conn c number zxid place
      → Walks store lines conn (Unit {0}) (attached_core c who timeout number zxid) c' (at_start zxid (place + 1)) looked later

-- ---- the law

abbrev pub ConnectsAre : Type 0
ConnectsAre = (c c' : Core) (x : Input) (now : ℕ) (out : List Action) → is_connecting c.stage ≡ true → is_entry x ≡ false → Steps c x now c' out
    → IsSilent c c' out ⊎ IsRefusal c c' x out ⊎ IsWelcome c c' x out
