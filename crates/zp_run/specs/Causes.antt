-- What shows the cause for which a step closes a connection.
use Rattle.std.specs.Prelude.{◌≡◌, ◌⊎◌, ℕ, ℤ, pos, int_lt, List, Bool, true, false, Some, None, Contains}
use Rattle.ev_types.specs.declared.answer.ActAns.{ActAns}
use Rattle.ev_types.specs.declared.answer.Answer.TheVariants as answer
use Rattle.zk_jute.specs.Connects.{read_connect}
use Rattle.zk_jute.specs.Packets.{connect_packet, reply_packet}
use Rattle.zk_jute.specs.Requests.{read_request}
use Rattle.zk_model.specs.Watches.{no_watches}
use Rattle.zk_model.specs.declared.reply.Reply.{Reply}
use Rattle.zk_service.specs.Answers.{Told, plain_reply, xid_of, refusal, has_header, is_auth_refusal}
use Rattle.zn_layout.specs.Keys.{HeadKey}
use Rattle.zn_view.specs.Lookups.{HasSeen}
use Rattle.zk_service.specs.declared.cause.Cause.{Cause}
use Rattle.zk_service.specs.declared.cause.Cause.TheVariants as cause
use Rattle.zx_base.specs.Maps.{Bytes}
use Rattle.zn_view.specs.Adding.{IsFirstDamaged}
use Rattle.zn_view.specs.Seen.{View, head_of, head_zxid}
use Rattle.zn_view.specs.declared.plan.Who.{Who}
use Rattle.zn_view.specs.declared.want.Want.{Want}
use Rattle.zs_session.specs.Answering.{viewed}
use Rattle.zs_session.specs.Connecting.{SawNoneOfMine, is_taken}
use Rattle.zs_session.specs.Sessions.{life_key, session_wants}
use Rattle.zs_session.specs.declared.connect.Connect.{Connect}
use Rattle.zs_session.specs.declared.connect.Phase.TheVariants.{Creating}
use Rattle.zp_step.specs.declared.action.Action.{Action}
use Rattle.zp_step.specs.declared.action.Action.TheVariants as action
use Rattle.zp_step.specs.declared.input.Input.{Input}
use Rattle.zp_step.specs.declared.input.Input.TheVariants as input
use Rattle.zp_step.specs.Stages.{Core, Stage, Unconnected, Connecting}
use Rattle.zp_run.specs.Heard.{Heard, EndsFor, IsConnectHeard, IsGathered, IsResume}

-- the reply after which the connection ends was sent, and rests on what was heard
pub record IsEndReply (k : Heard) (who : Who) (out : List Action) (why : Cause) : Type 0 where
  pub xid : ℤ
  pub zxid : ℤ
  pub answer : Reply
  pub sent : Contains out (action.Send (reply_packet xid zxid answer))
  pub rests : EndsFor k who xid answer why

-- a frame is an `auth` with a scheme that is refused, and this was sent
pub record IsAuthEnd (k : Heard) (out : List Action) : Type 0 where
  pub frame : List ℕ
  pub came : Contains k.frames frame
  pub told : Told
  pub plain : plain_reply no_watches (read_request frame) ≡ Some told
  pub refused : is_auth_refusal told.reply ≡ true
  pub zxid : ℤ
  pub sent : Contains out (action.Send (reply_packet (xid_of (read_request frame)) zxid told.reply))

-- the first frame is no connect, or a later one has no header
abbrev pub LacksHeader : Stage → List ℕ → Type 0
LacksHeader (Unconnected fresh) bytes = read_connect bytes ≡ None
LacksHeader _ bytes = has_header (read_request bytes) ≡ false

-- an unreadable connect, or a request without a header, came in at this place
pub record IsHeadless (c : Core) (x : Input) (place : ℕ) : Type 0 where
  pub bytes : List ℕ
  pub came : x ≡ input.Frame bytes
  pub at : place ≡ c.taken
  pub lacks : LacksHeader c.stage bytes

-- the connection was getting its session by this connect, which was read from a frame that came
pub record IsConnecting (k : Heard) (c : Core) (connect : Connect) : Type 0 where
  pub stage : c.stage ≡ Connecting connect
  pub heard : IsConnectHeard k connect.request

-- The connect was to resume a session. Its number is below 1, or the record of its life was looked up, and was not there with the
-- connect's password.
pub record IsRefusedResume (k : Heard) (c : Core) (out : List Action) : Type 0 where
  pub connect : Connect
  pub connecting : IsConnecting k c connect
  pub resumes : IsResume connect.request
  pub view : View
  pub gathered : IsGathered k.answers view
  pub looked : (int_lt connect.request.session (pos 1) ≡ true) ⊎ HasSeen view (life_key connect.request.session)
  pub none : SawNoneOfMine connect.request view
  pub sent : Contains out (action.Send (connect_packet (refusal connect.request)))

-- the head was looked up, and the connect's last zxid is above its own
pub record IsAhead (k : Heard) (c : Core) (client head : ℤ) : Type 0 where
  pub connect : Connect
  pub connecting : IsConnecting k c connect
  pub own : client ≡ connect.request.last_zxid
  pub view : View
  pub gathered : IsGathered k.answers view
  pub looked : HasSeen view HeadKey
  pub shown : head ≡ head_zxid (head_of view)
  pub above : int_lt head client ≡ true

-- a guard of the transaction that makes the session did not hold at this revision, and one of the two keys of the session's number
-- was there
pub record IsTakenAt (k : Heard) (c : Core) (x : Input) (revision : ℤ) : Type 0 where
  pub connect : Connect
  pub connecting : IsConnecting k c connect
  pub creates : connect.phase ≡ Creating
  pub parts : List ActAns
  pub came : x ≡ input.Answer (answer.Txn revision false parts)
  pub there : is_taken connect.fresh.id (viewed revision (session_wants connect.fresh.id) parts) ≡ true

-- the answer that came has this value under this key, where it was looked for, and it is no record
pub record IsShownDamaged (x : Input) (key value : Bytes) : Type 0 where
  pub revision : ℤ
  pub succeeded : Bool
  pub parts : List ActAns
  pub came : x ≡ input.Answer (answer.Txn revision succeeded parts)
  pub wants : List Want
  pub damaged : IsFirstDamaged wants parts key value

-- A step of core c at input x, after which k was heard and `who` is the connection's session, did these actions, of which the
-- last closed the connection for this cause.
abbrev pub Shows : Heard → Core → Input → Who → List Action → Cause → Type 0
Shows k c x who out cause.Closed = IsEndReply k who out cause.Closed
Shows k c x who out (cause.Expired revision) = IsEndReply k who out (cause.Expired revision)
Shows k c x who out (cause.Moved mine found) = IsEndReply k who out (cause.Moved mine found)
Shows k c x who out (cause.ClientEnd place) = x ≡ input.ClientEnd place
Shows k c x who out (cause.BadLength place length) = x ≡ input.BadLength place length
Shows k c x who out (cause.NoHeader place) = IsHeadless c x place
Shows k c x who out cause.AuthRefused = IsAuthEnd k out
Shows k c x who out cause.Unknown = IsRefusedResume k c out
Shows k c x who out (cause.ZxidAhead client head) = IsAhead k c client head
Shows k c x who out (cause.Taken revision) = IsTakenAt k c x revision
Shows k c x who out cause.LinkFault = x ≡ input.Failed
Shows k c x who out (cause.Lagged cursor floor) = x ≡ input.Lagged cursor floor
Shows k c x who out cause.FeedClosed = x ≡ input.FeedClosed
Shows k c x who out (cause.Damaged key value) = IsShownDamaged x key value
Shows k c x who out cause.ReadFault = ⊥
Shows k c x who out cause.WriteFault = ⊥
Shows k c x who out cause.Restart = ⊥
Shows k c x who out cause.Memory = ⊥
