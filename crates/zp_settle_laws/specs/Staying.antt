-- When an open connection stays open.
use Rattle.std.specs.Prelude.{Bool, Contains, List, None, Option, Some, [], false, true, ℕ, ◌||◌, ◌∷◌, ◌≡◌, ◌⊎◌}
use Rattle.zk_jute.specs.Requests.{Asks, Frame, read_request}
use Rattle.zk_model.specs.Watches.{no_watches}
use Rattle.zk_model.specs.declared.request.Request.TheVariants as req
use Rattle.zk_model.specs.declared.request.Request.{Request}
use Rattle.zk_service.specs.Answers.{Told, plain_reply, has_header, is_auth_refusal}
use Rattle.zk_service.specs.States.{Session, session_at}
use Rattle.zk_transcript.specs.History.{after}
use Rattle.zk_service.specs.declared.cause.Cause.TheVariants as cause
use Rattle.zk_service.specs.declared.cause.Ended.TheVariants as ended
use Rattle.zk_transcript.specs.declared.transcript.TranscriptLine.TheVariants.{Close}
use Rattle.zk_transcript.specs.declared.transcript.TranscriptLine.{TranscriptLine}
use Rattle.zn_view.specs.declared.plan.Who.{Who}
use Rattle.zp_script.specs.Arriving.{Arrives}
use Rattle.zp_script.specs.Happens.{Settles}
use Rattle.zp_script.specs.Worlds.{Conn, Connection, World, conn_at, is_closed_actor}
use Rattle.zp_world_laws.specs.Accounting.{IsAccounted}
use Rattle.zp_step.specs.Stages.{Checking, Committing, Connecting, Core, KeepingAlive, Reading, Ready, Shut, Stage, Unconnected, Waiting}

-- the session lives, and the last attachment of it is the connection's own
pub record IsAttachedHere (lines : List TranscriptLine) (who : Who) : Type 0 where
  pub session : Session
  pub there : session_at who.session (after lines) ≡ Some session
  pub alive : session.lapsed ≡ false
  pub mine : session.attached ≡ who.mine

-- ---- what ends a connection by itself

-- the refusal of an authentication
abbrev pub refuses : Option Told → Bool
refuses None = false
refuses (Some t) = is_auth_refusal t.reply

abbrev pub is_close : Request → Bool
is_close req.Close = true
is_close _ = false

abbrev pub asks_close : Frame → Bool
asks_close (Asks xid r) = is_close r
asks_close _ = false

-- such a frame closes its connection: after its answer nothing follows
abbrev pub closes_after : Frame → Bool
closes_after x = asks_close x || refuses (plain_reply no_watches x)

-- none of these frames closes its connection
abbrev pub AreLasting : List (List ℕ) → Type 0
AreLasting [] = Unit {0}
AreLasting (f ∷ fs) = (closes_after (read_request f) ≡ false) × AreLasting fs

-- a connection with a session is in this stage, and neither its frame or request at work closes it nor a reply that waits
abbrev pub IsLastingIn : Stage → Type 0
IsLastingIn (Unconnected fresh) = ⊥
IsLastingIn (Connecting connect) = ⊥
IsLastingIn Ready = Unit {0}
IsLastingIn (KeepingAlive frame) = closes_after (read_request frame) ≡ false
IsLastingIn (Checking frame) = closes_after (read_request frame) ≡ false
IsLastingIn (Reading xid r v ws) = is_close r ≡ false
IsLastingIn (Committing xid r v p time) = is_close r ≡ false
IsLastingIn (Waiting p) = p.ends ≡ None
IsLastingIn Shut = ⊥

pub record IsLasting (core : Core) : Type 0 where
  pub work : IsLastingIn core.stage
  pub waiting : AreLasting core.waiting

-- ---- in a world

-- an open connection with a session, nothing of which ends it
pub record StaysOpen (c : ℕ) (w : World) : Type 0 where
  pub conn : Conn
  pub core : Core
  pub there : conn_at c w ≡ Some conn
  pub actor : conn.actor ≡ Connection core
  pub lasting : IsLasting core
  pub here : IsAttachedHere w.lines core.who

-- it has ended, and its line says that its link failed, as where the store denies what it asks
pub record IsDenied (c : ℕ) (w : World) : Type 0 where
  pub conn : Conn
  pub there : conn_at c w ≡ Some conn
  pub closed : is_closed_actor conn.actor ≡ true
  pub shown : Contains w.lines (Close c (ended.Cause cause.LinkFault))

-- it stays so through a settle, however many lines that does, or is denied what it asks
abbrev pub SettlesOpen : Type 0
SettlesOpen = (w w' : World) (c n : ℕ) → IsAccounted w → StaysOpen c w → Settles n c w w' → StaysOpen c w' ⊎ IsDenied c w'

-- ---- frames that come

-- each of these frames has a header, and none closes its connection
abbrev pub AreMild : List (List ℕ) → Type 0
AreMild [] = Unit {0}
AreMild (f ∷ fs) = (has_header (read_request f) ≡ true) × (closes_after (read_request f) ≡ false) × AreMild fs

-- bytes that bring such frames and no length out of range leave it so
abbrev pub FramesLeaveOpen : Type 0
FramesLeaveOpen = (w w' : World) (c : ℕ) (bytes : List ℕ) → (a : Arrives c w bytes w') → AreMild a.frames → a.bad ≡ None → StaysOpen c w → StaysOpen c w'
