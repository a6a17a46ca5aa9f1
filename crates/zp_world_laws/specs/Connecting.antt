-- What is known of a connection to which no session is attached yet.
use Rattle.ev_types.specs.Denials.{carry}
use Rattle.ev_types.specs.Store.{Store, present}
use Rattle.ev_types.specs.declared.answer.Answer.TheVariants as answer
use Rattle.ev_types.specs.declared.answer.Answer.{Answer}
use Rattle.ev_types.specs.declared.ask.Ask.{Ask}
use Rattle.std.specs.Prelude.{List, None, Option, Some, [], length, pos, slice_get, true, ℕ, ℤ, ◌+◌, ◌<◌, ◌≡◌, ◌≤ℤ◌, ◌≤◌}
use Rattle.zk_jute.specs.Connects.{read_connect}
use Rattle.zk_model.specs.Limits.{max_long}
use Rattle.zk_model.specs.declared.connect.ConnectRequest.{ConnectRequest}
use Rattle.zk_service.specs.States.{IsSound, Session, session_at}
use Rattle.zk_transcript.specs.History.{after, opening, state_at}
use Rattle.zk_transcript.specs.Legal.{attach_of}
use Rattle.zk_transcript.specs.Walks.{packets, placed_frame}
use Rattle.zk_transcript.specs.declared.transcript.TranscriptLine.TheVariants.{Update}
use Rattle.zk_transcript.specs.declared.transcript.TranscriptLine.{TranscriptLine}
use Rattle.zk_service.specs.declared.update.UpdateRec.{UpdateRec}
use Rattle.zn_layout.specs.Records.{IsLeaseRec}
use Rattle.zn_layout.specs.StandsFor.{StandsFor}
use Rattle.zn_layout.specs.declared.record.LeaseRec.{LeaseRec}
use Rattle.zp_step.specs.Kinds.{kind_of_connect}
use Rattle.zp_script.specs.declared.flight.Asking.{Asking}
use Rattle.zp_script.specs.declared.flight.Flight.TheVariants.{Carried, Denied, Out}
use Rattle.zp_script.specs.declared.flight.Flight.{Flight}
use Rattle.zp_laws.specs.Frames.{AreFrames}
use Rattle.zp_laws.specs.Inputs.{Precedes}
use Rattle.zp_laws.specs.Standing.{is_ahead}
use Rattle.zp_step.specs.Stages.{Connecting, Core, Stage, Unconnected}
use Rattle.zp_world_laws.specs.Bounds.{WasLifeOf}
use Rattle.zs_session.specs.Connecting.{asked_in_phase, number_shown, timeout_in}
use Rattle.zs_session.specs.declared.connect.Connect.{Connect}
use Rattle.zk_service.specs.declared.fresh.Fresh.{Fresh}
use Rattle.zs_session.specs.declared.connect.Phase.TheVariants.{Attaching, Creating, Granting, Keeping, Looking, LookingAgain, Over, Unasked}
use Rattle.zs_session.specs.declared.connect.Phase.{Phase}

-- ---- no frame came

-- what it offers for a new session: a number that sessions have, and a password of 16 bytes
pub record IsOffer (fresh : Fresh) : Type 0 where
  pub least : pos 1 ≤ℤ fresh.id
  pub most : fresh.id ≤ℤ max_long
  pub long : length fresh.passwd ≡ 16

-- nothing was sent to it, none of its requests was carried out, and its `open` line shows this offer
pub record IsUntouched (lines : List TranscriptLine) (c : ℕ) (fresh : Fresh) : Type 0 where
  pub silent : packets c lines ≡ []
  pub turn : is_ahead lines c 1 ≡ true
  pub offered : opening c lines ≡ Some fresh
  pub offer : IsOffer fresh

pub record IsUnconnected (lines : List TranscriptLine) (c : ℕ) (core : Core) (fresh : Fresh) : Type 0 where
  pub untouched : IsUntouched lines c fresh
  pub unattached : attach_of c lines ≡ None
  pub none_waits : core.waiting ≡ []

-- ---- its connect came, and an ask of it is out

-- the session's life, as it was seen, has the client's password
pub record IsSeenLife (store : Store) (r : ConnectRequest) (seen : ℤ) (life : LeaseRec) : Type 0 where
  pub session : pos 1 ≤ℤ r.session
  pub put : pos 1 ≤ℤ seen
  pub within : IsLeaseRec life
  pub passwd : life.passwd ≡ r.passwd
  pub was : WasLifeOf store r.session seen life

-- what each phase rests on, where the last update has this zxid: the client has seen no later one
abbrev pub RestsOn : Store → ℤ → ConnectRequest → Phase → Type 0
RestsOn store z r Unasked = ⊥
RestsOn store z r Looking = Unit {0}
RestsOn store z r Granting = (r.session ≡ pos 0) × (r.last_zxid ≤ℤ z)
RestsOn store z r Creating = (r.session ≡ pos 0) × (r.last_zxid ≤ℤ z)
RestsOn store z r (Keeping seen life) = IsSeenLife store r seen life × (r.last_zxid ≤ℤ z)
RestsOn store z r LookingAgain = (pos 1 ≤ℤ r.session) × (r.last_zxid ≤ℤ z)
RestsOn store z r (Attaching seen life) = IsSeenLife store r seen life × (r.last_zxid ≤ℤ z)
RestsOn store z r Over = ⊥

-- ---- what was carried out and waits to be delivered

-- the connection's own line: its session has this timeout and password, and it is the update of this zxid and number
pub record IsOwnSession (lines : List TranscriptLine) (c : ℕ) (id timeout : ℤ) (passwd : List ℕ) (zxid number : ℤ) : Type 0 where
  pub least : pos 1 ≤ℤ id
  pub most : id ≤ℤ max_long
  pub rises : pos 1 ≤ℤ zxid
  pub place : ℕ
  pub attached : attach_of c lines ≡ Some (place, record { zxid = zxid; session = id })
  pub update : UpdateRec
  pub shown : slice_get lines place ≡ Some (Update update)
  pub same : update.zxid ≡ zxid
  pub counted : number ≡ pos (state_at lines (place + 1)).updates
  pub session : Session
  pub there : session_at id (state_at lines (place + 1)) ≡ Some session
  pub timeout_is : session.timeout ≡ timeout
  pub passwd_is : session.passwd ≡ passwd

-- a transaction that attached a session has its line; otherwise the connection has no own line
abbrev pub HasOwnLine : List TranscriptLine → ℕ → Connect → Phase → Answer → Type 0
HasOwnLine lines c x Creating (answer.Txn revision true parts) = IsOwnSession lines c x.fresh.id (timeout_in x) x.fresh.passwd revision (number_shown parts)
HasOwnLine lines c x (Attaching seen life) (answer.Txn revision true parts) = IsOwnSession lines c x.request.session life.timeout life.passwd revision (number_shown parts)
HasOwnLine lines c x phase a = attach_of c lines ≡ None

-- what the phase asks was carried out at the moment `looked`, after the connect's line
pub record IsConnectAnswer (store : Store) (lines : List TranscriptLine) (c place : ℕ) (x : Connect) (a : Answer) : Type 0 where
  pub asked : Ask
  pub out : asked_in_phase x x.phase ≡ Some asked
  pub before : Store
  pub then_store : Store
  pub carried_out : carry before asked ≡ Some (then_store, a)
  pub is : Precedes then_store store
  pub looked : ℕ
  pub passed : place < looked
  pub within : looked ≤ length lines
  -- the last zxid has not fallen since
  pub risen : (state_at lines looked).zxid ≤ℤ (after lines).zxid
  pub stands : StandsFor (present then_store) (state_at lines looked)
  pub sound : IsSound (state_at lines looked)
  pub rests : RestsOn then_store (state_at lines looked).zxid x.request x.phase
  pub own : HasOwnLine lines c x x.phase a

-- ---- both

-- what the phase asks, which may be carried out at any later time
pub record IsConnectOut (store : Store) (lines : List TranscriptLine) (c : ℕ) (x : Connect) (a : Asking) : Type 0 where
  pub asked : asked_in_phase x x.phase ≡ Some a.ask
  pub kind : a.kind ≡ kind_of_connect c x x.phase
  pub rests : RestsOn store (after lines).zxid x.request x.phase
  pub unattached : attach_of c lines ≡ None

abbrev pub IsConnectFlight : Store → List TranscriptLine → ℕ → ℕ → Connect → Option Flight → Type 0
IsConnectFlight store lines c place x None = ⊥
IsConnectFlight store lines c place x (Some (Out a)) = IsConnectOut store lines c x a
IsConnectFlight store lines c place x (Some (Carried a)) = IsConnectAnswer store lines c place x a
IsConnectFlight store lines c place x (Some Denied) = attach_of c lines ≡ None

pub record IsConnecting (store : Store) (lines : List TranscriptLine) (c : ℕ) (core : Core) (x : Connect) (flight : Option Flight) : Type 0 where
  pub untouched : IsUntouched lines c x.fresh
  pub next : core.next ≡ 1
  pub waiting : AreFrames lines c 1 core.waiting
  -- its connect
  pub place : ℕ
  pub bytes : List ℕ
  pub framed : placed_frame c 0 lines ≡ Some (place, bytes)
  pub reads : read_connect bytes ≡ Some x.request
  pub flies : IsConnectFlight store lines c place x flight

abbrev pub IsInStage : Store → List TranscriptLine → ℕ → Core → Option Flight → Stage → Type 0
IsInStage store lines c core flight (Unconnected fresh) = IsUnconnected lines c core fresh × (flight ≡ None)
IsInStage store lines c core flight (Connecting x) = IsConnecting store lines c core x flight
IsInStage store lines c core flight _ = Unit {0}
