-- How a connection gets its session (Programmer's Guide, "ZooKeeper Sessions"): what it asks in each phase, and what it does
-- at the answer.
use Rattle.std.specs.Prelude.{◌≡◌, ◌⊎◌, ℤ, pos, ◌≤ℤ◌, int_lt, Bool, true, false, ◌||◌, is_some, List, [], Option, Some, None, MatchBool}
use Rattle.std.specs.Ordering.{int_eq}
use Rattle.ev_types.specs.declared.answer.ActAns.{ActAns}
use Rattle.ev_types.specs.declared.answer.Answer.{Answer}
use Rattle.ev_types.specs.declared.answer.Answer.TheVariants as answer
use Rattle.ev_types.specs.declared.answer.Kv.{Kv}
use Rattle.ev_types.specs.declared.ask.Ask.{Ask}
use Rattle.ev_types.specs.declared.ask.Ask.TheVariants as ask
use Rattle.zk_model.specs.declared.connect.ConnectRequest.{ConnectRequest}
use Rattle.zk_service.specs.Answers.{answered_read_only}
use Rattle.zk_service.specs.States.{granted_timeout}
use Rattle.zx_base.specs.Maps.{Bytes}
use Rattle.zn_layout.specs.declared.record.LeaseRec.{LeaseRec}
use Rattle.zn_layout.specs.Keys.{Key, HeadKey, key_bytes}
use Rattle.zn_layout.specs.Records.{IsLeaseRec}
use Rattle.zn_view.specs.declared.want.Want.{Want}
use Rattle.zn_view.specs.Adding.{AreRecords}
use Rattle.zn_view.specs.Asks.{kept_under, last_part, reading}
use Rattle.zn_view.specs.Lookups.{sees, IsLifeIn}
use Rattle.zn_view.specs.Seen.{View, found_of, head_of, head_number, head_zxid}
use Rattle.zs_session.specs.declared.connect.Connect.{Connect}
use Rattle.zs_session.specs.declared.connect.ConnectStep.{ConnectStep}
use Rattle.zs_session.specs.declared.connect.ConnectStep.TheVariants as steps
use Rattle.zs_session.specs.declared.connect.Phase.{Phase}
use Rattle.zs_session.specs.declared.connect.Phase.TheVariants.{Unasked, Looking, Granting, Creating, Keeping, LookingAgain, Attaching, Over}
use Rattle.zs_session.specs.declared.fault.StepFault.{StepFault}
use Rattle.zs_session.specs.Answering.{IsAwaited, IsLookFault, OfTxn, OfAlive, viewed}
use Rattle.zs_session.specs.Sessions.{lease_seconds, life_key, nodes_key, session_wants, new_session_txn, attach_wants, attach_txn, first_wants}

-- ---- what is asked in each phase

abbrev pub timeout_in : Connect → ℤ
timeout_in c = granted_timeout c.request.timeout

abbrev pub asked_in_phase : Connect → Phase → Option Ask
asked_in_phase c Unasked = None
asked_in_phase c Looking = Some (reading (pos 0) (first_wants c.request))
asked_in_phase c Granting = Some (ask.Grant c.fresh.id (lease_seconds (timeout_in c)))
asked_in_phase c Creating = Some (ask.Txn (new_session_txn c.fresh (timeout_in c)))
asked_in_phase c (Keeping seen life) = Some (ask.Alive c.request.session)
asked_in_phase c LookingAgain = Some (reading (pos 0) (attach_wants c.request.session))
asked_in_phase c (Attaching seen life) = Some (ask.Txn (attach_txn c.request.session seen life))
asked_in_phase c Over = None

-- a step is made with an answer to what was asked last, the first with none; after the end there is no step
pub record MayStepConnect (c : Connect) (a : Option Answer) : Type 0 where
  pub going : c.phase ≡ Over → ⊥
  pub awaited : IsAwaited (asked_in_phase c c.phase) a

-- ---- what a connecting connection knows: that it is to have a new session, or which one it resumes

-- a session's number, and a record of its life with the client's password
pub record IsResumable (r : ConnectRequest) (life : LeaseRec) : Type 0 where
  pub session : pos 1 ≤ℤ r.session
  pub within : IsLeaseRec life
  pub passwd : life.passwd ≡ r.passwd

abbrev pub IsConnectPhase : ConnectRequest → Phase → Type 0
IsConnectPhase r Unasked = Unit {0}
IsConnectPhase r Looking = Unit {0}
IsConnectPhase r Granting = r.session ≡ pos 0
IsConnectPhase r Creating = r.session ≡ pos 0
IsConnectPhase r (Keeping seen life) = IsResumable r life
IsConnectPhase r LookingAgain = pos 1 ≤ℤ r.session
IsConnectPhase r (Attaching seen life) = IsResumable r life
IsConnectPhase r Over = Unit {0}

pub record IsConnectHeld (c : Connect) : Type 0 where
  pub fresh : pos 1 ≤ℤ c.fresh.id
  pub phase : IsConnectPhase c.request c.phase

-- ---- what a step answers

abbrev pub asked_by_connect : ConnectStep → Option Ask
asked_by_connect (steps.Ask q) = Some q
asked_by_connect _ = None

-- the connect goes on to this phase, and the step asks what is asked in it
abbrev pub Waits : Connect → Phase → Phase → ConnectStep → Type 0
Waits c next phase step = (phase ≡ next) × (asked_by_connect step ≡ asked_in_phase c next)

abbrev pub ConnectEnds : ConnectStep → Phase → ConnectStep → Type 0
ConnectEnds end phase step = (phase ≡ Over) × (step ≡ end)

-- the number of the update, by the head that its transaction put and then read
abbrev pub number_shown : List ActAns → ℤ
number_shown parts = head_number (kept_under (key_bytes HeadKey) (last_part parts))

-- the session is attached to this connection, by the transaction of this zxid
abbrev pub attached : ConnectRequest → ℤ → ℤ → Bytes → ℤ → List ActAns → ConnectStep
attached r id timeout passwd zxid parts = steps.Attached
    (record { timeout = timeout; session = id; passwd = passwd; read_only = answered_read_only r })
    (record { session = id; mine = zxid })
    timeout
    (number_shown parts)
    zxid

-- ---- what a view shows of a session

abbrev pub is_there : View → Key → Bool
is_there v k = is_some (found_of (sees v k))

-- the view shows this record of a session's life, last put at this revision
pub record SawLifeAt (v : View) (id : ℤ) (seen : ℤ) (life : LeaseRec) : Type 0 where
  pub kv : Kv
  pub shown : sees v (life_key id) ≡ Some (Some kv)
  pub value : IsLifeIn kv life
  pub revision : seen ≡ kv.mod_revision

-- the view shows the life of the session that is to be resumed, and the connect has its password
pub record SawMine (r : ConnectRequest) (v : View) (seen : ℤ) (life : LeaseRec) : Type 0 where
  pub session : pos 1 ≤ℤ r.session
  pub saw : SawLifeAt v r.session seen life
  pub passwd : life.passwd ≡ r.passwd

abbrev pub SawNoneOfMine : ConnectRequest → View → Type 0
SawNoneOfMine r v = (seen : ℤ) (life : LeaseRec) → SawMine r v seen life → ⊥

-- a resume is refused, or goes on to the next phase
abbrev pub Resumes : Connect → View → (ℤ → LeaseRec → Phase) → Phase → ConnectStep → Type 0
Resumes c v next phase step =
    (SawNoneOfMine c.request v × ConnectEnds steps.Unknown phase step)
    ⊎ ((seen : ℤ) × (life : LeaseRec) × SawMine c.request v seen life × Waits c (next seen life) phase step)

-- ---- at each answer

-- a client that has seen a greater zxid than the head's is ahead; a session number of 0 is a new session's; any other is resumed
abbrev pub ConnectLooksFirst : Connect → View → Phase → ConnectStep → Type 0
ConnectLooksFirst c v phase step =
    let head = head_zxid (head_of v) in
    MatchBool (int_lt head c.request.last_zxid) (ConnectEnds (steps.Ahead c.request.last_zxid head) phase step)
    (MatchBool (int_eq c.request.session (pos 0)) (Waits c Granting phase step) (Resumes c v Keeping phase step))

abbrev pub ConnectLooked : Connect → ℤ → List ActAns → Phase → ConnectStep → Type 0
ConnectLooked c revision parts phase step = AreRecords (first_wants c.request) parts × ConnectLooksFirst c (viewed revision (first_wants c.request) parts) phase step

-- one of the two keys of the fresh number is there
abbrev pub is_taken : ℤ → View → Bool
is_taken id v = is_there v (life_key id) || is_there v (nodes_key id)

-- the new session is attached; or a guard failed: its number is taken, or where neither key is there the transaction is asked again
abbrev pub Created : Connect → ℤ → Bool → List ActAns → Phase → ConnectStep → Type 0
Created c revision true parts phase step = ConnectEnds (attached c.request c.fresh.id (timeout_in c) c.fresh.passwd revision parts) phase step
Created c revision false parts phase step =
    AreRecords (session_wants c.fresh.id) parts
    × MatchBool (is_taken c.fresh.id (viewed revision (session_wants c.fresh.id) parts)) (ConnectEnds (steps.Taken revision) phase step) (Waits c Creating phase step)

-- where a keepalive answers no seconds the lease may be gone, and the session is looked at again; otherwise its attachment is asked
abbrev pub Kept : Connect → ℤ → LeaseRec → ℤ → Phase → ConnectStep → Type 0
Kept c seen life seconds phase step = MatchBool (int_eq seconds (pos 0)) (Waits c LookingAgain phase step) (Waits c (Attaching seen life) phase step)

-- after another look at the session's life the resume is refused, or the attachment is asked
abbrev pub ConnectLookedAgain : Connect → ℤ → List ActAns → Phase → ConnectStep → Type 0
ConnectLookedAgain c revision parts phase step = AreRecords (attach_wants c.request.session) parts × Resumes c (viewed revision (attach_wants c.request.session) parts) Attaching phase step

-- the session is attached, with its own timeout; or the guard failed, and what is there now is taken as another look
abbrev pub Attached : Connect → LeaseRec → ℤ → Bool → List ActAns → Phase → ConnectStep → Type 0
Attached c life revision true parts phase step = ConnectEnds (attached c.request c.request.session life.timeout life.passwd revision parts) phase step
Attached c life revision false parts phase step = ConnectLookedAgain c revision parts phase step

-- ---- one step

abbrev pub ConnectAnswers : Connect → Phase → Answer → Phase → ConnectStep → Type 0
ConnectAnswers c Unasked a phase step = ⊥
ConnectAnswers c Looking a phase step = OfTxn a (λ revision succeeded parts. ConnectLooked c revision parts phase step)
ConnectAnswers c Granting a phase step = Waits c Creating phase step
ConnectAnswers c Creating a phase step = OfTxn a (λ revision succeeded parts. Created c revision succeeded parts phase step)
ConnectAnswers c (Keeping seen life) a phase step = OfAlive a (λ seconds. Kept c seen life seconds phase step)
ConnectAnswers c LookingAgain a phase step = OfTxn a (λ revision succeeded parts. ConnectLookedAgain c revision parts phase step)
ConnectAnswers c (Attaching seen life) a phase step = OfTxn a (λ revision succeeded parts. Attached c life revision succeeded parts phase step)
ConnectAnswers c Over a phase step = ⊥

abbrev pub ConnectMoves : Connect → Option Answer → Phase → ConnectStep → Type 0
ConnectMoves c None phase step = Waits c Looking phase step
ConnectMoves c (Some a) phase step = ConnectAnswers c c.phase a phase step

-- one step: from a connect, by an answer, to what the step says and to the next connect
pub record ConnectSteps (c : Connect) (a : Option Answer) (step : ConnectStep) (new : Connect) : Type 0 where
  pub same : new ≡ record { request = c.request; fresh = c.fresh; phase = new.phase }
  pub moves : ConnectMoves c a new.phase step

-- what a connect waits for after a step: an answer to what the step asked; after a step that asked nothing it is over
pub record IsConnectWaiting (step : ConnectStep) (new : Connect) : Type 0 where
  pub asked : asked_by_connect step ≡ asked_in_phase new new.phase
  pub ends : asked_by_connect step ≡ None → new.phase ≡ Over

-- ---- what may be damaged: the parts of a look

-- the keys that were looked at, and the parts that show them; none where the answer shows none
abbrev pub looked_at_in : Connect → Phase → Answer → List Want × List ActAns
looked_at_in c Looking (answer.Txn revision succeeded parts) = (first_wants c.request, parts)
looked_at_in c Creating (answer.Txn revision false parts) = (session_wants c.fresh.id, parts)
looked_at_in c LookingAgain (answer.Txn revision succeeded parts) = (attach_wants c.request.session, parts)
looked_at_in c (Attaching seen life) (answer.Txn revision false parts) = (attach_wants c.request.session, parts)
looked_at_in _ _ _ = ([], [])

abbrev pub IsFaultOfConnect : Connect → Phase → Answer → StepFault → Type 0
IsFaultOfConnect c phase a fault = let x = looked_at_in c phase a in IsLookFault x.0 x.1 fault

abbrev pub IsConnectFault : Connect → Option Answer → StepFault → Type 0
IsConnectFault c None fault = IsLookFault [] [] fault
IsConnectFault c (Some a) fault = IsFaultOfConnect c c.phase a fault
