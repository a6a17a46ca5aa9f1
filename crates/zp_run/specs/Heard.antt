-- What a connection has heard: its client's frames, and etcd's answers to what was asked. What its stage holds comes from there.
use Rattle.std.specs.Prelude.{◌≡◌, ℕ, ℤ, pos, List, [], ◌∷◌, ◌++◌, Bool, false, Option, Some, None, All, Contains}
use Rattle.std.specs.Ordering.{int_eq}
use Rattle.ev_types.specs.declared.answer.ActAns.{ActAns}
use Rattle.ev_types.specs.declared.answer.Answer.{Answer}
use Rattle.ev_types.specs.declared.answer.Answer.TheVariants as answer
use Rattle.ev_types.specs.Store.{chosen}
use Rattle.ev_types.specs.declared.answer.Kv.{Kv}
use Rattle.ev_types.specs.declared.ask.Ask.{Ask}
use Rattle.ev_types.specs.declared.ask.Ask.TheVariants as ask
use Rattle.ev_types.specs.declared.ask.TxnReq.{TxnReq}
use Rattle.zk_jute.specs.Connects.{read_connect}
use Rattle.zk_jute.specs.Requests.{Asks, read_request}
use Rattle.zk_model.specs.Codes.{session_expired, session_moved}
use Rattle.zk_model.specs.declared.reply.Reply.{Reply}
use Rattle.zk_model.specs.declared.reply.Reply.TheVariants as reply
use Rattle.zk_model.specs.declared.request.Request.{Request}
use Rattle.zk_model.specs.declared.request.Request.TheVariants as req
use Rattle.zk_service.specs.declared.cause.Cause.{Cause}
use Rattle.zk_service.specs.declared.cause.Cause.TheVariants as cause
use Rattle.zn_view.specs.Adding.{at_revision}
use Rattle.zn_view.specs.Asks.{ranges_of, with_parts}
use Rattle.zn_view.specs.Lookups.{found_at, sees}
use Rattle.zn_view.specs.Seen.{View, empty_view}
use Rattle.zn_view.specs.declared.plan.Who.{Who}
use Rattle.zn_view.specs.declared.want.Want.{Want}
use Rattle.zk_model.specs.declared.connect.ConnectRequest.{ConnectRequest}
use Rattle.zs_session.specs.Sessions.{life_key}
use Rattle.zs_session.specs.declared.connect.Phase.{Phase}
use Rattle.zs_session.specs.declared.connect.Phase.TheVariants.{Unasked, Looking, Granting, Creating, Keeping, LookingAgain, Attaching, Over}
use Rattle.zp_step.specs.Ending.{asked_by}
use Rattle.zp_step.specs.declared.action.Action.{Action}
use Rattle.zp_step.specs.declared.input.Input.{Input}
use Rattle.zp_step.specs.declared.input.Input.TheVariants as input
use Rattle.zp_step.specs.Stages.{Core, Pending, Stage, Unconnected, Connecting, Ready, KeepingAlive, Checking, Reading, Committing, Waiting, Shut, asked_of}
use Rattle.zp_step.specs.Looking.{IsForTree}

-- the frames that came, the connect first; what was asked last; and the answers, each after what it answers. The frames and the
-- answers are in order.
pub record Heard : Type 0 where
  pub frames : List (List ℕ)
  pub asked : Option Ask
  pub answers : List (Ask × Answer)

abbrev pub nothing_heard : Heard
nothing_heard = record { frames = []; asked = None; answers = [] }

-- an answer is one to what was asked last
abbrev pub with_answer : Option Ask → Answer → List (Ask × Answer) → List (Ask × Answer)
with_answer None a answers = answers
with_answer (Some q) a answers = answers ++ (q, a) ∷ []

abbrev pub hears : Heard → Input → Heard
hears k (input.Frame bytes) = record k { frames = k.frames ++ bytes ∷ [] }
hears k (input.Answer a) = record k { answers = with_answer k.asked a k.answers }
hears k _ = k

abbrev pub then_asked : Heard → Option Ask → Heard
then_asked k None = k
then_asked k (Some q) = record k { asked = Some q }

-- what was heard after a step: its input, and what it asked
abbrev pub heard_after : Heard → Input → List Action → Heard
heard_after k x out = then_asked (hears k x) (asked_by out)

-- ---- a view that was read from answers: it is empty, or it is another such view with what the parts of an answer show. What it
-- shows was asked: the ranges of these keys, the first ones at the present and later ones at the view's revision

pub data IsGathered (answers : List (Ask × Answer)) : View → Type 0 where
  nothing : {v : View} → v ≡ empty_view → IsGathered answers v
  round : {v : View} (old : View) (t : TxnReq) (ws : List Want) (revision : ℤ) (succeeded : Bool) (parts : List ActAns) → IsGathered answers old
      → Contains answers (ask.Txn t, answer.Txn revision succeeded parts) → chosen succeeded t ≡ ranges_of old.revision ws
      → v ≡ with_parts (at_revision old revision) ws parts → IsGathered answers v

-- ---- what a reply rests on after which the connection ends

-- the record of the session's life was looked up, and was not there
pub record IsSeenGone (k : Heard) (who : Who) (revision : ℤ) : Type 0 where
  pub view : View
  pub gathered : IsGathered k.answers view
  pub at : view.revision ≡ revision
  pub gone : sees view (life_key who.session) ≡ Some None

-- an answer shows that the record was put by the update `found`, and not by this connection's own
pub record IsSeenMoved (k : Heard) (who : Who) (mine found : ℤ) : Type 0 where
  pub view : View
  pub gathered : IsGathered k.answers view
  pub own : mine ≡ who.mine
  pub kv : Kv
  pub there : found_at view (life_key who.session) ≡ Some kv
  pub put : kv.mod_revision ≡ found
  pub other : int_eq found mine ≡ false

-- frame with this xid asks this
pub record IsFrameAsking (k : Heard) (xid : ℤ) (r : Request) : Type 0 where
  pub frame : List ℕ
  pub came : Contains k.frames frame
  pub reads : read_request frame ≡ Asks xid r

abbrev pub EndsFor : Heard → Who → ℤ → Reply → Cause → Type 0
EndsFor k who xid answer cause.Closed = IsFrameAsking k xid req.Close
EndsFor k who xid answer (cause.Expired revision) = (answer ≡ reply.Refused session_expired) × IsSeenGone k who revision
EndsFor k who xid answer (cause.Moved mine found) = (answer ≡ reply.Refused session_moved) × IsSeenMoved k who mine found
EndsFor k who xid answer _ = ⊥

abbrev pub MayEndFor : Heard → Who → Pending → Option Cause → Type 0
MayEndFor k who p None = Unit {0}
MayEndFor k who p (Some why) = EndsFor k who p.xid p.answer why

-- ---- what a stage holds comes from what was heard

-- a session's number is 0 in the connect for a new one
abbrev pub IsResume : ConnectRequest → Type 0
IsResume r = int_eq r.session (pos 0) ≡ false

-- from the keepalive on, a connect resumes a session
abbrev pub ResumesFrom : ConnectRequest → Phase → Type 0
ResumesFrom r Unasked = Unit {0}
ResumesFrom r Looking = Unit {0}
ResumesFrom r Granting = Unit {0}
ResumesFrom r Creating = Unit {0}
ResumesFrom r (Keeping seen life) = IsResume r
ResumesFrom r LookingAgain = IsResume r
ResumesFrom r (Attaching seen life) = IsResume r
ResumesFrom r Over = Unit {0}

-- the connect was read from a frame that came
pub record IsConnectHeard (k : Heard) (r : ConnectRequest) : Type 0 where
  pub frame : List ℕ
  pub came : Contains k.frames frame
  pub reads : read_connect frame ≡ Some r

abbrev pub HoldsHeard : Heard → Who → Stage → Type 0
HoldsHeard k who (Unconnected fresh) = Unit {0}
HoldsHeard k who (Connecting connect) = IsConnectHeard k connect.request × ResumesFrom connect.request connect.phase
HoldsHeard k who Ready = Unit {0}
HoldsHeard k who (KeepingAlive frame) = Contains k.frames frame
HoldsHeard k who (Checking frame) = Contains k.frames frame
HoldsHeard k who (Reading xid r v ws) = IsFrameAsking k xid r × IsForTree r × IsGathered k.answers v
HoldsHeard k who (Committing xid r v p time) = IsFrameAsking k xid r × IsForTree r
HoldsHeard k who (Waiting p) = MayEndFor k who p p.ends
HoldsHeard k who Shut = Unit {0}

-- what waits and what the stage holds came, and what is out was asked last
pub record Rests (k : Heard) (c : Core) : Type 0 where
  pub waiting : All (Contains k.frames) c.waiting
  pub stage : HoldsHeard k c.who c.stage
  pub asked : (q : Ask) → asked_of c.who c.stage ≡ Some q → k.asked ≡ Some q
