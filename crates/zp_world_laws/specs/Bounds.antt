-- What an ask that is out is bound to: whenever the store carries it out, it is an update that the service could make then, or it
-- changes nothing. All of it goes on holding while the store and the transcript grow.
use Rattle.std.specs.Prelude.{◌≡◌, ℕ, ℤ, pos, ◌≤◌, ◌≤ℤ◌, true, List, [], length, Option, Some, None, All}
use Rattle.ev_types.specs.Store.{Store, revision, store_at}
use Rattle.ev_types.specs.declared.answer.Kv.{Kv}
use Rattle.ev_types.specs.declared.ask.Ask.{Ask}
use Rattle.ev_types.specs.declared.ask.Ask.TheVariants as ask
use Rattle.ev_types.specs.declared.ask.TxnReq.{TxnReq}
use Rattle.zk_model.specs.Limits.{max_frame, max_long}
use Rattle.zk_model.specs.declared.connect.ConnectRequest.{ConnectRequest}
use Rattle.zk_model.specs.declared.request.Request.{Request}
use Rattle.zk_transcript.specs.History.{connect, frame, opening}
use Rattle.zk_service.specs.States.{granted_timeout}
use Rattle.zk_transcript.specs.Legal.{Attachment, attach_of}
use Rattle.zk_transcript.specs.Walks.{packets}
use Rattle.zk_transcript.specs.declared.transcript.TranscriptLine.{TranscriptLine}
use Rattle.zk_service.specs.declared.update.UpdateKind.{UpdateKind}
use Rattle.zk_service.specs.declared.update.UpdateKind.TheVariants.{Begin, Session as NewSession, Attach, Asked, Closed, Reaped}
use Rattle.zn_layout.specs.Records.{IsLeaseRec, lease_value}
use Rattle.zn_layout.specs.StandsFor.{at}
use Rattle.zn_layout.specs.declared.record.LeaseRec.{LeaseRec}
use Rattle.zn_view.specs.Asks.{plan_txn}
use Rattle.zn_view.specs.Seen.{View}
use Rattle.zn_view.specs.Views.{Agrees, WasPut}
use Rattle.zn_view.specs.declared.plan.Plan.{Plan}
use Rattle.zn_view.specs.declared.plan.Who.{Who}
use Rattle.zs_close.specs.Reaping.{IsReapPlan}
use Rattle.zs_session.specs.Sessions.{attach_txn, life_key, new_session_txn}
use Rattle.zk_service.specs.declared.fresh.Fresh.{Fresh}
use Rattle.zp_laws.specs.Frames.{IsRequestAt}
use Rattle.zp_laws.specs.Inputs.{kind_for}
use Rattle.zp_laws.specs.Standing.{IsBoundPlan}
use Rattle.zp_step.specs.Looking.{IsForTree}
use Rattle.zp_script.specs.declared.flight.Asking.{Asking}
use Rattle.zp_world_laws.specs.Serving.{only_reads}

-- ---- a request's plan

-- who acts is the session that the connection's own line attached
abbrev pub attachment : Who → Attachment
attachment who = record { zxid = who.mine; session = who.session }

pub record IsBoundRequest (s : Store) (lines : List TranscriptLine) (c i : ℕ) (kind : UpdateKind) (t : TxnReq) : Type 0 where
  pub who : Who
  pub place : ℕ
  pub attached : attach_of c lines ≡ Some (place, attachment who)
  pub least : pos 1 ≤ℤ who.session
  pub most : who.session ≤ℤ max_long
  pub rises : pos 1 ≤ℤ who.mine
  pub index : 1 ≤ i
  pub xid : ℤ
  pub request : Request
  pub framed : IsRequestAt lines c i xid request
  pub small : length (framed.bytes) ≤ max_frame
  pub tree : IsForTree request
  pub time : ℕ
  pub of_kind : kind ≡ kind_for request who.session c i time
  pub view : View
  pub plan : Plan
  pub bound : IsBoundPlan s who request view plan time
  pub txn : t ≡ plan_txn plan

-- ---- a reaper's plan

pub record IsBoundReap (s : Store) (id : ℤ) (t : TxnReq) : Type 0 where
  pub view : View
  pub plan : Plan
  pub reaps : IsReapPlan id view plan
  pub number : ℕ
  pub known : number ≤ length s.revisions
  pub agrees : Agrees view (store_at s number)
  pub put : All WasPut view.keys
  pub txn : t ≡ plan_txn plan

-- ---- a session's transaction

-- the connection has sent its connect and no session is attached to it; nothing was sent to it
pub record IsUnattached (s : Store) (lines : List TranscriptLine) (c : ℕ) (r : ConnectRequest) : Type 0 where
  pub unattached : attach_of c lines ≡ None
  pub silent : packets c lines ≡ []
  pub bytes : List ℕ
  pub framed : frame c 0 lines ≡ Some bytes
  pub small : length bytes ≤ max_frame
  pub connected : connect c lines ≡ Some r
  -- the client has seen no update that the store hasn't made
  pub past : r.last_zxid ≤ℤ revision s

pub record IsBoundNew (s : Store) (lines : List TranscriptLine) (c : ℕ) (id : ℤ) (t : TxnReq) : Type 0 where
  pub request : ConnectRequest
  pub connected : IsUnattached s lines c request
  pub anew : request.session ≡ pos 0
  pub fresh : Fresh
  pub own : fresh.id ≡ id
  pub least : pos 1 ≤ℤ fresh.id
  pub most : fresh.id ≤ℤ max_long
  pub long : length fresh.passwd ≡ 16
  pub offered : opening c lines ≡ Some fresh
  pub txn : t ≡ new_session_txn fresh (granted_timeout request.timeout)

-- the record of the session's life was so at a revision of the store
pub record WasLifeOf (s : Store) (id seen : ℤ) (life : LeaseRec) : Type 0 where
  pub number : ℕ
  pub known : number ≤ length s.revisions
  pub kv : Kv
  pub there : at (store_at s number) (life_key id) ≡ Some kv
  pub put : kv.mod_revision ≡ seen
  pub value : kv.value ≡ lease_value life

pub record IsBoundAttach (s : Store) (lines : List TranscriptLine) (c : ℕ) (id : ℤ) (t : TxnReq) : Type 0 where
  pub request : ConnectRequest
  pub connected : IsUnattached s lines c request
  pub own : request.session ≡ id
  pub least : pos 1 ≤ℤ id
  pub seen : ℤ
  pub life : LeaseRec
  pub put : pos 1 ≤ℤ seen
  pub within : IsLeaseRec life
  pub passwd : life.passwd ≡ request.passwd
  pub was : WasLifeOf s id seen life
  pub txn : t ≡ attach_txn id seen life

-- ---- any ask

abbrev pub IsBound : Store → List TranscriptLine → UpdateKind → TxnReq → Type 0
IsBound s lines (Begin n) t = ⊥
IsBound s lines (NewSession id c) t = IsBoundNew s lines c id t
IsBound s lines (Attach id c) t = IsBoundAttach s lines c id t
IsBound s lines (Asked c i now) t = IsBoundRequest s lines c i (Asked c i now) t
IsBound s lines (Closed sid c i) t = IsBoundRequest s lines c i (Closed sid c i) t
IsBound s lines (Reaped id) t = IsBoundReap s id t

-- it only reads, whether its guards hold or not
pub record IsReading (t : TxnReq) : Type 0 where
  pub success : only_reads t.success ≡ true
  pub failure : only_reads t.failure ≡ true

-- an update is a bound transaction that only reads where a guard fails; what is no update changes no key
abbrev pub IsBoundAs : Store → List TranscriptLine → Option UpdateKind → Ask → Type 0
IsBoundAs s lines (Some kind) (ask.Txn t) = IsBound s lines kind t × (only_reads t.failure ≡ true)
IsBoundAs s lines (Some kind) _ = ⊥
IsBoundAs s lines None (ask.Txn t) = IsReading t
IsBoundAs s lines None _ = Unit {0}

abbrev pub IsBoundAsk : Store → List TranscriptLine → Asking → Type 0
IsBoundAsk s lines x = IsBoundAs s lines x.kind x.ask
