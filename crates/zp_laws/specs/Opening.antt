-- What the laws of new and of resumed sessions say.
use Rattle.std.specs.Prelude.{◌≡◌, ℕ, ℤ, false, List, Some, None, pos, ◌≤ℤ◌, ◌<ℤ◌, true, length}
use Rattle.std.specs.List.{list_all}
use Rattle.ev_types.specs.Ranges.{Keys}
use Rattle.ev_types.specs.Store.{acts_applied, holds, last_revision}
use Rattle.ev_types.specs.declared.ask.TxnReq.{TxnReq}
use Rattle.zk_transcript.specs.declared.transcript.TranscriptLine.{TranscriptLine}
use Rattle.zk_service.specs.declared.update.UpdateKind.TheVariants.{Session as NewSession, Attach}
use Rattle.zk_service.specs.States.{State, Session, session_at, IsSound, granted_timeout}
use Rattle.zk_transcript.specs.History.{updated, connect, opening}
use Rattle.zn_layout.specs.StandsFor.{StandsFor, at}
use Rattle.zn_layout.specs.declared.record.LeaseRec.{LeaseRec}
use Rattle.ev_types.specs.declared.answer.Kv.{Kv}
use Rattle.zk_model.specs.declared.connect.ConnectRequest.{ConnectRequest}
use Rattle.zn_layout.specs.Records.{IsLeaseRec, lease_value}
use Rattle.zk_service.specs.declared.fresh.Fresh.{Fresh}
use Rattle.zs_session.specs.Sessions.{attach_guards, attach_txn, life_key, new_session_guards, new_session_txn}

-- the session wasn't open, and after the transaction the keys stand for the state after the line of the new session
pub record IsOpened (before : List TranscriptLine) (s : State) (z id : ℤ) (c : ℕ) (m : Keys) (t : TxnReq) : Type 0 where
  pub closed : session_at id s ≡ None
  pub stands : StandsFor (acts_applied z m t.success) (updated before s z (NewSession id c))

-- the session lived, last attached at the revision that was seen, with the password and the timeout of the record of its life; and
-- after the transaction the keys stand for the state in which it is attached anew
pub record IsAttachedAnew (before : List TranscriptLine) (s : State) (z id : ℤ) (c : ℕ) (m : Keys) (t : TxnReq) (seen : ℤ) (life : LeaseRec) : Type 0 where
  pub session : Session
  pub there : session_at id s ≡ Some session
  pub live : session.lapsed ≡ false
  pub attached : session.attached ≡ seen
  pub passwd : session.passwd ≡ life.passwd
  pub timeout : session.timeout ≡ life.timeout
  pub stands : StandsFor (acts_applied z m t.success) (updated before s z (Attach id c))

-- ---- the laws

-- Where the guards of a new session's transaction hold in keys that stand for a sound state, the session isn't open there, and
-- after the transaction the keys stand for the state after the session's line. The connection was opened with this offer, and sent
-- this connect.
abbrev pub ANewSessionCommits : Type 0
ANewSessionCommits = (f : Fresh) (r : ConnectRequest) (before : List TranscriptLine) (c : ℕ) (m : Keys) (s : State) (z : ℤ)
    → pos 1 ≤ℤ f.id → length f.passwd ≡ 16 → opening c before ≡ Some f → connect c before ≡ Some r → IsSound s
    → StandsFor m s → list_all (holds m) (new_session_guards f.id) ≡ true → s.zxid <ℤ z → z ≤ℤ last_revision
    → IsOpened before s z f.id c m (new_session_txn f (granted_timeout r.timeout))

-- Where the guard of an attachment holds in keys that stand for a state, the session lives there, with the timeout and the
-- password of the record that was seen, and after the transaction the keys stand for the state after the attachment's line. What
-- is kept at the revision that was seen has to be the record that was seen.
abbrev pub ASessionIsAttached : Type 0
ASessionIsAttached = (id seen : ℤ) (life : LeaseRec) (before : List TranscriptLine) (c : ℕ) (m : Keys) (s : State) (z : ℤ) → pos 1 ≤ℤ id
    → pos 1 ≤ℤ seen → IsLeaseRec life → StandsFor m s
    → ((kv : Kv) → at m (life_key id) ≡ Some kv → kv.mod_revision ≡ seen → kv.value ≡ lease_value life)
    → list_all (holds m) (attach_guards id seen) ≡ true → s.zxid <ℤ z → z ≤ℤ last_revision
    → IsAttachedAnew before s z id c m (attach_txn id seen life) seen life
