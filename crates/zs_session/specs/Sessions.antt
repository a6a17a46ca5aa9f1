-- What is asked for a session (Programmer's Guide, "ZooKeeper Sessions"): a lease and a transaction for a new one, and a
-- transaction that attaches an old one to another connection.
use Rattle.std.specs.Prelude.{◌+◌, ◌/◌, ℤ, pos, nat_abs, ◌+ℤ◌, int_lt, List, [], ◌∷◌, Some, if◌then◌else◌}
use Rattle.std.specs.Ordering.{int_eq}
use Rattle.ev_types.specs.declared.ask.Guard.{Guard}
use Rattle.ev_types.specs.declared.ask.TxnReq.{TxnReq}
use Rattle.zk_model.specs.declared.connect.ConnectRequest.{ConnectRequest}
use Rattle.zk_model.specs.Limits.{max_long}
use Rattle.zk_model.specs.declared.layout.Layout.{Layout}
use Rattle.zn_layout.specs.declared.record.LeaseRec.{LeaseRec}
use Rattle.zn_layout.specs.declared.record.SessionRec.{SessionRec}
use Rattle.zn_layout.specs.Changes.{KeyChange, put_key}
use Rattle.zn_layout.specs.Keys.{Key, SessionKey, LeaseKey, key_bytes}
use Rattle.zn_layout.specs.Records.{session_value, lease_value}
use Rattle.zn_layout.specs.Updates.{update_txn}
use Rattle.zn_view.specs.declared.want.Want.{Want}
use Rattle.zn_view.specs.Asks.{ranges_of, head_want}
use Rattle.zn_view.specs.Needs.{key_want}
use Rattle.zk_service.specs.declared.fresh.Fresh.{Fresh}

-- a lease has the timeout's seconds, rounded up
abbrev pub lease_seconds : ℤ → ℤ
lease_seconds timeout = pos ((nat_abs timeout + 999) / 1000)

-- the two keys of a session: its life, and the list of its nodes
abbrev pub life_key : ℤ → Key
life_key id = LeaseKey (nat_abs id)

abbrev pub nodes_key : ℤ → Key
nodes_key id = SessionKey (nat_abs id)

-- the key was last put at this revision; at 0 it is not there
abbrev pub guard_on : Key → ℤ → Guard
guard_on k revision = record { key = key_bytes k; mod_revision = revision }

-- puts the record of a session's life, attached to its lease
abbrev pub put_life : ℤ → LeaseRec → KeyChange
put_life id life = record { key = life_key id; put = Some (record { value = lease_value life; lease = id }) }

-- ---- a new session: neither of its keys is there, and both are put

abbrev pub session_wants : ℤ → List Want
session_wants id = key_want (life_key id) ∷ key_want (nodes_key id) ∷ head_want ∷ []

abbrev pub first_life : Fresh → ℤ → LeaseRec
first_life f timeout = record { timeout = timeout; attaches = pos 1; passwd = f.passwd }

-- the record of a session of this layout that owns no node
abbrev pub no_nodes : Layout → SessionRec
no_nodes layout = record { layout = layout; paths = [] }

abbrev pub new_session_changes : Fresh → ℤ → List KeyChange
new_session_changes f timeout = put_life f.id (first_life f timeout) ∷ put_key (nodes_key f.id) (session_value (no_nodes f.layout)) ∷ []

abbrev pub new_session_guards : ℤ → List Guard
new_session_guards id = guard_on (life_key id) (pos 0) ∷ guard_on (nodes_key id) (pos 0) ∷ []

abbrev pub new_session_txn : Fresh → ℤ → TxnReq
new_session_txn f timeout = update_txn (new_session_guards f.id) (new_session_changes f timeout) [] (ranges_of (pos 0) (session_wants f.id))

-- ---- an attachment: the record of the session's life is as it was seen, and counts one attachment more

abbrev pub attach_wants : ℤ → List Want
attach_wants id = key_want (life_key id) ∷ head_want ∷ []

-- after the greatest long comes 1
abbrev pub next_attach : ℤ → ℤ
next_attach n = if int_eq n max_long then pos 1 else n +ℤ pos 1

abbrev pub next_life : LeaseRec → LeaseRec
next_life life = record { timeout = life.timeout; attaches = next_attach life.attaches; passwd = life.passwd }

abbrev pub attach_changes : ℤ → LeaseRec → List KeyChange
attach_changes id life = put_life id (next_life life) ∷ []

abbrev pub attach_guards : ℤ → ℤ → List Guard
attach_guards id seen = guard_on (life_key id) seen ∷ []

abbrev pub attach_txn : ℤ → ℤ → LeaseRec → TxnReq
attach_txn id seen life = update_txn (attach_guards id seen) (attach_changes id life) [] (ranges_of (pos 0) (attach_wants id))

-- ---- the first look: at the head, and at the life of the session that is to be resumed; a number below 1 is no session's

abbrev pub first_wants : ConnectRequest → List Want
first_wants r = if int_lt r.session (pos 1) then head_want ∷ [] else attach_wants r.session
