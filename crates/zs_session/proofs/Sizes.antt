-- How large the transactions of a session are.
use Rattle.std.proofs.Common.{◌≡◌, ◌+◌, ℤ, pos, length, [], ◌++◌, arith, length-append}
use Rattle.std.specs.Prelude.{nat_abs}
use Rattle.ev_types.specs.Sizes.{IsSendable}
use Rattle.zk_model.specs.declared.layout.Layout.{Layout}
use Rattle.zk_jute.specs.JuteWriting.{int_bytes, long_bytes, string_bytes}
use Rattle.zk_jute.proofs.Lengths.{length-int_bytes, length-long_bytes, length-vector_bytes}
use Rattle.zn_layout.specs.declared.record.LeaseRec.{LeaseRec}
use Rattle.zn_layout.specs.Records.{head_value, lease_value, session_value, trigger_bytes, IsLeaseRec}
use Rattle.zn_layout.proofs.Denials.{update-sendable}
use Rattle.zn_view.specs.Asks.{ranges_of}
use Rattle.zn_view.proofs.Sizes.{head-size, life-size, session-size}
use Rattle.zk_service.specs.declared.fresh.Fresh.{Fresh}
use Rattle.zs_session.specs.Sessions.{attach_changes, attach_guards, attach_txn, attach_wants, first_life, new_session_changes, new_session_guards, new_session_txn, next_life, no_nodes, session_wants}

-- ---- values

lease_value-size : (r : LeaseRec) → length r.passwd ≡ 16 → length (lease_value r) ≡ 29
unfolding lease_value
lease_value-size r long =
    let all = length-append (int_bytes r.timeout ++ long_bytes r.attaches) r.passwd in
    let numbers = length-append (int_bytes r.timeout) (long_bytes r.attaches) in
    omega (arith, all, numbers, length-int_bytes r.timeout, length-long_bytes r.attaches, long)

no_nodes-size : (l : Layout) → length (session_value (no_nodes l)) ≡ 5
unfolding session_value
no_nodes-size l = omega (arith, length-vector_bytes string_bytes [])

no_triggers-size : length (head_value []) ≡ 5
unfolding head_value
no_triggers-size = omega (arith, length-vector_bytes trigger_bytes [])

-- ---- transactions

pub new_session-sendable : (f : Fresh) (timeout : ℤ) → length f.passwd ≡ 16 → IsSendable (new_session_txn f timeout)
new_session-sendable f timeout long =
    update-sendable (new_session_guards f.id) (new_session_changes f timeout) [] (ranges_of (pos 0) (session_wants f.id)) (omega arith) (omega arith) (omega arith)
    (omega (arith, life-size (nat_abs f.id), session-size (nat_abs f.id), head-size, lease_value-size (first_life f timeout) long, no_nodes-size f.layout, no_triggers-size))

pub attachment-sendable : (id seen : ℤ) (life : LeaseRec) → IsLeaseRec life → IsSendable (attach_txn id seen life)
attachment-sendable id seen life within =
    update-sendable (attach_guards id seen) (attach_changes id life) [] (ranges_of (pos 0) (attach_wants id)) (omega arith) (omega arith) (omega arith)
    (omega (arith, life-size (nat_abs id), head-size, lease_value-size (next_life life) within.passwd, no_triggers-size))
