-- How large a transaction is. An etcd denies more than 128 compares, more than 128 operations in a list, and an encoded
-- request of more than 1,572,864 bytes (the defaults of etcd's `--max-txn-ops` and `--max-request-bytes`). The encoding adds some
-- bytes to each key and value, so the limit here on the keys and values alone is lower.
use Rattle.std.specs.Prelude.{ℕ, ◌+◌, ◌≤◌, length, sum_by}
use Rattle.ev_types.specs.declared.ask.Act.{Act}
use Rattle.ev_types.specs.declared.ask.Act.TheVariants as act
use Rattle.ev_types.specs.declared.ask.Guard.{Guard}
use Rattle.ev_types.specs.declared.ask.TxnReq.{TxnReq}
use Rattle.ev_types.specs.Denials.{max_operations}

-- the bytes of an operation's keys and of its value
abbrev pub act_size : Act → ℕ
act_size (act.Put k v lease) = length k + length v
act_size (act.Delete k) = length k
act_size (act.Range q) = length q.key + length q.end

abbrev pub guard_size : Guard → ℕ
guard_size g = length g.key

-- the bytes of the keys and values of a transaction: in its guards and in both lists
abbrev pub txn_size : TxnReq → ℕ
txn_size t = sum_by guard_size t.guards + sum_by act_size t.success + sum_by act_size t.failure

abbrev pub max_txn_size : ℕ
max_txn_size = 1500000

-- a transaction that an etcd with these defaults doesn't deny for its size
pub record IsSendable (t : TxnReq) : Type 0 where
  pub guards : length t.guards ≤ max_operations
  pub success : length t.success ≤ max_operations
  pub failure : length t.failure ≤ max_operations
  pub bytes : txn_size t ≤ max_txn_size
