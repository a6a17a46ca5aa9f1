-- The keys under which the service keeps its tree, its sessions and its last update.
use Rattle.std.specs.Prelude.{ℕ, zero, suc, ◌+◌, ◌/◌, ◌%◌, Bool, true, false, cond, nat_lt, nat_eq, [], ◌∷◌, ◌++◌, codes}
use Rattle.zk_model.specs.Paths.{depth}
use Rattle.zx_base.specs.Maps.{Bytes, same}

-- the head; a node's data; its counts; a session's nodes; a session's life
pub data Key : Type 0 where
  HeadKey : Key
  DataKey : Bytes → Key
  CountsKey : Bytes → Key
  SessionKey : ℕ → Key
  LeaseKey : ℕ → Key

-- the last decimal digit of a number
abbrev pub digit : ℕ → ℕ
digit n = 48 + n % 10

-- a number below 10,000 as four digits
abbrev pub four_digits : ℕ → Bytes
four_digits n = digit (n / 1000) ∷ digit (n / 100) ∷ digit (n / 10) ∷ digit n ∷ []

-- a kind, the path's depth, and the path: so the children of a path are one range of keys
abbrev pub node_key : Bytes → Bytes → Bytes
node_key kind p = kind ++ four_digits (depth p) ++ p

abbrev pub hex_digit : ℕ → ℕ
hex_digit n = cond (nat_lt n 10) (48 + n) (87 + n)

-- so many hex digits and one more, in front of `rest`. The first of them takes all that is left of the number
unfoldable pub hex_digits : ℕ → ℕ → Bytes → Bytes
hex_digits zero n rest = hex_digit n ∷ rest
hex_digits (suc k) n rest = hex_digits k (n / 16) (hex_digit (n % 16) ∷ rest)

-- a kind, and the session's number as 16 hex digits
abbrev pub session_key : Bytes → ℕ → Bytes
session_key kind n = kind ++ hex_digits 15 n []

-- what all keys of the service begin with
abbrev pub front : Bytes
front = codes "zk/"

-- the head's key, and what the keys of each other kind begin with
abbrev pub head_name : Bytes
head_name = codes "zk/head"

abbrev pub data_front : Bytes
data_front = codes "zk/d/"

abbrev pub counts_front : Bytes
counts_front = codes "zk/c/"

abbrev pub session_front : Bytes
session_front = codes "zk/s/"

abbrev pub lease_front : Bytes
lease_front = codes "zk/l/"

unfoldable pub key_bytes : Key → Bytes
key_bytes HeadKey = head_name
key_bytes (DataKey p) = node_key data_front p
key_bytes (CountsKey p) = node_key counts_front p
key_bytes (SessionKey n) = session_key session_front n
key_bytes (LeaseKey n) = session_key lease_front n

abbrev pub same_key : Key → Key → Bool
same_key HeadKey HeadKey = true
same_key (DataKey p) (DataKey q) = same p q
same_key (CountsKey p) (CountsKey q) = same p q
same_key (SessionKey m) (SessionKey n) = nat_eq m n
same_key (LeaseKey m) (LeaseKey n) = nat_eq m n
same_key _ _ = false
