-- What an etcd denies, each with its cause (etcd's server: `ErrLeaseExists`, `ErrLeaseNotFound`, `ErrFutureRev`,
-- `ErrCompacted`, `ErrTooManyOps`, `ErrDuplicateKey`); a full store is this project's. A denied ask changes nothing. Denials for
-- a quota, for the bytes of a request or for the seconds of a lease are left out.
use Rattle.std.specs.Prelude.{ℕ, ℤ, pos, Bool, false, not, ◌&&◌, ◌||◌, List, [], ◌∷◌, length, nat_lt, int_lt, if◌then◌else◌, Option, Some, None, is_some}
use Rattle.std.specs.List.{list_any}
use Rattle.std.specs.Ordering.{int_eq}
use Rattle.std.specs.FinMap.{get}
use Rattle.ev_types.specs.declared.answer.Answer.{Answer}
use Rattle.ev_types.specs.declared.ask.Act.{Act}
use Rattle.ev_types.specs.declared.ask.Act.TheVariants as act
use Rattle.ev_types.specs.declared.ask.TxnReq.{TxnReq}
use Rattle.ev_types.specs.declared.ask.Ask.{Ask}
use Rattle.ev_types.specs.declared.ask.Ask.TheVariants as ask
use Rattle.ev_types.specs.Store.{Store, Change, revision, last_revision, succeeds, chosen, worked, carried_out}
use Rattle.zx_base.specs.Maps.{Bytes, same}

-- a lease's number is at least 1: 0 is no lease
abbrev pub is_lease : ℤ → Bool
is_lease id = int_lt (pos 0) id

abbrev pub has_lease : Store → ℤ → Bool
has_lease s id = is_lease id && is_some (get s.leases id)

-- the number is neither 0 nor that of a lease that is there
abbrev pub lacks_lease : Store → ℤ → Bool
lacks_lease s lease = not (int_eq lease (pos 0)) && not (has_lease s lease)

-- the revision is above the store's
abbrev pub is_future : Store → ℤ → Bool
is_future s r = int_lt (revision s) r

-- the revision is below the floor, and is not 0, which names the present
abbrev pub is_compacted : Store → ℤ → Bool
is_compacted s r = not (int_eq r (pos 0)) && int_lt r s.floor

-- an operation names a lease or a revision that the store doesn't have
abbrev pub names_missing : Store → Act → Bool
names_missing s (act.Put k v lease) = lacks_lease s lease
names_missing s (act.Delete k) = false
names_missing s (act.Range q) = is_future s q.revision || is_compacted s q.revision

-- whether an operation puts or deletes the key
abbrev pub writes : Bytes → Act → Bool
writes k (act.Put q v lease) = same k q
writes k (act.Delete q) = same k q
writes k (act.Range q) = false

-- whether an operation puts the key
abbrev pub puts : Bytes → Act → Bool
puts k (act.Put q v lease) = same k q
puts k (act.Delete q) = false
puts k (act.Range q) = false

-- a list puts a key twice, or both puts and deletes it
abbrev pub writes_twice : List Act → Bool
writes_twice [] = false
writes_twice (act.Put k v lease ∷ acts) = list_any (writes k) acts || writes_twice acts
writes_twice (act.Delete k ∷ acts) = list_any (puts k) acts || writes_twice acts
writes_twice (act.Range q ∷ acts) = writes_twice acts

-- the most compares, and the most operations of a list
abbrev pub max_operations : ℕ
max_operations = 128

abbrev pub is_long : {A : Type 0} → List A → Bool
is_long xs = nat_lt max_operations (length xs)

abbrev pub has_long_list : TxnReq → Bool
has_long_list t = is_long t.guards || is_long t.success || is_long t.failure

-- something would change, and the store stands at the last revision
abbrev pub is_full_store : Store → List Change → Bool
is_full_store s [] = false
is_full_store s (c ∷ cs) = not (int_lt (revision s) last_revision)

abbrev pub chosen_acts : Store → TxnReq → List Act
chosen_acts s t = chosen (succeeds s t) t

unfoldable pub is_denied : Store → Ask → Bool
is_denied s (ask.Txn t) =
    has_long_list t || writes_twice t.success || writes_twice t.failure
    || list_any (names_missing s) (chosen_acts s t)
    || is_full_store s (worked s (chosen_acts s t)).changes
is_denied s (ask.Range q) = is_future s q.revision || is_compacted s q.revision
is_denied s (ask.Grant id ttl) = has_lease s id
is_denied s (ask.Alive id) = false

-- the next store and the answer, or a denial
unfoldable pub carry : Store → Ask → Option (Store × Answer)
carry s a = if is_denied s a then None else Some (carried_out s a)
