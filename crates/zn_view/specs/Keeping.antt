-- Views that are kept for the next request of their path: what an update leaves of a view, and which views are small enough.
use Rattle.std.specs.Prelude.{◌≡◌, ◌⊎◌, ℕ, ◌+◌, ℤ, List, [], ◌∷◌, length, sum_by, fold, Option, Some, None, IfSome, All, nat_le, if◌then◌else◌}
use Rattle.std.specs.FinMap.{get}
use Rattle.ev_types.specs.declared.answer.Kv.{Kv}
use Rattle.ev_types.specs.declared.ask.Act.{Act}
use Rattle.ev_types.specs.declared.ask.Act.TheVariants as act
use Rattle.ev_types.specs.declared.ask.Guard.{Guard}
use Rattle.ev_types.specs.Ranges.{Keys}
use Rattle.ev_types.specs.Store.{put_over}
use Rattle.zk_model.specs.declared.request.Request.{Request}
use Rattle.zk_model.specs.declared.request.Request.TheVariants as req
use Rattle.zk_model.specs.Single.{is_sequential}
use Rattle.zk_service.specs.States.{State, IsSound}
use Rattle.zx_base.specs.Maps.{Bytes}
use Rattle.zn_layout.specs.Keys.{HeadKey, key_bytes}
use Rattle.zn_layout.specs.StandsFor.{StandsFor}
use Rattle.zn_view.specs.declared.plan.Plan.{Plan}
use Rattle.zn_view.specs.declared.snapshot.SeenKey.{SeenKey}
use Rattle.zn_view.specs.Laying.{placed}
use Rattle.zn_view.specs.Seen.{IsSeen, View, found_of, seen, seen_in}
use Rattle.zn_view.specs.Views.{MayCommit}

-- ---- what an update leaves

-- a key, and what it had
abbrev pub seen_as : Bytes → Option Kv → SeenKey
seen_as k o = record { key = k; found = o }

-- a key with what was found under it; a key that was not looked up is left out
abbrev pub with_guarded : Bytes → Option (Option Kv) → List SeenKey → List SeenKey
with_guarded k None xs = xs
with_guarded k (Some o) xs = placed (seen_as k o) xs

-- the keys with a guarded key as the view saw it
abbrev pub guard_seen : View → List SeenKey → Guard → List SeenKey
guard_seen v xs g = with_guarded g.key (seen v g.key) xs

-- the guarded keys as the view saw them, each once
abbrev pub guarded_seen : View → List Guard → List SeenKey
guarded_seen v guards = fold (guard_seen v) [] guards

-- What a put at revision z leaves under its key, over what is known of it. A key of which nothing is known counts as absent before,
-- so the put gives it version 1.
abbrev pub put_seen : ℤ → List SeenKey → Bytes → Bytes → ℤ → SeenKey
put_seen z xs k value lease = seen_as k (Some (put_over z k value lease (found_of (seen_in k xs))))

-- what one operation at revision z leaves
abbrev pub act_seen : ℤ → List SeenKey → Act → List SeenKey
act_seen z xs (act.Put k value lease) = placed (put_seen z xs k value lease) xs
act_seen z xs (act.Delete k) = placed (seen_as k None) xs
act_seen z xs (act.Range q) = xs

-- what the operations leave, one after the other
abbrev pub acts_seen : ℤ → List SeenKey → List Act → List SeenKey
acts_seen z xs acts = fold (act_seen z) xs acts

-- the view after an update at revision z: the guarded keys and those that its operations write, as the operations leave them, and
-- the head as the update's answer shows it
abbrev pub after_view : View → List Guard → List Act → ℤ → Kv → View
after_view v guards acts z head = record {
  revision = z;
  keys = placed (seen_as (key_bytes HeadKey) (Some head)) (acts_seen z (guarded_seen v guards) acts);
  lists = [];
}

-- ---- whether that is a view: each value a record of its key's kind, each mod_revision and version in an etcd's range

-- what an operation leaves is what a view may hold
abbrev pub IsActKept : ℤ → List SeenKey → Act → Type 0
IsActKept z xs (act.Put k value lease) = IsSeen (put_seen z xs k value lease)
IsActKept z xs (act.Delete k) = Unit {0}
IsActKept z xs (act.Range q) = Unit {0}

-- what the operations leave; None where one of them leaves what no view may hold
abbrev pub AreLeft : ℤ → List SeenKey → List Act → Option (List SeenKey) → Type 0
AreLeft z xs [] o = o ≡ Some xs
AreLeft z xs (a ∷ acts) o = (IsActKept z xs a × AreLeft z (act_seen z xs a) acts o) ⊎ ((IsActKept z xs a → ⊥) × (o ≡ None))

-- the view of these keys and the head; None without keys, and where no view may hold the head
abbrev pub IsLeftBeside : ℤ → Kv → Option (List SeenKey) → Option View → Type 0
IsLeftBeside z head None r = r ≡ None
IsLeftBeside z head (Some xs) r =
    (IsSeen (seen_as (key_bytes HeadKey) (Some head)) × (r ≡ Some (record { revision = z; keys = placed (seen_as (key_bytes HeadKey) (Some head)) xs; lists = [] })))
    ⊎ ((IsSeen (seen_as (key_bytes HeadKey) (Some head)) → ⊥) × (r ≡ None))

-- The view that an update leaves of a view. None where one of its operations, or the head, leaves what no view may hold: a value
-- that is no record of its key's kind, or a version past the last one of an etcd.
abbrev pub IsAfter : View → List Guard → List Act → ℤ → Kv → Option View → Type 0
IsAfter v guards acts z head r = (o : Option (List SeenKey)) × AreLeft z (guarded_seen v guards) acts o × IsLeftBeside z head o r

-- ---- where it agrees with the keys that the update leaves

-- each guarded key that the view saw has what was seen
abbrev pub AreGuardedAsSeen : View → List Guard → Keys → Type 0
AreGuardedAsSeen v guards m = All (λ (g : Guard). (o : Option Kv) → seen v g.key ≡ Some o → get m g.key ≡ o) guards

-- a key that is put, and of which nothing is known, is absent, unless it is the head
abbrev pub IsNew : List SeenKey → Keys → Act → Type 0
IsNew xs m (act.Put k value lease) = (k ≡ key_bytes HeadKey → ⊥) → seen_in k xs ≡ None → get m k ≡ None
IsNew xs m (act.Delete k) = Unit {0}
IsNew xs m (act.Range q) = Unit {0}

-- Wherever the plan may commit, each key that it puts and does not guard is absent, but for the head. A create puts its node's
-- counts without reading them; but a node that is not there has none.
abbrev pub PutsNewKeys : View → Plan → Type 0
PutsNewKeys v p = (m : Keys) (s : State) → IsSound s → StandsFor m s → MayCommit p v m → All (IsNew (guarded_seen v p.guards) m) p.success

-- ---- which updates are planned on a kept view

-- the path of a create or create2 that is not sequential, of a delete, or of a setData
abbrev pub update_path : Request → Option Bytes
update_path (req.Create p d a f) = if is_sequential f then None else Some p
update_path (req.Create2 p d a f) = if is_sequential f then None else Some p
update_path (req.Delete p v) = Some p
update_path (req.SetData p d v) = Some p
update_path _ = None

-- what the plan of such an update leaves of its view agrees with the keys that it leaves, so it may be kept
abbrev pub IsKeepable : Request → View → Plan → Type 0
IsKeepable r v p = IfSome (update_path r) (λ q. PutsNewKeys v p)

-- ---- which views are kept

-- in bytes
abbrev pub found_size : Option Kv → ℕ
found_size None = 0
found_size (Some kv) = length kv.value

-- a key counts also where it was absent
abbrev pub seen_size : SeenKey → ℕ
seen_size x = length x.key + found_size x.found

-- the bytes of the keys and values, the head's among them
abbrev pub view_size : View → ℕ
view_size v = sum_by seen_size v.keys

-- the most that a kept view has
abbrev pub max_kept_view : ℕ
max_kept_view = 65536

-- the view as it is kept: without lists of children; None where it is too large
abbrev pub trimmed : View → Option View
trimmed v = if nat_le (view_size v) max_kept_view then Some (record v { lists = [] }) else None
