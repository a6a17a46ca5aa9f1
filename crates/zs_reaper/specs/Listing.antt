-- The sessions that have lapsed: those that are open, by the key of their nodes, and have no record of their life (etcd API reference,
-- "Lease API": where a lease lapses, its keys are removed).
use Rattle.std.specs.Prelude.{◌≡◌, ◌⊎◌, ℕ, ◌-◌, nat_lt, ℤ, pos, Bool, true, not, List, [], ◌∷◌, ◌++◌, length, take, drop, filter, filter_map, slice_get, bytes_eq, codes, Option, Some, None, option_map, option_and_then, Result, Ok, Err, Contains, if◌then◌else◌}
use Rattle.std.specs.List.{list_any}
use Rattle.std.specs.Ordering.{int_eq}
use Rattle.ev_types.specs.declared.answer.ActAns.{ActAns}
use Rattle.ev_types.specs.declared.answer.ActAns.TheVariants as part
use Rattle.ev_types.specs.declared.answer.Answer.{Answer}
use Rattle.ev_types.specs.declared.answer.Answer.TheVariants as answer
use Rattle.ev_types.specs.declared.answer.Kv.{Kv}
use Rattle.ev_types.specs.declared.ask.Act.{Act}
use Rattle.ev_types.specs.declared.ask.Act.TheVariants as act
use Rattle.ev_types.specs.declared.ask.Ask.{Ask}
use Rattle.ev_types.specs.declared.ask.Ask.TheVariants as ask
use Rattle.ev_call.specs.Calls.{Call}
use Rattle.ev_call.specs.declared.etcd.CallFault.{CallFault}
use Rattle.ev_call.specs.declared.etcd.CallFault.TheVariants as call
use Rattle.zn_layout.specs.Keys.{lease_front, session_front}
use Rattle.zt_text.specs.Scripts.{session_id}
use Rattle.zs_reaper.specs.declared.calling.TurnFault.{TurnFault}
use Rattle.zs_reaper.specs.declared.calling.TurnFault.TheVariants as turn
use Rattle.zs_reaper.specs.declared.listing.Listed.{Listed}

-- ---- what is asked

-- at most so many keys of each kind are listed by one ask
abbrev pub max_listed : ℕ
max_listed = 1000

-- the keys of one kind, without their values, from this number on, before that one
abbrev pub names_from : List ℕ → List ℕ → List ℕ → Act
names_from kind from end = act.Range (record { key = kind ++ from; end = kind ++ end; revision = pos 0; limit = pos max_listed; keys_only = true })

-- it stands behind all numbers, since each is 16 hex digits
abbrev pub behind : List ℕ
behind = codes "g"

-- one transaction without guards: the keys of open sessions and those of the sessions that live, from this number on, before that one
abbrev pub list_ask : List ℕ → List ℕ → Ask
list_ask from end = ask.Txn (record {
  guards = [];
  success = names_from session_front from end ∷ names_from lease_front from end ∷ [];
  failure = [];
})

-- ---- which sessions have lapsed

-- the session whose key of this kind this is: after the kind stand its 16 hex digits
abbrev pub session_in : List ℕ → Kv → Option ℤ
session_in kind kv = if bytes_eq (take (length kind) kv.key) kind then session_id (drop (length kind) kv.key) else None

abbrev pub numbers_in : List ℕ → List Kv → List ℤ
numbers_in kind kvs = filter_map (session_in kind) kvs

abbrev pub is_among : List ℤ → ℤ → Bool
is_among numbers n = list_any (λ m. int_eq m n) numbers

abbrev pub without_of : List ℤ → List ℤ → List ℤ
without_of numbers living = filter (λ n. not (is_among living n)) numbers

-- the open sessions that are not among the living, in the order of their keys
abbrev pub lapsed_of : List Kv → List Kv → List ℤ
lapsed_of opened alive = without_of (numbers_in session_front opened) (numbers_in lease_front alive)

-- where the next list begins: right after the last key; nowhere where the list was not full
abbrev pub next_from : List Kv → Option (List ℕ)
next_from opened = if nat_lt (length opened) max_listed then None else option_map (λ (kv : Kv). drop 5 kv.key ++ 0 ∷ []) (slice_get opened (length opened - 1))

-- ---- what an answer shows

abbrev pub parts_of : Answer → List ActAns
parts_of (answer.Txn revision succeeded parts) = parts
parts_of _ = []

abbrev pub found_in : ActAns → Option (List Kv)
found_in (part.Range found) = Some found.kvs
found_in _ = None

-- the keys that the part at this place found
abbrev pub found_at : List ActAns → ℕ → Option (List Kv)
found_at parts at = option_and_then found_in (slice_get parts at)

-- Both lists come from one answer, and so from one revision. There is no list where a part is no range's.
abbrev pub Shows : Answer → Result Listed TurnFault → Type 0
Shows a (Ok listed) = (opened alive : List Kv) × (found_at (parts_of a) 0 ≡ Some opened) × (found_at (parts_of a) 1 ≡ Some alive)
    × (listed ≡ record { lapsed = lapsed_of opened alive; next = next_from opened })
Shows a (Err turn.NoList) = (found_at (parts_of a) 0 ≡ None) ⊎ (found_at (parts_of a) 1 ≡ None)
Shows a (Err turn.Memory) = Unit {0}
Shows a (Err turn.Failed) = ⊥
Shows a (Err turn.Met) = ⊥

-- ---- one list

-- it is one call, or none where memory was refused; and its answer shows the sessions
abbrev pub Lists : List ℕ → List ℕ → Result Listed TurnFault → List Call → Type 0
Lists from end (Ok listed) calls = (a : Answer) × (calls ≡ record { ask = list_ask from end; result = Ok a } ∷ []) × Shows a (Ok listed)
Lists from end (Err turn.NoList) calls = (a : Answer) × (calls ≡ record { ask = list_ask from end; result = Ok a } ∷ []) × Shows a (Err turn.NoList)
Lists from end (Err turn.Failed) calls = calls ≡ record { ask = list_ask from end; result = Err call.Failed } ∷ []
Lists from end (Err turn.Memory) calls = (calls ≡ []) ⊎ ((came : Result Answer CallFault) × (calls ≡ record { ask = list_ask from end; result = came } ∷ []) × (came ≡ Err call.Failed → ⊥))
Lists from end (Err turn.Met) calls = ⊥

-- ---- what this means

-- a session of this number is among the open ones
abbrev pub IsOpen : List Kv → ℤ → Type 0
IsOpen opened n = (kv : Kv) × Contains opened kv × (session_in session_front kv ≡ Some n)

-- the record of its life is among those of the living
abbrev pub Lives : List Kv → ℤ → Type 0
Lives alive n = (kv : Kv) × Contains alive kv × (session_in lease_front kv ≡ Some n)

-- Of all open sessions, in the order of their keys, the first are listed; and of those that live among all of them, as many.
pub record AreListed (opened alive : List Kv) (most : ℕ) (all : List ℤ) (lives : ℤ → Bool) : Type 0 where
  pub first : numbers_in session_front opened ≡ take most all
  pub living : numbers_in lease_front alive ≡ take most (filter lives all)

-- this is the last of these keys, and it is one of an open session
pub record IsLastOpen (opened : List Kv) (last : Kv) : Type 0 where
  pub ends : slice_get opened (length opened - 1) ≡ Some last
  pub kind : take 5 last.key ≡ session_front
