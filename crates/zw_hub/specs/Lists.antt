-- The list of the published entries: what is in it, and how it grows.
use Rattle.std.specs.Prelude.{◌≡◌, ℕ, ◌+◌, ◌-◌, ℤ, pos, ◌+ℤ◌, ◌≤ℤ◌, Bool, ◌&&◌, is_none, [], ◌∷◌, ◌++◌, length, slice_get, Some, None, if◌then◌else◌}
use Rattle.std.specs.Int.{int_max}
use Rattle.std.specs.Ordering.{int_eq}
use mathlib.Core.List.{IsPrefix}
use Rattle.zn_layout.specs.Kept.{max_kept as max_kept_entries}
use Rattle.zn_layout.specs.declared.entry.Entry.{Entry}
use Rattle.zw_hub.specs.declared.feed.FeedEnd.{FeedEnd}
use Rattle.zw_hub.specs.declared.published.Published.{Published}

-- an open list without entries; the first is to have the number after this one
abbrev pub empty : ℤ → Published
empty first = record { first = first; entries = []; end = None; forgotten = first }

-- the number of its last entry, or the number before the first where there is none
abbrev pub last_number : Published → ℤ
last_number list = list.first +ℤ pos (length list.entries)

-- how many entries are kept, the newest ones
abbrev pub max_kept : ℕ
max_kept = max_kept_entries

-- the number before that of the oldest entry that is kept
abbrev pub oldest : Published → ℤ
oldest list = list.first +ℤ pos (length list.entries - max_kept)

-- the number before that of the oldest entry that readers are told: it is kept, and not forgotten
abbrev pub floor : Published → ℤ
floor list = int_max (oldest list) list.forgotten

-- this entry stands in the list where this number belongs, and has this number
abbrev pub IsAt : Published → ℤ → Entry → Type 0
IsAt list number entry = (k : ℕ) × (slice_get list.entries k ≡ Some entry) × (number ≡ list.first +ℤ pos (k + 1)) × (entry.number ≡ number)

-- the numbers of its entries are consecutive
abbrev pub IsNumbered : Published → Type 0
IsNumbered list = (k : ℕ) (entry : Entry) → slice_get list.entries k ≡ Some entry → entry.number ≡ list.first +ℤ pos (k + 1)

-- The later list begins with all entries of the earlier one, and is the earlier one where that was closed. What is forgotten stays so.
pub record Extends (later earlier : Published) : Type 0 where
  pub first : later.first ≡ earlier.first
  pub entries : IsPrefix earlier.entries later.entries
  pub closed : (end : FeedEnd) → earlier.end ≡ Some end → later ≡ earlier
  pub forgets : earlier.forgotten ≤ℤ later.forgotten

-- the list with one more entry
abbrev pub with_entry : Published → Entry → Published
with_entry list entry = record list { entries = list.entries ++ entry ∷ [] }

-- the list, closed
abbrev pub with_end : Published → FeedEnd → Published
with_end list end = record list { end = Some end }

-- whether the entry may be published: the list is not closed, and the entry has the next number
abbrev pub is_next : Published → Entry → Bool
is_next list entry = is_none list.end && int_eq entry.number (last_number list +ℤ pos 1)

-- the list after an entry was published; where it may not be, the list stays as it is
abbrev pub added : Published → Entry → Published
added list entry = if is_next list entry then with_entry list entry else list

-- the list after it was closed by this end; a list that was closed before stays as it is
abbrev pub closed_by : Published → FeedEnd → Published
closed_by list end = if is_none list.end then with_end list end else list

-- the list, whose entries so far are forgotten
abbrev pub forgetting : Published → Published
forgetting list = record list { forgotten = int_max list.forgotten (last_number list) }

-- the same, or a list that was closed before as it is
abbrev pub forgotten_by : Published → Published
forgotten_by list = if is_none list.end then forgetting list else list
