-- What a read of a feed answers.
use Rattle.std.specs.Prelude.{◌≡◌, ◌⊎◌, ℕ, ◌+◌, ℤ, pos, ◌+ℤ◌, ◌≤ℤ◌, ◌<ℤ◌, Some, None, ⊤}
use Rattle.std.specs.Arc.{arc_value}
use Rattle.zn_layout.specs.declared.entry.Entry.{Entry}
use Rattle.zw_hub.specs.declared.feed.Fed.{Fed}
use Rattle.zw_hub.specs.declared.feed.Fed.TheVariants as fed
use Rattle.zw_hub.specs.declared.feed.FeedEnd.{FeedEnd}
use Rattle.zw_hub.specs.declared.published.Published.{Published}
use Rattle.zw_hub.specs.Ends.{MayBeTold}
use Rattle.zw_hub.specs.Lists.{last_number, floor, IsAt}

-- what a reader is answered whose next entry is this one; `Memory` may be the answer at any time
abbrev pub IsFedEntry : Entry → Fed → Type 0
IsFedEntry entry (fed.Entry told) = entry ≡ arc_value told
IsFedEntry entry fed.Memory = ⊤
IsFedEntry entry _ = ⊥

-- what a reader that has taken every entry is answered of a list that this end closed; `Memory` may be the answer at any time
abbrev pub IsFedEnd : FeedEnd → Fed → Type 0
IsFedEnd end (fed.Closed told) = (end ≡ arc_value told) × MayBeTold (arc_value told)
IsFedEnd end fed.Memory = ⊤
IsFedEnd end _ = ⊥

-- what a reader with this cursor is answered of this list; `Memory` may be the answer at any time
abbrev pub IsFed : Published → ℤ → Fed → Type 0
IsFed list cursor (fed.Entry entry) = (floor list ≤ℤ cursor) × IsAt list (cursor +ℤ pos 1) (arc_value entry)
IsFed list cursor fed.None = (last_number list ≤ℤ cursor) × (list.end ≡ None)
IsFed list cursor (fed.Lagged was least) = (cursor <ℤ floor list) × (was ≡ cursor) × (least ≡ floor list)
IsFed list cursor (fed.Closed end) = (last_number list ≤ℤ cursor) × (list.end ≡ Some (arc_value end)) × MayBeTold (arc_value end)
IsFed list cursor fed.Memory = ⊤

-- 1 where the answer is that the feed lagged
abbrev pub if_lagged : Fed → ℕ
if_lagged (fed.Lagged cursor floor) = 1
if_lagged _ = 0

-- 1 where the answer is that the list is closed
abbrev pub if_closed : Fed → ℕ
if_closed (fed.Closed end) = 1
if_closed _ = 0

-- the answer is that the feed lagged
abbrev pub IsLagged : Fed → Type 0
IsLagged answer = if_lagged answer ≡ 1

-- the list was read once. Or it was not read: then the answer is `Memory`, and the list that was read last stays the same
abbrev pub IsOneRead : Fed → ℕ → ℕ → Published → Published → Type 0
IsOneRead answer before after old new = (after ≡ before + 1) ⊎ ((answer ≡ fed.Memory) × (after ≡ before) × (new ≡ old))
