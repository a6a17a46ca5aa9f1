-- What a copy of the list keeps of an entry and of an end: the thing itself, if the copy has an owner of it, and else its place.
use Rattle.std.specs.Prelude.{◌≡◌, pos, List, [], ◌∷◌, Option, Some, None}
use Rattle.std.specs.Arc.{arc_value}
use Rattle.std.specs.declared.alloc.Global.{Global}
use Rattle.std.specs.declared.sync.Arc.{Arc}
use Rattle.zn_layout.specs.declared.entry.Entry.{Entry}
use Rattle.zw_hub.specs.declared.feed.FeedEnd.{FeedEnd}
use Rattle.zw_hub.specs.declared.feed.FeedEnd.TheVariants as ends

-- the one entry of a history; where it has none, an entry without triggers
abbrev pub entry_of : List Entry → Entry
entry_of [] = record { number = pos 0; zxid = pos 0; triggers = [] }
entry_of (entry ∷ more) = entry

-- the one end of a history; where it has none, out of memory
abbrev pub end_of : List FeedEnd → FeedEnd
end_of [] = ends.Memory
end_of (end ∷ more) = end

-- this is what is owned, if something is
abbrev pub IsOwned : {A : Type 0} → Option (Arc A Global) → A → Type 0
IsOwned None a = Unit {0}
IsOwned (Some mine) a = arc_value mine ≡ a
