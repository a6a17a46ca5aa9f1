-- A cache of views, as the list of pairs of a path and its view, the most recently used first.
use Rattle.std.specs.Prelude.{◌≡◌, ℕ, List, [], Option, Some, None, All}
use Rattle.lru.specs.LruCache.{LruCache}
use Rattle.zx_base.specs.Maps.{Bytes}
use Rattle.zn_view.specs.Seen.{View}

-- how many views are kept
abbrev pub max_views : ℕ
max_views = 16

-- no cache is made before the first view is kept
abbrev pub entries_of : Option (LruCache Bytes View) → List (Bytes × View)
entries_of None = []
entries_of (Some c) = c.entries

-- the view has no lists of children, so that a copy of its keys is a copy of the view
abbrev pub HasNoLists : View → Type 0
HasNoLists v = v.lists ≡ []

abbrev pub IsPlainPair : Bytes × View → Type 0
IsPlainPair x = HasNoLists x.1

-- a cache of at most so many views, none with lists
abbrev pub IsCacheOfViews : LruCache Bytes View → Type 0
IsCacheOfViews c = (c.cap ≡ max_views) × All IsPlainPair c.entries
