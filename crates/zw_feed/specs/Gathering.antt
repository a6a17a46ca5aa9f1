-- What the puts of a line gave so far, put by put.
use Rattle.std.specs.Prelude.{◌≡◌, ◌≤ℤ◌, ◌<ℤ◌, ◌^◌, ℕ, ℤ, pos, ◌+ℤ◌, List, [], ◌∷◌, ◌++◌, length, take, filter, Bool, true, false, ◌≤◌}
use Rattle.ev_types.specs.declared.answer.Kv.{Kv}
use Rattle.zn_layout.specs.declared.entry.Entry.{Entry}
use Rattle.zw_feed.specs.declared.found.Found.{Found}
use Rattle.zw_feed.specs.Following.{AreEntries, IsEntryOf, is_head}

-- a put of the head adds its entry; any other leaves what was found
abbrev pub GrowsIf : Bool → Found → Kv → Found → Type 0
GrowsIf false old kv new = new ≡ old
GrowsIf true old kv new = (e : Entry) × IsEntryOf (old.last +ℤ pos 1) kv e × (new.first ≡ old.first) × (new.last ≡ old.last +ℤ pos 1) × ((new.entries).items ≡ (old.entries).items ++ e ∷ [])

abbrev pub Grows : Found → Kv → Found → Type 0
Grows old kv new = GrowsIf (is_head kv) old kv new

-- the first so many puts gave this
pub record IsSoFar (kvs : List Kv) (at : ℕ) (first : ℤ) (f : Found) : Type 0 where
  pub within : at ≤ length kvs
  pub same : f.first ≡ first
  pub so_far : AreEntries first (filter is_head (take at kvs)) (f.entries).items
  pub last_is : f.last ≡ first +ℤ pos (length (f.entries).items)
  pub least : pos 0 ≤ℤ f.last
  pub most : f.last <ℤ pos (2 ^ 62)
