-- The paths of a session's nodes, in the order of their bytes, where one comes or goes.
use Rattle.std.specs.Prelude.{◌≡◌, ◌≤◌, ◌<◌, ℕ, true, false, length, get_or, not, List, [], ◌∷◌, filter}
use Rattle.std.specs.Ordering.{nat_cmp}
use Rattle.std.specs.Cmp.Lexicographic.{slice_cmp}
use Rattle.std.specs.FinMap.Entries.{by_order}
use Rattle.ev_types.specs.Ranges.{comes_before}
use Rattle.zx_base.specs.Maps.{Bytes, same}
use Rattle.zn_layout.specs.declared.record.SessionRec.{SessionRec}

-- the list with p in its place; p stands there once, also where it was there
abbrev pub placed : Bytes → List Bytes → List Bytes
placed p [] = p ∷ []
placed p (q ∷ qs) = by_order (slice_cmp nat_cmp p q) (p ∷ q ∷ qs) (q ∷ qs) (q ∷ placed p qs)

abbrev pub without : Bytes → List Bytes → List Bytes
without p = filter (λ q. not (same p q))

-- a session's nodes with p among them, and without it
abbrev pub with_node : Bytes → SessionRec → SessionRec
with_node p r = record r { paths = placed p r.paths }

abbrev pub without_node : Bytes → SessionRec → SessionRec
without_node p r = record r { paths = without p r.paths }

-- all paths before this place are before the path, and the one there isn't
pub record IsPlaceOf (p : Bytes) (ps : List Bytes) (place : ℕ) : Type 0 where
  pub within : place ≤ length ps
  pub before : (k : ℕ) → k < place → comes_before (get_or ps k p) p ≡ true
  pub stops : place < length ps → comes_before (get_or ps place p) p ≡ false
