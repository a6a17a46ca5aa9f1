-- The places of each connection's lines, by its number.
use Rattle.std.specs.Prelude.{ℕ, Bool, false, ◌==◌, List, [], ◌∷◌, Option, Some, None, if◌then◌else◌}
use Rattle.std.specs.BTreeMap.{is_at}
use Rattle.std.specs.Map.{lookup}
use Rattle.std.specs.Ordering.{nat_cmp}

abbrev pub places_in : Option (List ℕ) → List ℕ
places_in None = []
places_in (Some places) = places

-- no places where it has no line
abbrev pub places_at : ℕ → List (ℕ × List ℕ) → List ℕ
places_at c entries = places_in (lookup (is_at (nat_cmp c)) entries)

abbrev pub is_number : ℕ → Option ℕ → Bool
is_number c None = false
is_number c (Some d) = c == d

-- the place, where it is one of these
abbrev pub placed : Bool → ℕ → List ℕ
placed b place = if b then place ∷ [] else []
