-- The addresses of the endpoints of one etcd, in one text.
use Rattle.std.specs.Prelude.{ℕ, ◌+◌, ◌-◌, ◌==◌, nat_lt, if◌then◌else◌, Bool, not, List, [], ◌∷◌, filter, length, take, codes}
use Rattle.std.specs.List.{slice_split}

-- what stands between two commas names an endpoint unless it is empty
abbrev pub is_part : List ℕ → Bool
is_part part = not (length part == 0)

-- the endpoints that are named, and of these the first five
abbrev pub named_in : List ℕ → List (List ℕ)
named_in text = take 5 (filter is_part (slice_split (λ b. b == 44) text))

-- the one that is meant where none is named
abbrev pub local : List ℕ
local = codes "localhost"

abbrev pub or_local : List (List ℕ) → List (List ℕ)
or_local [] = local ∷ []
or_local (a ∷ more) = a ∷ more

-- the endpoints of a text
abbrev pub addresses_in : List ℕ → List (List ℕ)
addresses_in text = or_local (named_in text)

-- the number of the address after this one; after the last comes the first
abbrev pub next_of : ℕ → ℕ → ℕ
next_of size at = if nat_lt at (size - 1) then at + 1 else 0
