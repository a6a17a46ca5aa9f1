-- A number that is struck out of a list.
use Rattle.std.specs.Prelude.{◌≡◌, ℕ, Bool, true, false, List, ◌∷◌, IsPermutation}

-- the number stood in the list, and once less now; or it did not
abbrev pub Strikes : Bool → ℕ → List ℕ → List ℕ → Type 0
Strikes true number xs ys = IsPermutation (number ∷ ys) xs
Strikes false number xs ys = ys ≡ xs
