-- The front of a list that was taken apart.
use Rattle.std.proofs.Common.{◌≡◌, ℕ, ◌≤◌, ap, ◌∙◌, arith, List, [], ◌∷◌, ◌++◌, length, take}
use Rattle.std.proofs.lemmas.List.{append-nil, take_all}

pub front-all : {X : Type 0} (xs ys : List X) (n : ℕ) → length xs ≤ n → length ys ≡ 0 → take n (xs ++ ys) ≡ xs
front-all xs [] n le none = ap (take n) (append-nil xs) ∙ take_all n xs le
front-all xs (y ∷ ys) n le none = absurd (omega (arith, none))
