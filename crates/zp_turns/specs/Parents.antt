-- The path of a node's parent (Programmer's Guide 3.4, "The ZooKeeper Data Model").
use Rattle.std.specs.Prelude.{◌≡◌, ◌≢◌, ℕ, List, [], ◌∷◌, ◌++◌, All}

-- '/'
abbrev pub slash : ℕ
slash = 47

-- it is what stands before the last slash, or that slash where nothing does
abbrev pub parent_by : List ℕ → List ℕ
parent_by [] = slash ∷ []
parent_by (x ∷ xs) = x ∷ xs

-- a path, cut at its last slash, and that of its parent
pub record IsParent (path parent : List ℕ) : Type 0 where
  pub before : List ℕ
  pub name : List ℕ
  pub cut : path ≡ before ++ slash ∷ name
  pub last : All (λ (b : ℕ). b ≢ slash) name
  pub is : parent ≡ parent_by before
