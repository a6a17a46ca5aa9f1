-- What a book tells of the connections that it took.
use Rattle.std.specs.Prelude.{ℕ, List, [], ◌∷◌, ◌++◌, Option, Some, None}
use Rattle.zk_service.specs.declared.cause.Cause.{Cause}

-- a connection that has ended
pub record Ending : Type 0 where
  pub number : ℕ
  pub cause : Cause

-- one more was taken, where the book tells its list
abbrev pub with_ending : Option (List Ending) → Ending → Option (List Ending)
with_ending None e = None
with_ending (Some es) e = Some (es ++ e ∷ [])

-- so many more were taken, in this order
abbrev pub with_endings : Option (List Ending) → List Ending → Option (List Ending)
with_endings None es = None
with_endings (Some all) es = Some (all ++ es)
