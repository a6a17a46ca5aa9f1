-- For clauses: texts that are spelled as a writer spells them, and what they read as.
use Rattle.std.specs.Prelude.{◌≡◌, ◌≤◌, ◌⊎◌, ℕ, List, [], ◌++◌, Bool, true, false, cond, Some, Result, Ok}
use Rattle.serde_json.specs.Data.{Data, Items, no_items}
use Rattle.serde_json.specs.Read.{of_json, of_items}
use Rattle.json.specs.Json.{Json}
use Rattle.json.specs.Json as json
use Rattle.json.specs.Tree.{json_tokens, items_tokens, depth, items_depth, HasNumbers, ItemsHaveNumbers}
use Rattle.ev_fields.specs.declared.field.Field.{Field}
use Rattle.ev_fields.specs.Straight.{Prints}

-- the bytes are a JSON value that reads as x, and then the rest
pub record IsSpelled {A : Type 0} (reading : Data → Result A Field) (level : ℕ) (bytes : List ℕ) (x : A) (rest : List ℕ) : Type 0 where
  pub spelled : Json
  pub value : Data
  pub reads : of_json spelled ≡ Some value
  pub gives : reading value ≡ Ok x
  pub numbers : HasNumbers spelled
  pub shallow : depth spelled ≤ level
  pub prints : Prints false (json_tokens spelled) bytes true rest

-- the bytes are items that read as xs, the bracket that closes their array, and then the rest. The flag says whether an item stands
-- before them
pub record AreSpelled {A : Type 0} (reading : Items → Result (List A) Field) (level : ℕ) (later : Bool) (bytes : List ℕ) (xs : List A) (rest : List ℕ) : Type 0 where
  pub spelled : json.Items
  pub value : Items
  pub reads : of_items spelled ≡ Some value
  pub gives : reading value ≡ Ok xs
  pub numbers : ItemsHaveNumbers spelled
  pub shallow : items_depth spelled ≤ level
  pub prints : Prints later (items_tokens spelled) bytes true rest

-- the bytes are the member of this text, whose value is an array that reads as xs, or there is no such member and no items are read
abbrev pub AreSpelledIf : {A : Type 0} → (Items → Result (List A) Field) → ℕ → List ℕ → List ℕ → List A → List ℕ → Type 0
AreSpelledIf reading level text bytes xs rest = ((bytes ≡ rest) × (reading no_items ≡ Ok xs)) ⊎ ((items : List ℕ) × (bytes ≡ text ++ items) × AreSpelled reading level false items xs rest)

-- the bytes are this text where the flag is true, and then the rest
abbrev pub IsFlagged : List ℕ → List ℕ → Bool → List ℕ → Type 0
IsFlagged text bytes flag rest = bytes ≡ cond flag text [] ++ rest
