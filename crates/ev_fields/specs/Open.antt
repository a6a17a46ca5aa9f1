-- For clauses: what a text that is being written holds.
use Rattle.std.specs.Prelude.{ℕ, List, [], ◌∷◌, ◌++◌, ◌≡◌}
use Rattle.std.specs.List.{flat_map}
use Rattle.json.specs.Token.{Token}
use Rattle.json.specs.Tree.{json_tokens}
use Rattle.serde_json.specs.Data.{Data}
use Rattle.serde_json.specs.Written.{outline}
use Rattle.ev_fields.specs.Members.{object_of}

-- the tokens of a JSON value
unfoldable pub data_tokens : Data → List Token
data_tokens d = json_tokens (outline d)

abbrev pub field_tokens : List ℕ × Data → List Token
field_tokens f = Token.key f.0 ∷ data_tokens f.1

unfoldable pub fields_tokens : List (List ℕ × Data) → List Token
fields_tokens fs = flat_map field_tokens fs

-- the tokens are the earlier ones, and then an object that is still open, with these members so far
pub record IsOpen (before : List Token) (fs : List (List ℕ × Data)) (now : List Token) : Type 0 where
  pub tokens : now ≡ (before ++ Token.begin_object ∷ []) ++ fields_tokens fs

-- these members were added to the open object, whatever stands before it
abbrev pub Adds : List (List ℕ × Data) → List Token → List Token → Type 0
Adds more old new = (before : List Token) (fs : List (List ℕ × Data)) → IsOpen before fs old → IsOpen before (fs ++ more) new

-- the open object was closed
abbrev pub Closes : List Token → List Token → Type 0
Closes old new = (before : List Token) (fs : List (List ℕ × Data)) → IsOpen before fs old → new ≡ before ++ data_tokens (object_of fs)
