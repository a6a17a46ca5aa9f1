-- Members of JSON objects as they are written: lists of names and values. Numbers of 64 bits are strings of decimal digits and
-- bytes are base64 with padding, as protobuf's JSON mapping has them.
use Rattle.std.specs.Prelude.{ℕ, ℤ, pos, List, [], ◌∷◌, length, Bool, if◌then◌else◌, ◌==◌, codes}
use Rattle.std.specs.Fmt.{signed_decimal}
use Rattle.std.specs.Ordering.{int_eq}
use Rattle.serde_json.specs.Data.{Data, boolean, string, array, object, Members, no_members, member}
use Rattle.serde_json.specs.View.{items_of}
use Rattle.base64.specs.Engines.{standard}
use Rattle.base64.specs.GeneralPurpose.{encode_of}
use Rattle.ev_fields.specs.declared.field.Field.{Field}
use Rattle.ev_fields.specs.Names.{snake}

abbrev pub members_from : List (List ℕ × Data) → Members
members_from [] = no_members
members_from (f ∷ fs) = member f.0 f.1 (members_from fs)

-- an object with these members, in this order
unfoldable pub object_of : List (List ℕ × Data) → Data
object_of fs = object (members_from fs)

-- no members
unfoldable pub none : List (List ℕ × Data)
none = []

-- a member with any value
unfoldable pub given : Field → Data → List (List ℕ × Data)
given name d = (snake name, d) ∷ []

-- a number, as a string of decimal digits
unfoldable pub number : Field → ℤ → List (List ℕ × Data)
number name n = given name (string (signed_decimal n))

-- a number, left out where it is 0
unfoldable pub number_if : Field → ℤ → List (List ℕ × Data)
number_if name n = if int_eq n (pos 0) then [] else number name n

-- bytes, as a string of base64
unfoldable pub bytes : Field → List ℕ → List (List ℕ × Data)
bytes name bs = given name (string (encode_of standard bs))

-- bytes, left out where there are none
unfoldable pub bytes_if : Field → List ℕ → List (List ℕ × Data)
bytes_if name bs = if length bs == 0 then [] else bytes name bs

-- a flag, left out where it is false
unfoldable pub true_if : Field → Bool → List (List ℕ × Data)
true_if name b = if b then given name (boolean b) else []

-- a string
unfoldable pub text : Field → List ℕ → List (List ℕ × Data)
text name s = given name (string s)

-- a list, left out where it is empty
unfoldable pub list_if : Field → List Data → List (List ℕ × Data)
list_if name [] = []
list_if name (d ∷ ds) = given name (array (items_of (d ∷ ds)))

-- the member `kv` of an event: a key with its value
unfoldable pub kv_member : Data → List (List ℕ × Data)
kv_member d = (codes "kv", d) ∷ []
