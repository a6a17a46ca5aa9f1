-- The JSON value that stands at a place in the tokens of a text, in the words of `serde_json`: objects have each name once, and
-- numbers have values.
use Rattle.std.specs.Prelude.{◌≡◌, List, [], ◌∷◌, length, Option, Some, None, option_and_then}
use Rattle.json.specs.Token.{Token, begin_array, end_array}
use Rattle.json.specs.Json as json
use Rattle.json.specs.Json.{value}
use Rattle.json.specs.Find.{BeginsWith, InItems}
use Rattle.serde_json.specs.Data.{Data, null, boolean, number, string, array, object, Items, no_items}
use Rattle.serde_json.specs.Read.{of_json, of_items}

-- the tokens begin with a value, each number of which can be held
abbrev pub IsHeld : List Token → Type 0
IsHeld ts = (j : json.Json) × (d : Data) × BeginsWith ts j × (of_json j ≡ Some d)

abbrev pub or_null : Option Data → Data
or_null None = null
or_null (Some d) = d

-- the value that the tokens begin with. It nests no deeper than there are tokens
unfoldable pub data_at : List Token → Data
data_at ts = or_null (option_and_then (λ p. of_json p.0) (value (length ts) ts))

-- the tokens begin with the items of an array and its closing bracket, and each number in them can be held
abbrev pub AreHeld : List Token → Type 0
AreHeld ts = (js : json.Items) × (ds : Items) × InItems ts js × (of_items js ≡ Some ds)

abbrev pub items_of : Data → Items
items_of (array ds) = ds
items_of null = no_items
items_of (boolean b) = no_items
items_of (number n) = no_items
items_of (string s) = no_items
items_of (object ms) = no_items

-- those items: with the opening bracket in front, the tokens begin with the array
unfoldable pub items_at : List Token → Items
items_at ts = items_of (data_at (begin_array ∷ ts))

-- the tokens that are still to come, and no items where there are none
abbrev pub or_closed : Option (List Token) → List Token
or_closed None = end_array ∷ []
or_closed (Some ts) = ts
