-- The words of the values that a record is made of (this project's own format).
use Rattle.std.specs.Prelude.{ℕ, ℤ, Bool, true, false, List, [], ◌∷◌, ◌++◌, length, codes, decimal}
use Rattle.std.specs.Fmt.{signed_decimal}
use Rattle.std.specs.List.{flat_map}
use Rattle.zk_model.specs.declared.request.Acl.{Acl}
use Rattle.zk_jute.specs.JuteValues.{Value, int, long, boolean, buffer, ustring, ustrings, acls, open_acl}
use Rattle.zt_text.specs.Transcripts.{hex_text}
use Rattle.zk_model.specs.Access.{open_entry}

-- a blank (32) and a word
abbrev pub spaced_word : List ℕ → List ℕ
spaced_word word = 32 ∷ word

-- a number, with its sign where it is below 0
abbrev pub signed_word : ℤ → List ℕ
signed_word n = spaced_word (signed_decimal n)

-- bytes and texts are hex, `-` where they are empty
abbrev pub hex_word : List ℕ → List ℕ
hex_word bytes = spaced_word (hex_text bytes)

-- 0 or 1
abbrev pub boolean_word : Bool → List ℕ
boolean_word true = codes " 1"
boolean_word false = codes " 0"

-- a vector is its count and its items
abbrev pub vector_words : {A : Type 0} → (A → List ℕ) → List A → List ℕ
vector_words each xs = spaced_word (decimal (length xs)) ++ flat_map each xs

-- the permissions, the scheme and the id
abbrev pub acl_words : Acl → List ℕ
acl_words entry = signed_word entry.perms ++ hex_word entry.scheme ++ hex_word entry.id

-- a value, by its kind
abbrev pub value_words : Value → List ℕ
value_words (int n) = signed_word n
value_words (long n) = signed_word n
value_words (boolean b) = boolean_word b
value_words (buffer content) = hex_word content
value_words (ustring text) = hex_word text
value_words (ustrings texts) = vector_words hex_word texts
value_words (acls entries) = vector_words acl_words entries
value_words open_acl = vector_words acl_words (open_entry ∷ [])

-- the fields of a record, in order
abbrev pub record_words : List Value → List ℕ
record_words values = flat_map value_words values
