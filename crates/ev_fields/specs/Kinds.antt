-- Members of a message that is read: their names, their kinds, and whether they must be there (protobuf's JSON mapping; the
-- numbers' ranges are this project's). A reading gives a value, or the member that cannot be read.
use Rattle.std.specs.Prelude.{ℕ, ℤ, pos, ◌^◌, ◌&&◌, ◌==◌, List, [], ◌∷◌, length, Bool, true, false, nat_lt, int_lt, is_some, Option, Some, None, option_and_then, Result, Ok, Err, if◌then◌else◌, bytes_eq}
use Rattle.std.specs.List.{list_all}
use Rattle.std.specs.Char.{is_ascii_digit}
use Rattle.std.specs.Str.Parse.{digits_value}
use Rattle.std.specs.Result.{result_ok}
use Rattle.serde_json.specs.Data.{Num, Data, null, boolean, number, string, array, object, Items, no_items, item}
use Rattle.serde_json.specs.Find.{get, as_str, as_number, as_u64, as_bool, as_array}
use Rattle.base64.specs.Engines.{standard}
use Rattle.base64.specs.GeneralPurpose.{decode_of}
use Rattle.ev_fields.specs.declared.field.Field.{Field}
use Rattle.ev_fields.specs.declared.field.Field.TheVariants as field
use Rattle.ev_fields.specs.Names.{snake, camel}

infixl 10 ◌>>=◌
abbrev pub ◌>>=◌ : {A B : Type 0} → Result A Field → (A → Result B Field) → Result B Field
(Ok x) >>= f = f x
(Err e) >>= f = Err e

-- ---- names

abbrev pub or_else : Option Data → Option Data → Option Data
or_else None y = y
or_else (Some x) y = Some x

-- the member under its snake case name, otherwise the one under its camel case name
unfoldable pub member_of : Field → Data → Option Data
member_of f d = or_else (get (snake f) d) (get (camel f) d)

-- whether the member is there, under either name
abbrev pub has : Field → Data → Bool
has f d = is_some (member_of f d)

-- ---- kinds

-- the number that a text of one or more digits gives
abbrev pub digits : List ℕ → Option ℕ
digits s = if nat_lt 0 (length s) && list_all is_ascii_digit s then Some (digits_value 10 s) else None

-- a number below 2 ^ 64
abbrev pub fits64 : Option ℕ → Option ℕ
fits64 None = None
fits64 (Some n) = if nat_lt n (2 ^ 64) then Some n else None

unfoldable pub digits64 : List ℕ → Option ℕ
digits64 s = fits64 (digits s)

-- a number below the top
abbrev pub below : ℕ → Option ℕ → Option ℤ
below top None = None
below top (Some n) = if nat_lt n top then Some (pos n) else None

-- where the value is a text, the number that its digits give; otherwise the value as a JSON integer
abbrev pub from_text_or : Option (List ℕ) → Option Num → Option ℕ
from_text_or (Some s) n = digits64 s
from_text_or None n = option_and_then as_u64 n

unfoldable pub number_of : ℕ → Data → Option ℤ
number_of top d = below top (from_text_or (as_str d) (as_number d))

-- revisions, versions, counts, limits and seconds
unfoldable pub count_of : Data → Option ℤ
count_of = number_of (2 ^ 62)

-- a lease's number
unfoldable pub lease_of : Data → Option ℤ
lease_of = number_of (2 ^ 63)

-- a number that is at least 1
abbrev pub from_one : Option ℤ → Option ℤ
from_one None = None
from_one (Some n) = if int_lt (pos 0) n then Some n else None

-- the bytes that a text in base64 stands for
unfoldable pub bytes_of : Data → Option (List ℕ)
bytes_of d = option_and_then (λ s. result_ok (decode_of standard s)) (as_str d)

-- bytes, of which there is at least one
abbrev pub some_byte : Option (List ℕ) → Option (List ℕ)
some_byte None = None
some_byte (Some bs) = if length bs == 0 then None else Some bs

abbrev pub same_text : List ℕ → Option (List ℕ) → Option Bool
same_text word None = None
same_text word (Some s) = if bytes_eq s word then Some true else None

-- true, where the value is this text
unfoldable pub word_of : List ℕ → Data → Option Bool
word_of word d = same_text word (as_str d)

abbrev pub is_object : Data → Bool
is_object (object ms) = true
is_object null = false
is_object (boolean b) = false
is_object (number n) = false
is_object (string s) = false
is_object (array ds) = false

abbrev pub message_of : Data → Option Data
message_of d = if is_object d then Some d else None

-- ---- members by whether they must be there

-- a value, or the fault that names the member
abbrev pub known : {A : Type 0} → Field → Option A → Result A Field
known f None = Err f
known f (Some x) = Ok x

-- the default where the member is absent, otherwise its value as this kind
abbrev pub known_or : {A : Type 0} → Field → A → (Data → Option A) → Option Data → Result A Field
known_or f default kind None = Ok default
known_or f default kind (Some v) = known f (kind v)

abbrev pub optional : {A : Type 0} → Field → A → (Data → Option A) → Data → Result A Field
optional f default kind d = known_or f default kind (member_of f d)

abbrev pub needed : {A : Type 0} → Field → (Data → Option A) → Data → Result A Field
needed f kind d = known f (option_and_then kind (member_of f d))

unfoldable pub count_in : Field → Data → Result ℤ Field
count_in f d = optional f (pos 0) count_of d

unfoldable pub lease_in : Field → Data → Result ℤ Field
lease_in f d = optional f (pos 0) lease_of d

unfoldable pub flag_in : Field → Data → Result Bool Field
flag_in f d = optional f false as_bool d

unfoldable pub bytes_in : Field → Data → Result (List ℕ) Field
bytes_in f d = optional f [] bytes_of d

unfoldable pub needed_bytes : Field → Data → Result (List ℕ) Field
needed_bytes f d = needed f bytes_of d

unfoldable pub needed_count : Field → Data → Result ℤ Field
needed_count f d = needed f count_of d

-- a count of at least 1
unfoldable pub positive_count : Field → Data → Result ℤ Field
positive_count f d = needed f (λ v. from_one (count_of v)) d

-- a lease's number of at least 1
unfoldable pub positive_lease : Field → Data → Result ℤ Field
positive_lease f d = needed f (λ v. from_one (lease_of v)) d

-- the key of an ask, which must be there and have at least one byte
unfoldable pub key_in : Data → Result (List ℕ) Field
key_in d = needed field.Key (λ v. some_byte (bytes_of v)) d

-- a member that must be this text
unfoldable pub word_in : Field → List ℕ → Data → Result Bool Field
word_in f word d = needed f (word_of word) d

-- a member that is this text or is absent
unfoldable pub word_or_none : Field → List ℕ → Data → Result Bool Field
word_or_none f word d = optional f true (word_of word) d

-- a member that must be there, whose value is an object
unfoldable pub message_in : Field → Data → Result Data Field
message_in f d = needed f message_of d

-- a member that must not be there
unfoldable pub without : Field → Data → Result Bool Field
without f d = if has f d then Err f else Ok true

-- ---- lists

-- each item of a list is read, from the first on, up to the first fault
unfoldable pub each : {A : Type 0} → (Data → Result A Field) → Items → Result (List A) Field
each reading no_items = Ok []
each reading (item d ds) = do
  first ← reading d
  others ← each reading ds
  Ok (first ∷ others)

-- the items of a list, none where it is absent
unfoldable pub items_in : Field → Data → Result Items Field
items_in f d = optional f no_items as_array d

-- the items of a list, each read; none where the list is absent
unfoldable pub list_in : {A : Type 0} → (Data → Result A Field) → Field → Data → Result (List A) Field
list_in reading f d = items_in f d >>= each reading
