-- The bytes that are written: of several spellings of a value the canonical one.
use Rattle.std.specs.Prelude.{ℕ, ◌<◌, ◌^◌, ℤ, pos, Bool, true, false, List, [], ◌∷◌, ◌++◌, length}
use Rattle.std.specs.Int.{w32, w64, cast_unsigned}
use Rattle.std.specs.Int.RustNames.{FitsSigned}
use Rattle.std.specs.Str.{IsUtf8}
use Rattle.std.specs.List.{AllByRecursion, flat_map}
use Rattle.byteorder.specs.Endian.{big_bytes}
use Rattle.zk_model.specs.declared.request.Acl.{Acl}
use Rattle.zk_jute.specs.JuteValues.{Value, int, long, boolean, buffer, ustring, ustrings, acls, open_acl}
use Rattle.zk_model.specs.Access.{open_entry}

unfoldable pub int_bytes : ℤ → List ℕ
int_bytes n = big_bytes 4 (cast_unsigned w32 n)

unfoldable pub long_bytes : ℤ → List ℕ
long_bytes n = big_bytes 8 (cast_unsigned w64 n)

abbrev pub boolean_bytes : Bool → List ℕ
boolean_bytes true = 1 ∷ []
boolean_bytes false = 0 ∷ []

abbrev pub count_bytes : ℕ → List ℕ
count_bytes n = int_bytes (pos n)

-- a buffer or a ustring: its length, and its bytes
abbrev pub string_bytes : List ℕ → List ℕ
string_bytes bytes = count_bytes (length bytes) ++ bytes

-- a vector: its count, and its items
abbrev pub vector_bytes : {A : Type 0} → (A → List ℕ) → List A → List ℕ
vector_bytes each xs = count_bytes (length xs) ++ flat_map each xs

abbrev pub acl_bytes : Acl → List ℕ
acl_bytes acl = int_bytes acl.perms ++ string_bytes acl.scheme ++ string_bytes acl.id

-- the one spelling of a value that is written: true is 1, and an empty buffer or vector has the length 0
abbrev pub canonical : Value → List ℕ
canonical (int n) = int_bytes n
canonical (long n) = long_bytes n
canonical (boolean b) = boolean_bytes b
canonical (buffer content) = string_bytes content
canonical (ustring text) = string_bytes text
canonical (ustrings texts) = vector_bytes string_bytes texts
canonical (acls entries) = vector_bytes acl_bytes entries
canonical open_acl = vector_bytes acl_bytes (open_entry ∷ [])

-- the length fits an int
abbrev pub IsShort : List ℕ → Type 0
IsShort bytes = length bytes < 2 ^ 31

pub record IsShortAcl (acl : Acl) : Type 0 where
  pub scheme : IsShort acl.scheme
  pub id : IsShort acl.id

-- the lengths and the count in a value fit an int
abbrev pub CanBeWritten : Value → Type 0
CanBeWritten (int n) = Unit {0}
CanBeWritten (long n) = Unit {0}
CanBeWritten (boolean b) = Unit {0}
CanBeWritten (buffer content) = IsShort content
CanBeWritten (ustring text) = IsShort text
CanBeWritten (ustrings texts) = (length texts < 2 ^ 31) × AllByRecursion IsShort texts
CanBeWritten (acls entries) = (length entries < 2 ^ 31) × AllByRecursion IsShortAcl entries
CanBeWritten open_acl = Unit {0}

-- values, one after the other
abbrev pub written : List Value → List ℕ
written vs = flat_map canonical vs

abbrev pub AllCanBeWritten : List Value → Type 0
AllCanBeWritten vs = AllByRecursion CanBeWritten vs

-- a packet: the length of a frame, and the frame
abbrev pub with_length : List ℕ → List ℕ
with_length frame = count_bytes (length frame) ++ frame

-- the length of a frame fits its int. Then so do the lengths and counts in it
abbrev pub FitsLength : List ℕ → Type 0
FitsLength frame = length frame < 2 ^ 31

-- ---- values that reading may give: numbers in their range, texts in UTF-8

pub record IsAclValue (acl : Acl) : Type 0 where
  pub perms : FitsSigned w32 acl.perms
  pub scheme : IsUtf8 acl.scheme
  pub id : IsUtf8 acl.id

abbrev pub IsValue : Value → Type 0
IsValue (int n) = FitsSigned w32 n
IsValue (long n) = FitsSigned w64 n
IsValue (boolean b) = Unit {0}
IsValue (buffer content) = Unit {0}
IsValue (ustring text) = IsUtf8 text
IsValue (ustrings texts) = AllByRecursion IsUtf8 texts
IsValue (acls entries) = AllByRecursion IsAclValue entries
IsValue open_acl = Unit {0}

abbrev pub AreValues : List Value → Type 0
AreValues vs = AllByRecursion IsValue vs
