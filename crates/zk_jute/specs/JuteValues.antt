-- Jute's values (zookeeper.jute; `org.apache.jute.BinaryInputArchive`), and the bytes that spell each of them. A value may
-- have several spellings.
use Rattle.std.specs.Prelude.{◌≡◌, ℕ, zero, suc, ℤ, pos, Bool, true, false, ◌⊎◌, List, [], ◌∷◌, ◌++◌, length}
use Rattle.std.specs.Int.{w32, w64, cast_signed}
use Rattle.std.specs.Str.{IsUtf8}
use Rattle.byteorder.specs.Endian.{big_number}
use Rattle.zk_model.specs.Codes.{minus}
use Rattle.zk_model.specs.declared.request.Acl.{Acl}
use Rattle.zk_model.specs.Access.{open_entry}

-- a Jute value, or a vector. `open_acl` is the vector of the one open entry
pub data Value : Type 0 where
  int : ℤ → Value
  long : ℤ → Value
  boolean : Bool → Value
  buffer : List ℕ → Value
  ustring : List ℕ → Value
  ustrings : List (List ℕ) → Value
  acls : List Acl → Value
  open_acl : Value

-- which kind of value a field has
pub data Kind : Type 0 where
  an_int : Kind
  a_long : Kind
  a_boolean : Kind
  a_buffer : Kind
  a_ustring : Kind
  some_ustrings : Kind
  some_acls : Kind
  the_open_acl : Kind

-- a value's kind
abbrev pub kind_of : Value → Kind
kind_of (int n) = an_int
kind_of (long n) = a_long
kind_of (boolean b) = a_boolean
kind_of (buffer bytes) = a_buffer
kind_of (ustring text) = a_ustring
kind_of (ustrings texts) = some_ustrings
kind_of (acls entries) = some_acls
kind_of open_acl = the_open_acl

-- the bytes spell the items of a list one after the other, each as `each` says
abbrev pub Spelled : {A : Type 0} → (A → List ℕ → Type 0) → List A → List ℕ → Type 0
Spelled {A = A} each [] bytes = bytes ≡ []
Spelled {A = A} each (x ∷ xs) bytes = (front : List ℕ) × (rest : List ℕ) × each x front × Spelled each xs rest × (bytes ≡ front ++ rest)

-- four bytes, big-endian two's complement
abbrev pub IsInt : ℤ → List ℕ → Type 0
IsInt n bytes = (length bytes ≡ 4) × (n ≡ cast_signed w32 (big_number 4 bytes))

-- eight bytes, big-endian two's complement
abbrev pub IsLong : ℤ → List ℕ → Type 0
IsLong n bytes = (length bytes ≡ 8) × (n ≡ cast_signed w64 (big_number 8 bytes))

-- one byte; any but 0 is true
abbrev pub IsBoolean : Bool → List ℕ → Type 0
IsBoolean b [] = ⊥
IsBoolean b (zero ∷ []) = b ≡ false
IsBoolean b (suc c ∷ []) = b ≡ true
IsBoolean b (c ∷ d ∷ bytes) = ⊥

-- an int, the length of a buffer or the count of a vector; -1 stands for 0 too
abbrev pub IsCountField : ℕ → List ℕ → Type 0
IsCountField n bytes = IsInt (pos n) bytes ⊎ ((n ≡ 0) × IsInt (minus 1) bytes)

-- a buffer's length, and its bytes
abbrev pub IsBuffer : List ℕ → List ℕ → Type 0
IsBuffer content bytes = (front : List ℕ) × IsCountField (length content) front × (bytes ≡ front ++ content)

-- a text's length, which is an int not below 0, and its bytes, which are UTF-8
abbrev pub IsUstring : List ℕ → List ℕ → Type 0
IsUstring text bytes = (front : List ℕ) × IsInt (pos (length text)) front × IsUtf8 text × (bytes ≡ front ++ text)

-- a vector's count, and its items, each spelled as `each` says
abbrev pub IsVector : {A : Type 0} → (A → List ℕ → Type 0) → List A → List ℕ → Type 0
IsVector each xs bytes = (front : List ℕ) × (rest : List ℕ) × IsCountField (length xs) front × Spelled each xs rest × (bytes ≡ front ++ rest)

-- an `ACL` with its `Id`: the permissions, the scheme, the id
abbrev pub IsAcl : Acl → List ℕ → Type 0
IsAcl entry bytes = (perms : List ℕ) × (scheme : List ℕ) × (id : List ℕ)
    × IsInt entry.perms perms × IsUstring entry.scheme scheme × IsUstring entry.id id × (bytes ≡ perms ++ scheme ++ id)

-- these bytes spell this value
abbrev pub Spells : Value → List ℕ → Type 0
Spells (int n) bytes = IsInt n bytes
Spells (long n) bytes = IsLong n bytes
Spells (boolean b) bytes = IsBoolean b bytes
Spells (buffer content) bytes = IsBuffer content bytes
Spells (ustring text) bytes = IsUstring text bytes
Spells (ustrings texts) bytes = IsVector IsUstring texts bytes
Spells (acls entries) bytes = IsVector IsAcl entries bytes
Spells open_acl bytes = IsVector IsAcl (open_entry ∷ []) bytes
