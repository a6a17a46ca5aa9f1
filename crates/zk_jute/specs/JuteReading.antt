-- Reading Jute's values from left to right. A fault is how many bytes are left from the first byte of what can't be read.
use Rattle.std.specs.Prelude.{ℕ, zero, suc, ◌==◌, ℤ, pos, negsuc, Bool, true, false, Option, Some, None, List, [], ◌∷◌, length, take, drop, Result, Ok, Err, nat_lt, if◌then◌else◌}
use Rattle.std.specs.Int.{w32, w64, cast_signed}
use Rattle.std.specs.Str.{is_utf8}
use Rattle.byteorder.specs.Endian.{big_number}
use Rattle.zk_model.specs.declared.request.Acl.{Acl}
use Rattle.zk_jute.specs.JuteValues.{Value, int, long, boolean, buffer, ustring, ustrings, acls, Kind, an_int, a_long, a_boolean, a_buffer, a_ustring, some_ustrings, some_acls, open_acl, the_open_acl}
use Rattle.zk_model.specs.Access.{is_open_acl}

-- the value and the bytes after it, or the fault
abbrev pub Read : Type 0 → Type 0
Read A = Result (A × List ℕ) ℕ

-- a step, and then another on what it gave; a fault ends both
infixl 10 ◌>>=◌
abbrev pub ◌>>=◌ : {A B : Type 0} → Result A ℕ → (A → Result B ℕ) → Result B ℕ
(Ok x) >>= f = f x
(Err left) >>= f = Err left

-- the int that the first four bytes are
abbrev pub front_int : List ℕ → ℤ
front_int bytes = cast_signed w32 (big_number 4 bytes)

-- the long that the first eight bytes are
abbrev pub front_long : List ℕ → ℤ
front_long bytes = cast_signed w64 (big_number 8 bytes)

abbrev pub int_at : List ℕ → Read ℤ
int_at bytes = if nat_lt (length bytes) 4 then Err (length bytes) else Ok (front_int bytes, drop 4 bytes)

abbrev pub long_at : List ℕ → Read ℤ
long_at bytes = if nat_lt (length bytes) 8 then Err (length bytes) else Ok (front_long bytes, drop 8 bytes)

abbrev pub boolean_at : List ℕ → Read Bool
boolean_at [] = Err 0
boolean_at (zero ∷ rest) = Ok (false, rest)
boolean_at (suc c ∷ rest) = Ok (true, rest)

-- the bytes after a length, where there are so many; else a fault of the whole value, at the first byte of `all`
abbrev pub bytes_after : List ℕ → ℤ → List ℕ → Read (List ℕ)
bytes_after all (pos n) rest = if nat_lt (length rest) n then Err (length all) else Ok (take n rest, drop n rest)
bytes_after all (negsuc n) rest = Err (length all)

-- bytes that are UTF-8, or a fault
abbrev pub text_read : ℕ → List ℕ × List ℕ → Read (List ℕ)
text_read left x = if is_utf8 x.0 then Ok x else Err left

abbrev pub ustring_at : List ℕ → Read (List ℕ)
ustring_at bytes = int_at bytes >>= λ n. bytes_after bytes n.0 n.1 >>= text_read (length bytes)

-- a length or a count: -1 is read as 0
abbrev pub count_of : ℕ → ℤ → List ℕ → Read ℕ
count_of left (pos n) rest = Ok (n, rest)
count_of left (negsuc zero) rest = Ok (0, rest)
count_of left (negsuc (suc n)) rest = Err left

abbrev pub count_at : List ℕ → Read ℕ
count_at bytes = int_at bytes >>= λ n. count_of (length bytes) n.0 n.1

abbrev pub buffer_at : List ℕ → Read (List ℕ)
buffer_at bytes = count_at bytes >>= λ n. bytes_after bytes (pos n.0) n.1

-- so many items, one after the other
unfoldable pub items_at : {A : Type 0} → (List ℕ → Read A) → ℕ → List ℕ → Read (List A)
items_at {A = A} item zero bytes = Ok ([], bytes)
items_at {A = A} item (suc n) bytes = item bytes >>= λ first. items_at item n first.1 >>= λ others. Ok (first.0 ∷ others.0, others.1)

abbrev pub vector_at : {A : Type 0} → (List ℕ → Read A) → List ℕ → Read (List A)
vector_at item bytes = count_at bytes >>= λ n. items_at item n.0 n.1

abbrev pub acl_at : List ℕ → Read Acl
acl_at bytes =
    int_at bytes >>= λ perms. ustring_at perms.1 >>= λ scheme. ustring_at scheme.1 >>= λ id.
    Ok (record { perms = perms.0; scheme = scheme.0; id = id.0 }, id.1)

-- the open list; any other is a fault of the whole vector
abbrev pub open_of : ℕ → List Acl → List ℕ → Read Value
open_of left entries rest = if is_open_acl entries then Ok (open_acl, rest) else Err left

abbrev pub as_value : {A : Type 0} → (A → Value) → Read A → Read Value
as_value make read = read >>= λ x. Ok (make x.0, x.1)

abbrev pub value_at : Kind → List ℕ → Read Value
value_at an_int bytes = as_value int (int_at bytes)
value_at a_long bytes = as_value long (long_at bytes)
value_at a_boolean bytes = as_value boolean (boolean_at bytes)
value_at a_buffer bytes = as_value buffer (buffer_at bytes)
value_at a_ustring bytes = as_value ustring (ustring_at bytes)
value_at some_ustrings bytes = as_value ustrings (vector_at ustring_at bytes)
value_at some_acls bytes = as_value acls (vector_at acl_at bytes)
value_at the_open_acl bytes = vector_at acl_at bytes >>= λ x. open_of (length bytes) x.0 x.1

-- the fields of a record, in order
unfoldable pub values_at : List Kind → List ℕ → Read (List Value)
values_at [] bytes = Ok ([], bytes)
values_at (k ∷ ks) bytes = value_at k bytes >>= λ first. values_at ks first.1 >>= λ others. Ok (first.0 ∷ others.0, others.1)

-- ---- items up to the last

-- an item and then the others, or no more after the last
abbrev pub more_then : {A : Type 0} → (List ℕ → Read (List A)) → Option A → List ℕ → Read (List A)
more_then {A = A} others None rest = Ok ([], rest)
more_then {A = A} others (Some x) rest = others rest >>= λ xs. Ok (x ∷ xs.0, xs.1)

-- the items before the last, at most so many: a count for the recursion alone, and `IsListed` of `Grammar` has none
unfoldable pub until_last : {A : Type 0} → (List ℕ → Read (Option A)) → ℕ → List ℕ → Read (List A)
until_last {A = A} next zero bytes = Err (length bytes)
until_last {A = A} next (suc n) bytes = next bytes >>= λ x. more_then (until_last next n) x.0 x.1

-- each item takes a byte at least, so there are fewer of them than this
abbrev pub all_until_last : {A : Type 0} → (List ℕ → Read (Option A)) → List ℕ → Read (List A)
all_until_last next bytes = until_last next (suc (length bytes)) bytes

-- ---- a whole frame

-- what was read, where no bytes come after it; such bytes are a fault
abbrev pub ended : {A : Type 0} → A × List ℕ → Read A
ended x = if length x.1 == 0 then Ok x else Err (length x.1)
