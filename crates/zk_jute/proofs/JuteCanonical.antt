-- What is written is a spelling.
use Rattle.std.proofs.Common.{◌≡◌, ℕ, ◌^◌, ◌<◌, true, false, List, [], ◌∷◌, length, refl, sym, ap, ◌∙◌, arith, lit<, inl, ℤ, pos}
use Rattle.std.specs.Int.{w32, w64, cast_signed, cast_unsigned}
use Rattle.std.specs.Int.RustNames.{FitsSigned}
use Rattle.std.specs.List.{AllByRecursion, flat_map}
use Rattle.std.proofs.lemmas.Int.{to_z-of_z, ints}
use Rattle.std.proofs.lemmas.List.{append-nil}
use Rattle.std.specs.Prelude.{codes}
use Rattle.std.specs.Str.{IsUtf8}
use Rattle.byteorder.specs.Endian.{big_number, big_bytes}
use Rattle.byteorder.specs.Numbers.{big_number-reads_back, length-bytes_high_first}
use Rattle.zk_model.specs.declared.request.Acl.{Acl}
use Rattle.zk_jute.specs.JuteValues.{Value, int, long, boolean, buffer, ustring, ustrings, acls, open_acl, Spelled, IsInt, IsLong, IsUstring, IsAcl, Spells}
use Rattle.zk_jute.specs.JuteWriting.{int_bytes, long_bytes, count_bytes, string_bytes, acl_bytes, canonical, IsShort, IsShortAcl, CanBeWritten, AllCanBeWritten, IsAclValue, IsValue, AreValues, written}
use Rattle.zk_model.specs.Access.{open_entry}

number_back : (n x : ℕ) → x < 256 ^ n → big_number n (big_bytes n x) ≡ x
number_back n x lt = ap (big_number n) (sym (append-nil (big_bytes n x))) ∙ big_number-reads_back n x [] lt

pub int_canonical : (n : ℤ) → FitsSigned w32 n → IsInt n (int_bytes n)
unfolding int_bytes
int_canonical n fits =
    let lt : cast_unsigned w32 n < 256 ^ 4 = omega (arith, ints) in
    (length-bytes_high_first 4 (cast_unsigned w32 n), sym (ap (cast_signed w32) (number_back 4 (cast_unsigned w32 n) lt) ∙ to_z-of_z w32 n fits))

pub long_canonical : (n : ℤ) → FitsSigned w64 n → IsLong n (long_bytes n)
unfolding long_bytes
long_canonical n fits =
    let lt : cast_unsigned w64 n < 256 ^ 8 = omega (arith, ints) in
    (length-bytes_high_first 8 (cast_unsigned w64 n), sym (ap (cast_signed w64) (number_back 8 (cast_unsigned w64 n) lt) ∙ to_z-of_z w64 n fits))

pub length_canonical : (n : ℕ) → n < 2 ^ 31 → IsInt (pos n) (count_bytes n)
length_canonical n lt = int_canonical (pos n) (record { sfits = lt })

text_canonical : (text : List ℕ) → IsShort text → IsUtf8 text → IsUstring text (string_bytes text)
text_canonical text short utf8 = (count_bytes (length text), length_canonical (length text) short, utf8, refl)

acl_canonical : (acl : Acl) → IsShortAcl acl → IsAclValue acl → IsAcl acl (acl_bytes acl)
acl_canonical acl short is = (int_bytes acl.perms, string_bytes acl.scheme, string_bytes acl.id, int_canonical acl.perms is.perms, text_canonical acl.scheme short.scheme is.scheme, text_canonical acl.id short.id is.id, refl)

-- what is written of each item spells it
pub all_canonical : {A : Type 0} (Is : A → List ℕ → Type 0) (Fits Good : A → Type 0) (bytes : A → List ℕ) → ((x : A) → Fits x → Good x → Is x (bytes x)) → (xs : List A) → AllByRecursion Fits xs → AllByRecursion Good xs → Spelled Is xs (flat_map bytes xs)
all_canonical {A = A} Is Fits Good bytes each [] fits good = refl
all_canonical {A = A} Is Fits Good bytes each (x ∷ xs) fits good = (bytes x, flat_map bytes xs, each x fits.0 good.0, all_canonical Is Fits Good bytes each xs fits.1 good.1, refl)

open_short : IsShortAcl open_entry
open_short = record { scheme = lit< tt; id = lit< tt }

open_good : IsAclValue open_entry
unfolding lib.Utf8.encode
open_good = record { perms = record { sfits = lit< tt }; scheme = (codes "world", (refl, refl)); id = (codes "anyone", (refl, refl)) }

pub value_canonical : (v : Value) → CanBeWritten v → IsValue v → Spells v (canonical v)
value_canonical (int n) fits is = int_canonical n is
value_canonical (long n) fits is = long_canonical n is
value_canonical (boolean true) fits is = refl
value_canonical (boolean false) fits is = refl
value_canonical (buffer content) fits is = (count_bytes (length content), inl (length_canonical (length content) fits), refl)
value_canonical (ustring text) fits is = text_canonical text fits is
value_canonical (ustrings texts) fits is =
    (count_bytes (length texts), flat_map string_bytes texts, inl (length_canonical (length texts) fits.0), all_canonical IsUstring IsShort IsUtf8 string_bytes text_canonical texts fits.1 is, refl)
value_canonical (acls entries) fits is =
    (count_bytes (length entries), flat_map acl_bytes entries, inl (length_canonical (length entries) fits.0), all_canonical IsAcl IsShortAcl IsAclValue acl_bytes acl_canonical entries fits.1 is, refl)
value_canonical open_acl fits is =
    (count_bytes 1, flat_map acl_bytes (open_entry ∷ []), inl (length_canonical 1 (lit< tt)), all_canonical IsAcl IsShortAcl IsAclValue acl_bytes acl_canonical (open_entry ∷ []) (open_short, tt) (open_good, tt), refl)

pub values_canonical : (vs : List Value) → AllCanBeWritten vs → AreValues vs → Spelled Spells vs (written vs)
values_canonical vs fits is = all_canonical Spells CanBeWritten IsValue canonical value_canonical vs fits is
