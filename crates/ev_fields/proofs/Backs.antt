-- Members as they are written, and what they read back as.
use Rattle.std.proofs.Common.{◌≡◌, ℕ, suc, ◌^◌, ◌<◌, ◌==◌, Bool, true, false, cond, List, [], ◌∷◌, ◌++◌, length, map, Option, Some, None, Result, Ok, decimal, refl, sym, ap, ap₂, ◌∙◌, arith}
use Rattle.std.specs.Prelude.{ℤ, pos}
use Rattle.std.specs.Fmt.{signed_decimal}
use Rattle.std.specs.List.{list_all, AllByRecursion}
use Rattle.std.specs.Char.{is_ascii_digit}
use Rattle.std.specs.Ordering.{int_eq}
use Rattle.std.specs.Str.Parse.{digits_value}
use Rattle.std.specs.Result.{result_ok}
use Rattle.std.proofs.lemmas.Bool.{lt-ltb, eqb-true, ne_eqb}
use Rattle.std.proofs.lemmas.List.{nil_from_length}
use Rattle.std.proofs.lemmas.Bool.Decides.{Decides-int_eq}
use Rattle.std.proofs.lemmas.Fmt.{digits_decimal, digits_value-decimal, decimal_is_IsNumeral}
use Rattle.serde_json.specs.Data.{Data, boolean, string, array, no_items}
use Rattle.serde_json.specs.Find.{as_bool, as_array}
use Rattle.serde_json.specs.View.{items_of}
use Rattle.base64.specs.Engines.{standard}
use Rattle.base64.specs.GeneralPurpose.{IsBytes, encode_of}
use Rattle.base64.proofs.EngineFacts.{decode_of-encode_of}
use Rattle.ev_fields.specs.declared.field.Field.{Field}
use Rattle.ev_fields.specs.declared.field.Field.TheVariants as fields
use Rattle.ev_fields.specs.Members.{object_of, given, number, number_if, bytes, bytes_if, true_if, text, list_if}
use Rattle.ev_fields.specs.Kinds.{member_of, digits64, number_of, count_of, lease_of, from_one, bytes_of, some_byte, known, known_or, count_in, lease_in, flag_in, bytes_in, needed_bytes, needed_count, positive_count, positive_lease, key_in, message_in, is_object, items_in, each, list_in}
use Rattle.ev_fields.specs.Ranges.{IsCount, IsLease, IsPositiveCount, IsPositiveLease, IsKey}
use Rattle.ev_fields.proofs.Digits.{own, all_digits, digits64-some}
use Rattle.ev_fields.proofs.Rising.{piece, Plain, PlainIf, plain-string, plain-boolean, plain-array}

-- ---- what a member is written as

abbrev pub in_digits : ℤ → Data
in_digits n = string (signed_decimal n)

abbrev pub coded : List ℕ → Data
coded bs = string (encode_of standard bs)

abbrev pub unless_zero : ℤ → Option Data
unless_zero n = cond (int_eq n (pos 0)) None (Some (in_digits n))

abbrev pub unless_empty : List ℕ → Option Data
unless_empty bs = cond (length bs == 0) None (Some (coded bs))

abbrev pub if_true : Bool → Option Data
if_true b = cond b (Some (boolean b)) None

abbrev pub if_some : List Data → Option Data
if_some [] = None
if_some (d ∷ ds) = Some (array (items_of (d ∷ ds)))

left_out : (f : Field) (b : Bool) (d : Data) → cond b [] (given f d) ≡ piece f (cond b None (Some d))
unfolding given
left_out f true d = refl
left_out f false d = refl

pub given-piece : (f : Field) (d : Data) → given f d ≡ piece f (Some d)
unfolding given
given-piece f d = refl

pub number-piece : (f : Field) (n : ℤ) → number f n ≡ piece f (Some (in_digits n))
unfolding number given
number-piece f n = refl

pub number_if-piece : (f : Field) (n : ℤ) → number_if f n ≡ piece f (unless_zero n)
unfolding number_if number
number_if-piece f n = left_out f (int_eq n (pos 0)) (in_digits n)

pub bytes-piece : (f : Field) (bs : List ℕ) → bytes f bs ≡ piece f (Some (coded bs))
unfolding bytes given
bytes-piece f bs = refl

pub bytes_if-piece : (f : Field) (bs : List ℕ) → bytes_if f bs ≡ piece f (unless_empty bs)
unfolding bytes_if bytes
bytes_if-piece f bs = left_out f (length bs == 0) (coded bs)

pub true_if-piece : (f : Field) (b : Bool) → true_if f b ≡ piece f (if_true b)
unfolding true_if given
true_if-piece f true = refl
true_if-piece f false = refl

pub text-piece : (f : Field) (s : List ℕ) → text f s ≡ piece f (Some (string s))
unfolding text given
text-piece f s = refl

pub list_if-piece : (f : Field) (ds : List Data) → list_if f ds ≡ piece f (if_some ds)
unfolding list_if given
list_if-piece f [] = refl
list_if-piece f (d ∷ ds) = refl

-- one member more on either side
pub more : {a b c d : List (List ℕ × Data)} → a ≡ b → c ≡ d → a ++ c ≡ b ++ d
more e f = ap₂ (λ (x y : List (List ℕ × Data)). x ++ y) e f

-- ---- numbers

digits64-decimal : (k : ℕ) → k < 2 ^ 64 → digits64 (decimal k) ≡ Some k
digits64-decimal k lt =
    let some : 0 < length (decimal k) = (decimal_is_IsNumeral k lt).0.0 in
    let all : list_all is_ascii_digit (decimal k) ≡ true = sym (all_digits (decimal k)) ∙ digits_decimal own k lt in
    let value : digits_value 10 (decimal k) ≡ k = digits_value-decimal own k lt in
    digits64-some (decimal k) some all ∙ rw (value, lt-ltb k (2 ^ 64) lt) refl

number_of-digits : (top k : ℕ) → k < top → k < 2 ^ 64 → number_of top (string (decimal k)) ≡ Some (pos k)
unfolding number_of
number_of-digits top k lt small = rw (digits64-decimal k small, lt-ltb k top lt) refl

pub count_back : (n : ℤ) → IsCount n → count_of (in_digits n) ≡ Some n
unfolding count_of
count_back n h = rw h.1 (number_of-digits (2 ^ 62) h.0 h.2 (omega (arith, h.2)))

pub lease_back : (n : ℤ) → IsLease n → lease_of (in_digits n) ≡ Some n
unfolding lease_of
lease_back n h = rw h.1 (number_of-digits (2 ^ 63) h.0 h.2 (omega (arith, h.2)))

or_default : {A : Type 0} (f : Field) (default x : A) (kind : Data → Option A) (b : Bool) (v : Data) → (b ≡ true → x ≡ default) → kind v ≡ Some x → known_or f default kind (cond b None (Some v)) ≡ Ok x
or_default f default x kind true v h e = ap (λ y. Ok y) (sym (h refl))
or_default f default x kind false v h e = ap (known f) e

pub count_in-back : (f : Field) (d : Data) (n : ℤ) → member_of f d ≡ unless_zero n → IsCount n → count_in f d ≡ Ok n
unfolding count_in
count_in-back f d n e h = ap (known_or f (pos 0) count_of) e ∙ or_default f (pos 0) n count_of (int_eq n (pos 0)) (in_digits n) (Decides-int_eq n (pos 0)).0 (count_back n h)

pub lease_in-back : (f : Field) (d : Data) (n : ℤ) → member_of f d ≡ unless_zero n → IsLease n → lease_in f d ≡ Ok n
unfolding lease_in
lease_in-back f d n e h = ap (known_or f (pos 0) lease_of) e ∙ or_default f (pos 0) n lease_of (int_eq n (pos 0)) (in_digits n) (Decides-int_eq n (pos 0)).0 (lease_back n h)

-- a number that is always written
pub count_in-written : (f : Field) (d : Data) (n : ℤ) → member_of f d ≡ Some (in_digits n) → IsCount n → count_in f d ≡ Ok n
unfolding count_in
count_in-written f d n e h = ap (known_or f (pos 0) count_of) e ∙ ap (known f) (count_back n h)

pub lease_in-written : (f : Field) (d : Data) (n : ℤ) → member_of f d ≡ Some (in_digits n) → IsLease n → lease_in f d ≡ Ok n
unfolding lease_in
lease_in-written f d n e h = ap (known_or f (pos 0) lease_of) e ∙ ap (known f) (lease_back n h)

pub needed_count-back : (f : Field) (d : Data) (n : ℤ) → member_of f d ≡ Some (in_digits n) → IsCount n → needed_count f d ≡ Ok n
unfolding needed_count
needed_count-back f d n e h = rw (e, count_back n h) refl

from_one-pos : (k : ℕ) → 0 < k → from_one (Some (pos k)) ≡ Some (pos k)
from_one-pos k lt = rw (lt-ltb 0 k lt) refl

pub positive_count-back : (f : Field) (d : Data) (n : ℤ) → member_of f d ≡ Some (in_digits n) → IsPositiveCount n → positive_count f d ≡ Ok n
unfolding positive_count
positive_count-back f d n e h = rw (e, count_back n (h.0, h.1, h.3)) (rw h.1 (ap (known f) (from_one-pos h.0 h.2)))

pub positive_lease-back : (f : Field) (d : Data) (n : ℤ) → member_of f d ≡ Some (in_digits n) → IsPositiveLease n → positive_lease f d ≡ Ok n
unfolding positive_lease
positive_lease-back f d n e h = rw (e, lease_back n (h.0, h.1, h.3)) (rw h.1 (ap (known f) (from_one-pos h.0 h.2)))

-- ---- bytes, flags and lists

pub bytes_back : (bs : List ℕ) → IsBytes bs → bytes_of (coded bs) ≡ Some bs
unfolding bytes_of
bytes_back bs h = ap result_ok (decode_of-encode_of standard bs refl h)

pub bytes_in-back : (f : Field) (d : Data) (bs : List ℕ) → member_of f d ≡ unless_empty bs → IsBytes bs → bytes_in f d ≡ Ok bs
unfolding bytes_in
bytes_in-back f d bs e h = ap (known_or f [] bytes_of) e ∙ or_default f [] bs bytes_of (length bs == 0) (coded bs) (λ none. nil_from_length bs (eqb-true _ _ none)) (bytes_back bs h)

pub bytes_in-written : (f : Field) (d : Data) (bs : List ℕ) → member_of f d ≡ Some (coded bs) → IsBytes bs → bytes_in f d ≡ Ok bs
unfolding bytes_in
bytes_in-written f d bs e h = ap (known_or f [] bytes_of) e ∙ ap (known f) (bytes_back bs h)

pub needed_bytes-back : (f : Field) (d : Data) (bs : List ℕ) → member_of f d ≡ Some (coded bs) → IsBytes bs → needed_bytes f d ≡ Ok bs
unfolding needed_bytes
needed_bytes-back f d bs e h = rw (e, bytes_back bs h) refl

some_byte-some : (bs : List ℕ) → 0 < length bs → some_byte (Some bs) ≡ Some bs
some_byte-some [] lt = absurd (omega (arith, lt))
some_byte-some (b ∷ bs) lt = rw (ne_eqb (suc (length bs)) 0 (λ e. cc)) refl

pub key_in-back : (d : Data) (bs : List ℕ) → member_of fields.Key d ≡ Some (coded bs) → IsKey bs → key_in d ≡ Ok bs
unfolding key_in
key_in-back d bs e h = rw (e, bytes_back bs h.0) (ap (known fields.Key) (some_byte-some bs h.1))

pub flag_in-back : (f : Field) (d : Data) (b : Bool) → member_of f d ≡ if_true b → flag_in f d ≡ Ok b
unfolding flag_in
flag_in-back f d true e = ap (known_or f false as_bool) e
flag_in-back f d false e = ap (known_or f false as_bool) e

pub message_in-back : (f : Field) (d v : Data) → member_of f d ≡ Some v → is_object v ≡ true → message_in f d ≡ Ok v
unfolding message_in
message_in-back f d v e h = rw (e, h) refl

pub object_of-is_object : (fs : List (List ℕ × Data)) → is_object (object_of fs) ≡ true
unfolding object_of
object_of-is_object fs = refl

pub items_in-back : (f : Field) (d : Data) (ds : List Data) → member_of f d ≡ if_some ds → items_in f d ≡ Ok (items_of ds)
unfolding items_in
items_in-back f d [] e = ap (known_or f no_items as_array) e
items_in-back f d (v ∷ vs) e = ap (known_or f no_items as_array) e

pub each-back : {A : Type 0} (Fits : A → Type 0) (shape : A → Data) (reading : Data → Result A Field) → ((x : A) → Fits x → reading (shape x) ≡ Ok x)
    → (xs : List A) → AllByRecursion Fits xs → each reading (items_of (map shape xs)) ≡ Ok xs
unfolding each
each-back Fits shape reading back [] h = refl
each-back Fits shape reading back (x ∷ xs) h = rw (back x h.0, each-back Fits shape reading back xs h.1) refl

pub list_in-back : {A : Type 0} (Fits : A → Type 0) (shape : A → Data) (reading : Data → Result A Field) → ((x : A) → Fits x → reading (shape x) ≡ Ok x)
    → (f : Field) (d : Data) (xs : List A) → member_of f d ≡ if_some (map shape xs) → AllByRecursion Fits xs → list_in reading f d ≡ Ok xs
unfolding list_in
list_in-back Fits shape reading back f d xs e h = rw (items_in-back f d (map shape xs) e) (each-back Fits shape reading back xs h)

-- ---- members that are plain

plain_cond : (n : ℕ) (b : Bool) (d : Data) → Plain n d → PlainIf n (cond b None (Some d))
plain_cond n true d h = tt
plain_cond n false d h = h

pub plain-digits : (n : ℕ) (z : ℤ) → PlainIf n (unless_zero z)
plain-digits n z = plain_cond n (int_eq z (pos 0)) (in_digits z) (plain-string n (signed_decimal z))

pub plain-coded : (n : ℕ) (bs : List ℕ) → PlainIf n (unless_empty bs)
plain-coded n bs = plain_cond n (length bs == 0) (coded bs) (plain-string n (encode_of standard bs))

pub plain-flag : (n : ℕ) (b : Bool) → PlainIf n (if_true b)
plain-flag n true = plain-boolean n true
plain-flag n false = tt

pub plain-list : {A : Type 0} (n : ℕ) (shape : A → Data) → ((x : A) → Plain n (shape x)) → (xs : List A) → PlainIf (suc n) (if_some (map shape xs))
plain-list n shape h [] = tt
plain-list n shape h (x ∷ xs) = plain-array n shape h (x ∷ xs)
