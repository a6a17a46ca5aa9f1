-- What a text in base64 decodes to is bytes: each is below 256.
use Rattle.std.proofs.Common.{◌≡◌, ◌⊎◌, inl, inr, ℕ, zero, suc, ◌+◌, ◌*◌, ◌==◌, ◌<◌, nat_lt, Bool, true, false, List, [], ◌∷◌, ◌++◌, length, take, drop, slice_index, slice_set, refl, sym, subst, arith}
use Rattle.std.specs.Prelude.{Option, Some, None, Result, Ok, Err, if◌then◌else◌}
use Rattle.std.proofs.lemmas.Bool.{cases_lt, cases_eq}
use Rattle.std.proofs.lemmas.List.{get_or-set_same, get_or-set_other, set_past, get_or_past, take-append-drop}
use Rattle.base64.specs.Decode.{decode_group, or_else, symbol_error, group_error, group_bytes, groups_error, groups_bytes, groups_before_last, push_leftover, scan_steps, scan_bytes, scan_last, no_leftover, lone_error, suffix_bytes, decode_outcome}
use Rattle.base64.specs.Engines.{standard}
use Rattle.base64.specs.GeneralPurpose.{IsBytes, decode_of, decoded_bytes_of}
use Rattle.base64.specs.declared.decode.DecodeError.{DecodeError}
use Rattle.base64.proofs.EngineFacts.{front_bytes}
use Rattle.base64.proofs.Tables.{IsDecodeTable_from}

-- ---- lists of bytes

bytes_append : (a b : List ℕ) → IsBytes a → IsBytes b → IsBytes (a ++ b)
bytes_append [] b here there i = there i
bytes_append (x ∷ a) b here there zero = here 0
bytes_append (x ∷ a) b here there (suc i) = bytes_append a b (λ k. here (suc k)) there i

bytes_of_three : (x y z : ℕ) → x < 256 → y < 256 → z < 256 → IsBytes (x ∷ y ∷ z ∷ [])
bytes_of_three x y z a b c zero = a
bytes_of_three x y z a b c (suc zero) = b
bytes_of_three x y z a b c (suc (suc zero)) = c
bytes_of_three x y z a b c (suc (suc (suc i))) = omega arith

bytes_front : (n : ℕ) (a : List ℕ) → IsBytes a → IsBytes (take n a)
bytes_front n a h = front_bytes (take n a) (drop n a) (subst IsBytes (sym (take-append-drop n a)) h)

-- the values of four symbols as three bytes
group : (a b c d : ℕ) → a < 64 → b < 64 → c < 64 → d < 64 → IsBytes (decode_group a b c d)
group a b c d la lb lc ld = bytes_of_three _ _ _ (omega arith) (omega arith) (omega arith)

-- ---- whole groups

-- each place of the table has a symbol's value, or 255
abbrev AreSymbols : List ℕ → Type 0
AreSymbols dec = (x : ℕ) → (slice_index dec x ≡ 255) ⊎ (slice_index dec x < 64)

standard_symbols : AreSymbols standard.decode_table
standard_symbols x = elim (cases_lt x 256) [
  | inl lt ↦ IsDecodeTable_from standard.encode_table standard.decode_table refl x lt
  | inr past ↦ inr (rw (get_or_past standard.decode_table x 0 past) (omega arith))
]

neither : (a b : Option DecodeError) → or_else a b ≡ None → (a ≡ None) × (b ≡ None)
neither None b e = (refl, e)
neither (Some x) b e = absurd cc

symbol : (dec s : List ℕ) (i : ℕ) → AreSymbols dec → symbol_error dec s i ≡ None → slice_index dec (slice_index s i) < 64
symbol dec s i all e = elim (all (slice_index s i)) [
  | inl bad ↦ absurd (cc (rw bad at e))
  | inr good ↦ good
]

one_group : (dec s : List ℕ) (i : ℕ) → AreSymbols dec → group_error dec s i ≡ None → IsBytes (group_bytes dec s i)
one_group dec s i all e =
    let first = neither (symbol_error dec s i) _ e in
    let second = neither (symbol_error dec s (i + 1)) _ first.1 in
    let third = neither (symbol_error dec s (i + 2)) _ second.1 in
    group _ _ _ _ (symbol dec s i all first.0) (symbol dec s (i + 1) all second.0) (symbol dec s (i + 2) all third.0) (symbol dec s (i + 3) all third.1)

groups : (dec s : List ℕ) (q : ℕ) → AreSymbols dec → groups_error dec s q ≡ None → IsBytes (groups_bytes dec s q)
unfolding groups_error groups_bytes
groups dec s zero all e = λ i. omega arith
groups dec s (suc q) all e =
    let both = neither (groups_error dec s q) (group_error dec s (4 * q)) e in
    bytes_append (groups_bytes dec s q) (group_bytes dec s (4 * q)) (groups dec s q all both.0) (one_group dec s (4 * q) all both.1)

-- ---- the last group

abbrev AreValues : List ℕ → Type 0
AreValues morsels = (k : ℕ) → slice_index morsels k < 64

abbrev TypeOf : {L : Type 0} → L → Type 0
TypeOf {L = l} x = l

-- what the scan of the last group keeps; base64 doesn't pass the type's name on
abbrev Leftover : Type 0
Leftover = TypeOf no_leftover

abbrev Values : Result Leftover DecodeError → Type 0
Values (Ok st) = AreValues st.morsels
Values (Err e) = Unit {0}

-- a write of a value below 64 keeps every value below 64
values_set : (xs : List ℕ) (i v : ℕ) → AreValues xs → v < 64 → AreValues (slice_set xs i v)
values_set xs i v all small k = elim (cases_eq k i) [
  | inl same ↦ elim (cases_lt i (length xs)) [
    | inl fits ↦ rw (same, get_or-set_same xs i v 0 fits) small
    | inr past ↦ rw (set_past xs i v past) (all k)
  ]
  | inr other ↦ rw (get_or-set_other xs i k v 0 other) (all k)
]

if_values : (b : Bool) (x y : Result Leftover DecodeError) → (b ≡ true → Values x) → (b ≡ false → Values y) → Values (if b then x else y)
if_values true x y if_true if_false = if_true refl
if_values false x y if_true if_false = if_false refl

pushed : (dec : List ℕ) (pad at : ℕ) (st : Leftover) (i b : ℕ) → AreSymbols dec → AreValues st.morsels → Values (push_leftover dec pad at st i b)
pushed dec pad at st i b all held =
    if_values (b == pad) _ _ (λ p. if_values (nat_lt i 2) _ _ (λ l. tt) (λ l. held))
    (λ p. if_values (nat_lt 0 st.padding_count) _ _ (λ a. tt)
    (λ a. if_values (slice_index dec b == 255) _ _ (λ v. tt)
    (λ v. values_set st.morsels st.morsels_count (slice_index dec b) held (elim (all b) [ inl bad ↦ absurd (cc (rw bad at v)) | inr good ↦ good ]))))

scanned : (dec : List ℕ) (pad at : ℕ) (r : Result Leftover DecodeError) (i : ℕ) (bs : List ℕ) → AreSymbols dec → Values r → Values (scan_steps dec pad at r i bs)
unfolding scan_steps
scanned dec pad at (Err e) i bs all h = tt
scanned dec pad at (Ok st) i [] all h = h
scanned dec pad at (Ok st) i (b ∷ bs) all h = scanned dec pad at (push_leftover dec pad at st i b) (i + 1) bs all (pushed dec pad at st i b all h)

four_zeros : AreValues (0 ∷ 0 ∷ 0 ∷ 0 ∷ [])
four_zeros zero = omega arith
four_zeros (suc zero) = omega arith
four_zeros (suc (suc zero)) = omega arith
four_zeros (suc (suc (suc zero))) = omega arith
four_zeros (suc (suc (suc (suc k)))) = omega arith

last_bytes : (r : Result Leftover DecodeError) → Values r → IsBytes (scan_bytes r)
last_bytes (Err e) h = λ i. omega arith
last_bytes (Ok st) h = bytes_front _ _ (group _ _ _ _ (h 0) (h 1) (h 2) (h 3))

suffix : (dec s : List ℕ) (pad at : ℕ) → AreSymbols dec → IsBytes (suffix_bytes dec pad at s)
suffix dec s pad at all = last_bytes (scan_last dec pad at s) (scanned dec pad at (Ok no_leftover) 0 (drop at s) all four_zeros)

-- ---- all of it

outcome : (e : Option DecodeError) (bytes b : List ℕ) → decode_outcome e bytes ≡ Ok b → (e ≡ None) × (bytes ≡ b)
outcome None bytes b h = (refl, cc)
outcome (Some e) bytes b h = absurd cc

pub decoded_is_bytes : (s b : List ℕ) → decode_of standard s ≡ Ok b → IsBytes b
decoded_is_bytes s b e =
    let got = outcome _ (decoded_bytes_of standard s) b e in
    let rest = neither (lone_error standard.decode_table 61 s) _ got.0 in
    let whole = neither (groups_error standard.decode_table s (groups_before_last (length s))) _ rest.1 in
    subst IsBytes got.1 (bytes_append _ _ (groups standard.decode_table s (groups_before_last (length s)) standard_symbols whole.0) (suffix standard.decode_table s 61 (4 * groups_before_last (length s)) standard_symbols))
