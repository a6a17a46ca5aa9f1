-- The path of a sequence node is valid where the prefix with `1` added is.
use Rattle.std.proofs.Common.{◌≡◌, ℕ, zero, suc, ◌+◌, ◌-◌, ◌/◌, ◌%◌, ◌<◌, ◌≤◌, Bool, true, false, cond, List, [], ◌∷◌, ◌++◌, length, refl, sym, ap, ◌∙◌, ◌⊎◌, inl, inr, ⊎_elim, ◌==◌, drop, arith, length-append, append_assoc}
use Rattle.std.specs.Prelude.{nat_le, ⊤}
use Rattle.std.specs.List.{list_all}
use Rattle.std.specs.Str.{chars, IsAscii}
use Rattle.std.proofs.lemmas.Bool.{and_parts, and_from, and_right, leb-true, not_from_false, ne_eqb}
use Rattle.std.proofs.lemmas.Bool.Decides.{nat_tests}
use Rattle.std.proofs.lemmas.List.Folds.{list_all-append}
use Rattle.std.proofs.lemmas.Str.{IsUtf8-append, IsUtf8-from_ascii, chars-append, chars-IsAscii}
use Rattle.std.proofs.lemmas.Str.Ascii.{IsAscii-cons, IsAscii-nil}
use Rattle.zx_base.specs.Maps.{Bytes, same}
use Rattle.zk_model.specs.Paths.{slash, dot, root, pieces, onto_first, is_path, is_path_char, is_name, begins_with_slash, with_one, is_sequence_prefix, sequence_path, fixed_digits}
use Rattle.zk_model.specs.PathFaults.{first_name}
use Rattle.zk_model.proofs.PathScans.{later_names, later_onto, pieces-cons}
use Rattle.zk_model.proofs.ValidPaths.{Valid, valid-from, valid-is_path, front-is_text, named-later, later-named}
use Rattle.zk_model.specs.Limits.{max_path, max_sequence_prefix}

-- ---- digits

abbrev pub Digits : Bytes → Type 0
Digits [] = ⊤
Digits (d ∷ ds) = (48 ≤ d) × (d < 58) × Digits ds

digits-append : (xs ys : Bytes) → Digits xs → Digits ys → Digits (xs ++ ys)
digits-append [] ys hx hy = hy
digits-append (x ∷ xs) ys hx hy = (hx.0, hx.1, digits-append xs ys hx.2 hy)

last_digit : (n : ℕ) → Digits ((48 + n % 10) ∷ [])
last_digit n = (omega arith, omega arith, tt)

pub fixed-digits : (k n : ℕ) → Digits (fixed_digits k n)
fixed-digits zero n = tt
fixed-digits (suc k) n = digits-append (fixed_digits k (n / 10)) _ (fixed-digits k (n / 10)) (last_digit n)

pub length-fixed : (k n : ℕ) → length (fixed_digits k n) ≡ k
length-fixed zero n = refl
length-fixed (suc k) n = omega (arith, length-append (fixed_digits k (n / 10)) ((48 + n % 10) ∷ []), length-fixed k (n / 10))

-- the last digit, and the digits before it
pub fixed_digits-more : (before : Bytes) (count n : ℕ) → (count ≡ 0 → ⊥) → (before ++ fixed_digits (count - 1) (n / 10)) ++ (48 + n % 10) ∷ [] ≡ before ++ fixed_digits count n
fixed_digits-more before zero n h = absurd (h refl)
fixed_digits-more before (suc k) n h =
    let fewer : suc k - 1 ≡ k = omega arith in
    rw fewer (append_assoc before (fixed_digits k (n / 10)) ((48 + n % 10) ∷ []))

digits-ascii : (ds : Bytes) → Digits ds → IsAscii ds
digits-ascii [] h = IsAscii-nil
digits-ascii (d ∷ ds) h = IsAscii-cons d ds (omega (arith, h.1)) (digits-ascii ds h.2)

digit-allowed : (d : ℕ) → 48 ≤ d → d < 58 → is_path_char d ≡ true
digit-allowed d low high = grind (arith, nat_tests)

digits-allowed : (ds : Bytes) → Digits ds → list_all is_path_char ds ≡ true
digits-allowed [] h = refl
digits-allowed (d ∷ ds) h = and_from _ _ (digit-allowed d h.0 h.1) (digits-allowed ds h.2)

no_slash : (d : ℕ) → 48 ≤ d → (d == slash) ≡ false
no_slash d low = ne_eqb d slash (λ e. absurd (omega arith))

digits-first : (ds : Bytes) → Digits ds → first_name ds ≡ ds
unfolding first_name
digits-first [] h = refl
digits-first (d ∷ ds) h = ap (λ t. cond t [] (d ∷ first_name ds)) (no_slash d h.0) ∙ ap (λ (x : Bytes). d ∷ x) (digits-first ds h.2)

digits-later : (ds : Bytes) → Digits ds → later_names ds ≡ []
digits-later [] h = refl
digits-later (d ∷ ds) h = ap (λ t. drop 1 (cond t ([] ∷ pieces ds) (onto_first d (pieces ds)))) (no_slash d h.0) ∙ later_onto d (pieces ds) ∙ digits-later ds h.2

-- ---- the last name

long_name : (name : Bytes) → 2 < length name → is_name name ≡ true
long_name [] h = absurd (omega arith)
long_name (a ∷ []) h = absurd (omega arith)
long_name (a ∷ b ∷ []) h = absurd (omega arith)
long_name (a ∷ b ∷ c ∷ more) h =
    and_from _ _ (not_from_false _ (and_right (a == dot) _ refl)) (not_from_false _ (and_right (a == dot) _ (and_right (b == dot) _ refl)))

abbrev FirstEither : Bytes → Bytes → Bytes → Type 0
FirstEither bs ds es = (first_name (bs ++ ds) ≡ first_name (bs ++ es)) ⊎ (first_name (bs ++ ds) ≡ bs ++ ds)

either_cons : (b : ℕ) (bs ds es : Bytes) (is_slash : Bool) → FirstEither bs ds es
    → (cond is_slash [] (b ∷ first_name (bs ++ ds)) ≡ cond is_slash [] (b ∷ first_name (bs ++ es))) ⊎ (cond is_slash [] (b ∷ first_name (bs ++ ds)) ≡ b ∷ bs ++ ds)
either_cons b bs ds es true h = inl refl
either_cons b bs ds es false h = ⊎_elim (λ e. inl (ap (λ (x : Bytes). b ∷ x) e)) (λ e. inr (ap (λ (x : Bytes). b ∷ x) e)) h

first_either : (bs ds es : Bytes) → Digits ds → FirstEither bs ds es
unfolding first_name
first_either [] ds es h = inr (digits-first ds h)
first_either (b ∷ bs) ds es h = either_cons b bs ds es (b == slash) (first_either bs ds es h)

first_named : (bs ds es : Bytes) → Digits ds → 2 < length ds → is_name (first_name (bs ++ es)) ≡ true → is_name (first_name (bs ++ ds)) ≡ true
first_named bs ds es h long named =
    ⊎_elim (λ e. ap is_name e ∙ named) (λ e. ap is_name e ∙ long_name (bs ++ ds) (omega (arith, length-append bs ds))) (first_either bs ds es h)

named_cons : (b : ℕ) (bs ds es : Bytes) (is_slash : Bool) → Digits ds → 2 < length ds
    → (list_all is_name (later_names (bs ++ es)) ≡ true → list_all is_name (later_names (bs ++ ds)) ≡ true)
    → list_all is_name (drop 1 (cond {A = List Bytes} is_slash ([] ∷ pieces (bs ++ es)) (onto_first b (pieces (bs ++ es))))) ≡ true
    → list_all is_name (drop 1 (cond {A = List Bytes} is_slash ([] ∷ pieces (bs ++ ds)) (onto_first b (pieces (bs ++ ds))))) ≡ true
named_cons b bs ds es true h long later named =
    let both = and_parts (is_name (first_name (bs ++ es))) _ (sym (ap (list_all is_name) (pieces-cons (bs ++ es))) ∙ named) in
    ap (list_all is_name) (pieces-cons (bs ++ ds)) ∙ and_from _ _ (first_named bs ds es h long both.0) (later both.1)
named_cons b bs ds es false h long later named =
    ap (list_all is_name) (later_onto b (pieces (bs ++ ds))) ∙ later (sym (ap (list_all is_name) (later_onto b (pieces (bs ++ es)))) ∙ named)

later_named : (bs ds es : Bytes) → Digits ds → 2 < length ds → list_all is_name (later_names (bs ++ es)) ≡ true → list_all is_name (later_names (bs ++ ds)) ≡ true
later_named [] ds es h long named = ap (list_all is_name) (digits-later ds h)
later_named (b ∷ bs) ds es h long named = named_cons b bs ds es (b == slash) h long (later_named bs ds es h long) named

-- ---- the path

begins-any : (bs ds : Bytes) → begins_with_slash (with_one bs) ≡ true → begins_with_slash (bs ++ ds) ≡ true
begins-any [] ds h = cc
begins-any (b ∷ bs) ds h = h

prefix-length : (bs : Bytes) → begins_with_slash (with_one bs) ≡ true → 0 < length bs
prefix-length [] h = cc
prefix-length (b ∷ bs) h = omega arith

digits-valid : (bs ds : Bytes) → Valid (with_one bs) → Digits ds → 2 < length ds → length (bs ++ ds) ≤ max_path → Valid (bs ++ ds)
digits-valid bs ds v h long short =
    let is_text = front-is_text bs 49 [] (omega arith) v.is_text in
    let ascii = digits-ascii ds h in
    let begun = prefix-length bs v.begins in
    let one = ap (list_all is_path_char) (chars-append bs (49 ∷ []) is_text) ∙ list_all-append is_path_char (chars bs) (chars (49 ∷ [])) in
    let named = named-later (with_one bs) (omega (arith, length-append bs (49 ∷ []))) v.named in
    record {
      short = short;
      begins = begins-any bs ds v.begins;
      is_text = IsUtf8-append bs ds is_text (IsUtf8-from_ascii ds ascii);
      allowed = ap (list_all is_path_char) (chars-append bs ds is_text) ∙ list_all-append is_path_char (chars bs) (chars ds)
          ∙ and_from _ _ (and_parts _ _ (sym one ∙ v.allowed)).0 (ap (list_all is_path_char) (chars-IsAscii ds ascii) ∙ digits-allowed ds h);
      named = later-named (bs ++ ds) (same (bs ++ ds) root) (later_named bs ds (49 ∷ []) h long named);
    }

pub sequence-valid : (prefix : Bytes) (n : ℕ) → is_sequence_prefix prefix ≡ true → is_path (sequence_path prefix n) ≡ true
sequence-valid prefix n h =
    let both = and_parts (nat_le (length prefix) max_sequence_prefix) _ h in
    let few : length prefix ≤ max_sequence_prefix = leb-true _ _ both.0 in
    let ten = length-fixed 10 n in
    valid-is_path _ (digits-valid prefix (fixed_digits 10 n) (valid-from _ both.1) (fixed-digits 10 n) (omega (arith, ten)) (omega (arith, ten, length-append prefix (fixed_digits 10 n))))
