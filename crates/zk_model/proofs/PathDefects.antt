-- What the first defect of a text says of it, and that a text with none is a path.
use Rattle.std.proofs.Common.{◌≡◌, ℕ, ◌+◌, ◌-◌, ◌<◌, ◌≤◌, zero, suc, Bool, true, false, cond, ◌&&◌, ◌||◌, not, Option, Some, None, List, [], ◌∷◌, length, refl, sym, ap, ◌∙◌, subst, ◌⊎◌, inl, inr, ⊎_elim, ◌==◌, drop, take, get_or, arith, length-append}
use Rattle.std.specs.Prelude.{nat_lt, nat_le}
use Rattle.std.specs.Char.{len_utf8}
use Rattle.std.specs.Option.{option_or}
use Rattle.std.specs.List.{list_all, list_any}
use Rattle.std.specs.Str.{is_utf8, chars, IsUtf8}
use Rattle.std.specs.Str.Lossy.{utf8_valid_len, valid_len_up_to}
use Rattle.std.proofs.lemmas.Bool.{and_parts, and_from, and_left, and_right, or_left, or_right, or_from, not_from_false, eq-eqb, both_ways, not-true, not-false, ltb-true, ltb-false, lt-leb, le-leb, le-ltb, eqb-true, false_from_ne_true}
use Rattle.std.proofs.lemmas.Str.{IsUtf8-from_is_utf8, is_utf8-from_IsUtf8, utf8_valid_len-IsUtf8}
use Rattle.std.proofs.lemmas.List.{take_all}
use Rattle.zx_base.specs.Maps.{Bytes, same}
use Rattle.zk_model.specs.declared.path.Defect.{Defect}
use Rattle.zk_model.specs.declared.path.PathFault.{PathFault}
use Rattle.zk_model.specs.declared.path.PathFault.TheVariants.{NoSlash, EndSlash, EmptyName, DotName, BadText, TooLong, Memory}
use Rattle.zk_model.specs.Paths.{slash, dot, is_path, is_path_char, is_name, names, pieces, onto_first, begins_with_slash, with_one}
use Rattle.zk_model.specs.PathFaults.{first_name, tested, is_valid, max_bytes, ends_with_slash, is_filled, is_dots, is_text, IsFault, IsRefused, first_of, at, name_fault, placed, bad_name, bad_char, bad_text, form_defect, defect_of, IsFirst}
use Rattle.zk_model.proofs.PathScans.{later_names, pieces-cons, later_onto}
use Rattle.zk_model.proofs.ValidPaths.{Valid, valid-from, valid-is_path, named-later}
use Rattle.zk_model.specs.Limits.{max_path, max_sequence_prefix}

-- ---- the first of two

first_of-none : (a b : Option Defect) → first_of a b ≡ None → (a ≡ None) × (b ≡ None)
first_of-none None b e = (refl, e)
first_of-none (Some a) None e = cc
first_of-none (Some a) (Some b) e = absurd (elim (nat_lt b.place a.place) as (λ t. cond {A = Option Defect} t (Some b) (Some a) ≡ None → ⊥) [ true ↦ λ h. cc | false ↦ λ h. cc ] e)

first_of-some : (a b : Option Defect) (d : Defect) → first_of a b ≡ Some d → (a ≡ Some d) ⊎ (b ≡ Some d)
first_of-some None b d e = inr e
first_of-some (Some a) None d e = inl e
first_of-some (Some a) (Some b) d e = elim (nat_lt b.place a.place) as (λ t. cond {A = Option Defect} t (Some b) (Some a) ≡ Some d → (Some a ≡ Some d) ⊎ (Some b ≡ Some d)) [ true ↦ inr | false ↦ inl ] e

at-none : (t : Bool) (place : ℕ) (fault : PathFault) → at t place fault ≡ None → t ≡ false
at-none true place fault e = cc
at-none false place fault e = refl

at-some : (t : Bool) (place : ℕ) (fault : PathFault) (d : Defect) → at t place fault ≡ Some d → (t ≡ true) × (fault ≡ d.fault)
at-some true place fault d e = (refl, cc)
at-some false place fault d e = cc

or_none : (a b : Option Defect) → option_or a b ≡ None → (a ≡ None) × (b ≡ None)
or_none None b e = (refl, e)
or_none (Some a) b e = cc

or_some : (a b : Option Defect) (d : Defect) → option_or a b ≡ Some d → (a ≡ Some d) ⊎ (b ≡ Some d)
or_some None b d e = inr e
or_some (Some a) b d e = inl e

-- ---- names

neither : (x y : Bool) → (not x && not y) ≡ not (x || y)
neither true y = refl
neither false y = refl

name-filled : (name : Bytes) → is_name name ≡ (is_filled name && not (is_dots name))
name-filled [] = refl
name-filled (b ∷ bs) = neither (same (b ∷ bs) (dot ∷ [])) (same (b ∷ bs) (dot ∷ dot ∷ []))

abbrev fault_by : Bool → Bool → Option PathFault
fault_by filled dots = cond (not filled) (Some EmptyName) (cond dots (Some DotName) None)

fault-none : (place : ℕ) (filled dots : Bool) → placed place (fault_by filled dots) ≡ None → (filled ≡ true) × (dots ≡ false)
fault-none place true true e = cc
fault-none place true false e = (refl, refl)
fault-none place false dots e = cc

fault-some : (place : ℕ) (filled dots : Bool) (d : Defect) → placed place (fault_by filled dots) ≡ Some d
    → ((EmptyName ≡ d.fault) × (filled ≡ false)) ⊎ ((DotName ≡ d.fault) × (dots ≡ true))
fault-some place true true d e = inr (cc, refl)
fault-some place true false d e = cc
fault-some place false dots d e = inl (cc, refl)

bad_name-none : (place : ℕ) (xs : List Bytes) → bad_name place xs ≡ None → list_all is_name xs ≡ true
unfolding bad_name
bad_name-none place [] e = refl
bad_name-none place (name ∷ more) e =
    let both = or_none (placed place (name_fault name)) (bad_name (place + length name + 1) more) e in
    let here = fault-none place (is_filled name) (is_dots name) both.0 in
    and_from _ _ (name-filled name ∙ and_from _ _ here.0 (not_from_false _ here.1)) (bad_name-none (place + length name + 1) more both.1)

abbrev NameFault : List Bytes → Defect → Type 0
NameFault xs d = ((EmptyName ≡ d.fault) × (list_all is_filled xs ≡ false)) ⊎ ((DotName ≡ d.fault) × (list_any is_dots xs ≡ true))

bad_name-some : (place : ℕ) (xs : List Bytes) (d : Defect) → bad_name place xs ≡ Some d → NameFault xs d
unfolding bad_name
bad_name-some place [] d e = cc
bad_name-some place (name ∷ more) d e =
    ⊎_elim
    (λ h. ⊎_elim (λ x. inl (x.0, and_left (is_filled name) (list_all is_filled more) x.1)) (λ x. inr (x.0, or_left (is_dots name) (list_any is_dots more) x.1)) (fault-some place (is_filled name) (is_dots name) d h))
    (λ h. ⊎_elim (λ x. inl (x.0, and_right (is_filled name) _ x.1)) (λ x. inr (x.0, or_right (is_dots name) _ x.1)) (bad_name-some (place + length name + 1) more d h))
    (or_some (placed place (name_fault name)) (bad_name (place + length name + 1) more) d e)

all_filled : (xs : List Bytes) → list_all is_name xs ≡ true → list_all is_filled xs ≡ true
all_filled [] h = refl
all_filled (name ∷ more) h =
    let both = and_parts (is_name name) (list_all is_name more) h in
    and_from _ _ (and_parts (is_filled name) (not (is_dots name)) (sym (name-filled name) ∙ both.0)).0 (all_filled more both.1)

no_dots : (xs : List Bytes) → list_all is_name xs ≡ true → list_any is_dots xs ≡ false
no_dots [] h = refl
no_dots (name ∷ more) h =
    let both = and_parts (is_name name) (list_all is_name more) h in
    or_from _ _ (not-true _ (and_parts (is_filled name) (not (is_dots name)) (sym (name-filled name) ∙ both.0)).1) (no_dots more both.1)

-- a name that is empty stands after a last slash
after_cons : (b c : ℕ) (cs : Bytes) (is_slash : Bool) → list_all is_filled (later_names (c ∷ cs)) ≡ false
    → list_all is_filled (drop 1 (cond {A = List Bytes} is_slash ([] ∷ pieces (c ∷ cs)) (onto_first b (pieces (c ∷ cs))))) ≡ false
after_cons b c cs true e = ap (list_all is_filled) (pieces-cons (c ∷ cs)) ∙ and_right (is_filled (first_name (c ∷ cs))) _ e
after_cons b c cs false e = ap (list_all is_filled) (later_onto b (pieces (c ∷ cs))) ∙ e

after_slash : (bs : Bytes) (k : ℕ) → suc k ≡ length bs → get_or bs k 0 ≡ slash → list_all is_filled (later_names bs) ≡ false
after_slash [] k h last = absurd (omega arith)
after_slash (b ∷ []) zero h last = ap (λ t. list_all is_filled (drop 1 (cond {A = List Bytes} t ([] ∷ [] ∷ []) ((b ∷ []) ∷ [])))) (eq-eqb b slash last)
after_slash (b ∷ []) (suc k) h last = absurd (omega arith)
after_slash (b ∷ c ∷ cs) zero h last = absurd (omega arith)
after_slash (b ∷ c ∷ cs) (suc k) h last = after_cons b c cs (b == slash) (after_slash (c ∷ cs) k (omega arith) last)

-- ---- characters

char-none : (place c : ℕ) (allowed : Bool) (later : Option Defect) → cond allowed later (at true place BadText) ≡ None → (allowed ≡ true) × (later ≡ None)
char-none place c true later e = (refl, e)
char-none place c false later e = cc

char-some : (place c : ℕ) (allowed : Bool) (later : Option Defect) (d : Defect) → cond allowed later (at true place BadText) ≡ Some d
    → ((BadText ≡ d.fault) × (allowed ≡ false)) ⊎ (later ≡ Some d)
char-some place c true later d e = inr e
char-some place c false later d e = inl (cc, refl)

bad_char-none : (place : ℕ) (cs : List ℕ) → bad_char place cs ≡ None → list_all is_path_char cs ≡ true
unfolding bad_char
bad_char-none place [] e = refl
bad_char-none place (c ∷ cs) e =
    let both = char-none place c (is_path_char c) (bad_char (place + len_utf8 c) cs) e in
    and_from _ _ both.0 (bad_char-none (place + len_utf8 c) cs both.1)

bad_char-some : (place : ℕ) (cs : List ℕ) (d : Defect) → bad_char place cs ≡ Some d → (BadText ≡ d.fault) × (list_all is_path_char cs ≡ false)
unfolding bad_char
bad_char-some place [] d e = cc
bad_char-some place (c ∷ cs) d e =
    ⊎_elim (λ h. (h.0, and_left (is_path_char c) (list_all is_path_char cs) h.1))
    (λ h. let later = bad_char-some (place + len_utf8 c) cs d h in (later.0, and_right (is_path_char c) _ later.1))
    (char-some place c (is_path_char c) (bad_char (place + len_utf8 c) cs) d e)

front_step : (bs : Bytes) (n : ℕ) (t : Bool) → is_utf8 (take (suc n) bs) ≡ t → is_utf8 (take (valid_len_up_to bs n) bs) ≡ true
    → is_utf8 (take (cond t (suc n) (valid_len_up_to bs n)) bs) ≡ true
front_step bs n true e shorter = e
front_step bs n false e shorter = shorter

valid_front : (bs : Bytes) (n : ℕ) → is_utf8 (take (valid_len_up_to bs n) bs) ≡ true
unfolding is_utf8 chars
valid_front bs zero = refl
valid_front bs (suc n) = front_step bs n (is_utf8 (take (suc n) bs)) refl (valid_front bs n)

whole_front : (p : Bytes) → length p ≤ utf8_valid_len p → IsUtf8 p
unfolding utf8_valid_len
whole_front p h = IsUtf8-from_is_utf8 p (ap is_utf8 (sym (take_all (utf8_valid_len p) p h)) ∙ valid_front p (length p))

bad_text-none : (p : Bytes) → bad_text p ≡ None → IsUtf8 p × (list_all is_path_char (chars p) ≡ true)
bad_text-none p e =
    let both = or_none (bad_char 0 (chars (take (utf8_valid_len p) p))) (at (nat_lt (utf8_valid_len p) (length p)) (utf8_valid_len p) BadText) e in
    let whole : length p ≤ utf8_valid_len p = ltb-false _ _ (at-none _ _ _ both.1) in
    (whole_front p whole, ap (λ (x : Bytes). list_all is_path_char (chars x)) (sym (take_all (utf8_valid_len p) p whole)) ∙ bad_char-none 0 _ both.0)

bad_text-some : (p : Bytes) (d : Defect) → bad_text p ≡ Some d → (BadText ≡ d.fault) × (is_text p ≡ false)
bad_text-some p d e =
    ⊎_elim
    (λ h. let found = bad_char-some 0 _ d h in (
      found.0,
      false_from_ne_true _ (λ t.
          let both = and_parts (is_utf8 p) (list_all is_path_char (chars p)) t in
          let whole : length p ≤ utf8_valid_len p = omega (arith, utf8_valid_len-IsUtf8 p (IsUtf8-from_is_utf8 p both.0)) in
          both_ways _ found.1 (ap (λ (x : Bytes). list_all is_path_char (chars x)) (take_all (utf8_valid_len p) p whole) ∙ both.1)),
    ))
    (λ h. let found = at-some _ _ _ d h in (
      found.1,
      false_from_ne_true _ (λ t.
          let both = and_parts (is_utf8 p) (list_all is_path_char (chars p)) t in
          let before : utf8_valid_len p < length p = ltb-true _ _ found.0 in
          absurd (omega (arith, utf8_valid_len-IsUtf8 p (IsUtf8-from_is_utf8 p both.0)))),
    ))
    (or_some (bad_char 0 (chars (take (utf8_valid_len p) p))) (at (nat_lt (utf8_valid_len p) (length p)) (utf8_valid_len p) BadText) d e)

or-none : (a : Option Defect) → option_or a None ≡ a
or-none None = refl
or-none (Some a) = refl

pub bad_text-utf8 : (p : Bytes) → IsUtf8 p → bad_char 0 (chars p) ≡ bad_text p
bad_text-utf8 p h =
    let whole : length p ≤ utf8_valid_len p = omega (arith, utf8_valid_len-IsUtf8 p h) in
    let none : nat_lt (utf8_valid_len p) (length p) ≡ false = le-ltb _ _ whole in
    sym (ap (λ t. option_or (bad_char 0 (chars (take (utf8_valid_len p) p))) (at t (utf8_valid_len p) BadText)) none
    ∙ or-none _ ∙ ap (λ (x : Bytes). bad_char 0 (chars x)) (take_all (utf8_valid_len p) p whole))

-- ---- the whole text

-- the form of a path, apart from its length
pub record Formed (p : Bytes) : Type 0 where
  pub begins : begins_with_slash p ≡ true
  pub is_text : IsUtf8 p
  pub allowed : list_all is_path_char (chars p) ≡ true
  pub named : list_all is_name (names p) ≡ true

form_defect-none : (p : Bytes) → form_defect p ≡ None → Formed p
unfolding form_defect
form_defect-none p e =
    let slash = first_of-none (at (not (begins_with_slash p)) 0 NoSlash) _ e in
    let end = first_of-none (at (ends_with_slash p) (length p - 1) EndSlash) _ slash.1 in
    let name = first_of-none (bad_name 1 (names p)) (bad_text p) end.1 in
    let text = bad_text-none p name.1 in
    record {
      begins = not-false _ (at-none _ _ _ slash.0);
      is_text = text.0;
      allowed = text.1;
      named = bad_name-none 1 (names p) name.0;
    }

formed-valid : (p : Bytes) → Formed p → length p ≤ max_path → is_path p ≡ true
formed-valid p f short = valid-is_path p (record { short = short; begins = f.begins; is_text = f.is_text; allowed = f.allowed; named = f.named })

pub defect_of-none : (sequential : Bool) (text : Bytes) → defect_of sequential text ≡ None → is_valid sequential text ≡ true
unfolding defect_of
defect_of-none true text e =
    let both = first_of-none (form_defect (with_one text)) _ e in
    let short : length text ≤ max_sequence_prefix = ltb-false _ _ (at-none _ _ _ both.1) in
    and_from _ _ (le-leb _ _ short) (formed-valid (with_one text) (form_defect-none _ both.0) (omega (arith, length-append text (49 ∷ []))))
defect_of-none false text e =
    let both = first_of-none (form_defect text) _ e in
    formed-valid text (form_defect-none _ both.0) (ltb-false _ _ (at-none _ _ _ both.1))

pub valid-tested : (sequential : Bool) (text : Bytes) → is_valid sequential text ≡ true → is_path (tested sequential text) ≡ true
valid-tested true text h = (and_parts (nat_le (length text) max_sequence_prefix) _ h).1
valid-tested false text h = h

fault_as : {f : PathFault} (d : Defect) (sequential : Bool) (text : Bytes) → f ≡ d.fault → IsFault f sequential text → IsFault d.fault sequential text
fault_as d sequential text e h = subst (λ (f : PathFault). IsFault f sequential text) e h

form_defect-some : (sequential : Bool) (text : Bytes) (d : Defect) → form_defect (tested sequential text) ≡ Some d → IsFault d.fault sequential text
unfolding form_defect
form_defect-some sequential text d e =
    let p : Bytes = tested sequential text in
    ⊎_elim (λ h. let found = at-some _ _ _ d h in fault_as d sequential text found.1 (not-true _ found.0))
    (λ more. ⊎_elim (λ h. let found = at-some _ _ _ d h in fault_as d sequential text found.1 found.0)
    (λ more. ⊎_elim
    (λ h. ⊎_elim (λ found. fault_as d sequential text found.0 found.1) (λ found. fault_as d sequential text found.0 found.1) (bad_name-some 1 (names p) d h))
    (λ h. let found = bad_text-some p d h in fault_as d sequential text found.0 found.1)
    (first_of-some (bad_name 1 (names p)) (bad_text p) d more))
    (first_of-some (at (ends_with_slash p) (length p - 1) EndSlash) _ d more))
    (first_of-some (at (not (begins_with_slash p)) 0 NoSlash) _ d e)

pub defect_of-some : (sequential : Bool) (text : Bytes) (d : Defect) → defect_of sequential text ≡ Some d → IsFault d.fault sequential text
unfolding defect_of
defect_of-some sequential text d e =
    ⊎_elim (form_defect-some sequential text d)
    (λ h. let found = at-some _ _ _ d h in fault_as d sequential text found.1 (ltb-true _ _ found.0))
    (first_of-some (form_defect (tested sequential text)) _ d e)

first_is : (fault : PathFault) (d : Defect) → d.fault ≡ fault → IsFirst fault (Some d)
first_is NoSlash d e = e
first_is EndSlash d e = e
first_is EmptyName d e = e
first_is DotName d e = e
first_is BadText d e = e
first_is TooLong d e = e
first_is Memory d e = tt

pub defect_of-first : (sequential : Bool) (text : Bytes) (d : Defect) → defect_of sequential text ≡ Some d → IsFirst d.fault (defect_of sequential text)
defect_of-first sequential text d e = subst (λ o. IsFirst d.fault o) (sym e) (first_is d.fault d refl)

-- ---- a text with a fault is not valid

tested-invalid : (sequential : Bool) (text : Bytes) → (Valid (tested sequential text) → ⊥) → is_valid sequential text ≡ false
tested-invalid true text h = and_right (nat_le (length text) max_sequence_prefix) _ (false_from_ne_true _ (λ t. h (valid-from _ t)))
tested-invalid false text h = false_from_ne_true _ (λ t. h (valid-from _ t))

ends-invalid : (p : Bytes) → ends_with_slash p ≡ true → Valid p → ⊥
ends-invalid p e v =
    let both = and_parts (nat_lt 1 (length p)) _ e in
    let long : 1 < length p = ltb-true _ _ both.0 in
    let last : get_or p (length p - 1) 0 ≡ slash = eqb-true _ _ both.1 in
    both_ways _ (after_slash p (length p - 1) (omega arith) last) (all_filled (later_names p) (named-later p long v.named))

long-invalid : (sequential : Bool) (text : Bytes) → max_bytes sequential < length text → is_valid sequential text ≡ false
long-invalid true text h = and_left _ (is_path (with_one text)) (lt-leb _ _ h)
long-invalid false text h = tested-invalid false text (λ v. absurd (omega (arith, v.short)))

pub fault-refused : (fault : PathFault) (sequential : Bool) (text : Bytes) → IsFault fault sequential text → IsRefused fault sequential text
fault-refused NoSlash sequential text h = tested-invalid sequential text (λ v. both_ways _ h v.begins)
fault-refused EndSlash sequential text h = tested-invalid sequential text (ends-invalid (tested sequential text) h)
fault-refused EmptyName sequential text h = tested-invalid sequential text (λ v. both_ways _ h (all_filled (names (tested sequential text)) v.named))
fault-refused DotName sequential text h = tested-invalid sequential text (λ v. both_ways _ (no_dots (names (tested sequential text)) v.named) h)
fault-refused BadText sequential text h = tested-invalid sequential text (λ v. both_ways _ h (and_from _ _ (is_utf8-from_IsUtf8 _ v.is_text) v.allowed))
fault-refused TooLong sequential text h = long-invalid sequential text h
fault-refused Memory sequential text h = tt
