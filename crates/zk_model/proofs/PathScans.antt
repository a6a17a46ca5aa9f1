-- What the loops over a path have found.
use Rattle.std.proofs.Common.{◌≡◌, ℕ, ◌+◌, ◌<◌, ◌≤◌, ◌≢◌, suc, Bool, true, false, cond, Option, Some, None, List, [], ◌∷◌, ◌++◌, length, refl, sym, ap, ◌∙◌, ◌==◌, drop, take, get_or, arith}
use Rattle.std.specs.Option.{option_or}
use Rattle.std.specs.Char.{len_utf8, encode_utf8}
use Rattle.std.specs.Str.{chars, IsUtf8}
use Rattle.std.proofs.lemmas.Str.{chars_past_char}
use Rattle.std.proofs.lemmas.List.{drop_more, at_drop_more, take-append-drop}
use Rattle.std.proofs.Math.ListN.{drop_of_length-le}
use Rattle.std.proofs.lemmas.Bool.Decides.{nat_tests}
use Rattle.std.specs.Prelude.{IsTrue}
use Rattle.zx_base.specs.Maps.{Bytes, same}
use Rattle.zk_model.specs.declared.path.Defect.{Defect}
use Rattle.zk_model.specs.declared.path.PathFault.TheVariants.{BadText}
use Rattle.zk_model.specs.Paths.{slash, root, names, begins_with_slash, pieces, onto_first, is_path_char, with_head, at_last_slash, slashes}
use Rattle.zk_model.specs.PathFaults.{first_name, name_fault, placed, bad_name, bad_char}

-- ---- names

-- the first bad name that begins after a slash of these bytes; the first of the bytes has this index
unfoldable pub name_scan : ℕ → Bytes → Option Defect
name_scan place [] = None
name_scan place (b ∷ bs) =
    cond (b == slash) (option_or (placed (place + 1) (name_fault (first_name bs))) (name_scan (place + 1) bs)) (name_scan (place + 1) bs)

-- the names after the first slash
abbrev pub later_names : Bytes → List Bytes
later_names bs = drop 1 (pieces bs)

begin_cons : (b : ℕ) (bs name : Bytes) (more : List Bytes) (is_slash : Bool) → pieces bs ≡ name ∷ more
    → cond is_slash ([] ∷ pieces bs) (onto_first b (pieces bs)) ≡ cond is_slash [] (b ∷ name) ∷ drop 1 (cond is_slash ([] ∷ pieces bs) (onto_first b (pieces bs)))
begin_cons b bs name more true e = refl
begin_cons b bs name more false e = rw e refl

pub pieces-cons : (bs : Bytes) → pieces bs ≡ first_name bs ∷ later_names bs
unfolding first_name
pieces-cons [] = refl
pieces-cons (b ∷ bs) = begin_cons b bs (first_name bs) (later_names bs) (b == slash) (pieces-cons bs)

pub later_onto : (b : ℕ) (xs : List Bytes) → drop 1 (onto_first b xs) ≡ drop 1 xs
later_onto b [] = refl
later_onto b (x ∷ xs) = refl

scan_cons : (place b : ℕ) (bs : Bytes) (is_slash : Bool) → bad_name (place + 1 + length (first_name bs) + 1) (later_names bs) ≡ name_scan (place + 1) bs
    → bad_name (place + length (cond is_slash [] (b ∷ first_name bs)) + 1) (drop 1 (cond is_slash ([] ∷ pieces bs) (onto_first b (pieces bs))))
    ≡ cond is_slash (option_or (placed (place + 1) (name_fault (first_name bs))) (name_scan (place + 1) bs)) (name_scan (place + 1) bs)
unfolding bad_name
scan_cons place b bs true e =
    let here : place + 0 + 1 ≡ place + 1 = omega arith in
    rw here (ap (bad_name (place + 1)) (pieces-cons bs) ∙ ap (option_or (placed (place + 1) (name_fault (first_name bs)))) e)
scan_cons place b bs false e =
    let here : place + suc (length (first_name bs)) + 1 ≡ place + 1 + length (first_name bs) + 1 = omega arith in
    rw here (ap (bad_name (place + 1 + length (first_name bs) + 1)) (later_onto b (pieces bs)) ∙ e)

pub bad_name-scan : (place : ℕ) (bs : Bytes) → bad_name (place + length (first_name bs) + 1) (later_names bs) ≡ name_scan place bs
unfolding first_name name_scan bad_name
bad_name-scan place [] = refl
bad_name-scan place (b ∷ bs) = scan_cons place b bs (b == slash) (bad_name-scan (place + 1) bs)

pub name_scan-drop : (place : ℕ) (p : Bytes) → place < length p → name_scan place (drop place p) ≡ cond (get_or p place 0 == slash)
    (option_or (placed (place + 1) (name_fault (first_name (drop (place + 1) p)))) (name_scan (place + 1) (drop (place + 1) p)))
    (name_scan (place + 1) (drop (place + 1) p))
unfolding name_scan
name_scan-drop place p h = at_drop_more (name_scan place) p place 0 h

first_name-begins : (p : Bytes) → IsTrue (begins_with_slash p) → length (first_name p) ≡ 0
unfolding first_name
first_name-begins [] begins = refl
first_name-begins (b ∷ bs) begins = ap (λ t. length (cond t [] (b ∷ first_name bs))) begins

pub bad_name-names : (p : Bytes) → IsTrue (begins_with_slash p) → same p root ≡ false → bad_name 1 (names p) ≡ name_scan 0 p
bad_name-names p begins other =
    let at_one : 0 + length (first_name p) + 1 ≡ 1 = omega (arith, first_name-begins p begins) in
    ap (λ t. bad_name 1 (cond t [] (later_names p))) other ∙ ap (λ n. bad_name n (later_names p)) (sym at_one) ∙ bad_name-scan 0 p

pub name_scan-end : (place : ℕ) (p : Bytes) → length p ≤ place → name_scan place (drop place p) ≡ None
unfolding name_scan
name_scan-end place p h = ap (name_scan place) (drop_of_length-le p h)

-- ---- characters

pub bad_char-next : (place c : ℕ) (bs rest : Bytes) → IsUtf8 bs → bs ≡ encode_utf8 c ++ rest
    → bad_char place (chars bs) ≡ cond (is_path_char c) (bad_char (place + len_utf8 c) (chars rest)) (Some (record { place = place; fault = BadText }))
unfolding bad_char
bad_char-next place c bs rest text begins = ap (bad_char place) (chars_past_char bs rest c text begins)

pub bad_char-end : (place : ℕ) (bs : Bytes) → length bs ≡ 0 → bad_char place (chars bs) ≡ None
unfolding bad_char chars
bad_char-end place [] e = refl
bad_char-end place (b ∷ bs) e = absurd (omega arith)

-- ---- slashes

pub at_last_slash-append : (front back : Bytes) → at_last_slash back ≡ None → at_last_slash (front ++ slash ∷ back) ≡ Some (front, back)
unfolding at_last_slash
at_last_slash-append [] back none = ap (λ x. with_head slash x back) none
at_last_slash-append (x ∷ front) back none = ap (λ o. with_head x o (front ++ slash ∷ back)) (at_last_slash-append front back none)

pub at_last_slash-end : (place : ℕ) (p : Bytes) → length p ≤ place → at_last_slash (drop place p) ≡ None
unfolding at_last_slash
at_last_slash-end place p h = ap at_last_slash (drop_of_length-le p h)

pub at_last_slash-cons : (b : ℕ) (bs : Bytes) → b ≢ slash → at_last_slash bs ≡ None → at_last_slash (b ∷ bs) ≡ None
unfolding at_last_slash
at_last_slash-cons b bs other none =
    let e : (b == slash) ≡ false = grind (arith, nat_tests) in
    ap (λ o. with_head b o bs) none ∙ ap (λ t. cond t (Some ([], bs)) None) e

pub at_last_slash-first : (p : Bytes) → IsTrue (begins_with_slash p) → at_last_slash (drop 1 p) ≡ None → at_last_slash p ≡ Some ([], drop 1 p)
unfolding at_last_slash
at_last_slash-first [] begins none = cc
at_last_slash-first (b ∷ bs) begins none =
    ap (λ o. with_head b o bs) none ∙ ap (λ t. cond t (Some ([], bs)) None) begins

pub begins-length : (p : Bytes) → IsTrue (begins_with_slash p) → 1 ≤ length p
begins-length [] begins = cc
begins-length (b ∷ bs) begins = omega arith

pub at_last_slash-drop : (place : ℕ) (p : Bytes) → place < length p → get_or p place 0 ≢ slash → at_last_slash (drop (place + 1) p) ≡ None
    → at_last_slash (drop place p) ≡ None
at_last_slash-drop place p h other none = at_drop_more at_last_slash p place 0 h ∙ at_last_slash-cons _ _ other none

pub cut : (place : ℕ) (p : Bytes) → place < length p → p ≡ take place p ++ get_or p place 0 ∷ drop (place + 1) p
cut place p h = sym (take-append-drop place p) ∙ ap (λ (x : Bytes). take place p ++ x) (drop_more p place 0 h)

pub at_last_slash-cut : (place : ℕ) (p : Bytes) → place < length p → get_or p place 0 ≡ slash → at_last_slash (drop (place + 1) p) ≡ None
    → at_last_slash p ≡ Some (take place p, drop (place + 1) p)
at_last_slash-cut place p h here none =
    ap at_last_slash (cut place p h ∙ ap (λ x. take place p ++ x ∷ drop (place + 1) p) here)
    ∙ at_last_slash-append (take place p) (drop (place + 1) p) none

pub slashes-drop : (place : ℕ) (p : Bytes) → place < length p → slashes (drop place p) ≡ cond (get_or p place 0 == slash) (suc (slashes (drop (place + 1) p))) (slashes (drop (place + 1) p))
unfolding slashes
slashes-drop place p h = at_drop_more slashes p place 0 h

pub slashes-end : (place : ℕ) (p : Bytes) → length p ≤ place → slashes (drop place p) ≡ 0
unfolding slashes
slashes-end place p h = ap slashes (drop_of_length-le p h)
