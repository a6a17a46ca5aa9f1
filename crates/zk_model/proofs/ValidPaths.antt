-- Laws of valid paths: their parts, and that the parent of one is valid and shorter.
use Rattle.std.proofs.Common.{◌≡◌, ℕ, zero, suc, ◌<◌, ◌≤◌, Bool, true, false, cond, ◌&&◌, Option, Some, None, List, [], ◌∷◌, ◌++◌, length, refl, sym, ap, ◌∙◌, subst, ◌==◌, drop, arith, length-append}
use Rattle.std.specs.Prelude.{nat_le}
use Rattle.std.specs.List.{list_all}
use Rattle.std.specs.Str.{is_utf8, chars, IsUtf8, IsAscii, IsCharBoundary}
use Rattle.std.proofs.lemmas.Bool.{and_parts, and_from, and_right, leb-true, le-leb, eqb-true}
use Rattle.std.proofs.lemmas.List.Folds.{list_all-append}
use Rattle.std.proofs.lemmas.Str.{IsUtf8-from_is_utf8, is_utf8-from_IsUtf8, IsUtf8-take, IsCharBoundary-before_ascii, chars-append, IsUtf8-from_ascii, chars-IsAscii}
use Rattle.std.proofs.Math.Seq.{take-append_seam, get_or-append_seam}
use Rattle.zx_base.specs.Maps.{Bytes, same}
use Rattle.zk_model.specs.Paths.{slash, root, is_path, is_path_char, is_name, names, pieces, onto_first, begins_with_slash, at_last_slash, with_head, parent, parent_at, parent_of_parts}
use Rattle.zk_model.proofs.PathScans.{later_names, pieces-cons}
use Rattle.zk_model.specs.Limits.{max_path}

-- what makes a path valid
pub record Valid (p : Bytes) : Type 0 where
  pub short : length p ≤ max_path
  pub begins : begins_with_slash p ≡ true
  pub is_text : IsUtf8 p
  pub allowed : list_all is_path_char (chars p) ≡ true
  pub named : list_all is_name (names p) ≡ true

pub valid-from : (p : Bytes) → is_path p ≡ true → Valid p
unfolding is_path
valid-from p h =
    let d = and_parts _ (list_all is_name (names p)) h in
    let c = and_parts _ (list_all is_path_char (chars p)) d.0 in
    let b = and_parts _ (is_utf8 p) c.0 in
    let a = and_parts (nat_le (length p) max_path) (begins_with_slash p) b.0 in
    record { short = leb-true _ _ a.0; begins = a.1; is_text = IsUtf8-from_is_utf8 p b.1; allowed = c.1; named = d.1 }

pub valid-is_path : (p : Bytes) → Valid p → is_path p ≡ true
unfolding is_path
valid-is_path p v =
    and_from _ _ (and_from _ _ (and_from _ _ (and_from _ _ (le-leb _ _ v.short) v.begins) (is_utf8-from_IsUtf8 p v.is_text)) v.allowed) v.named

-- ---- names

same_root-long : (p : Bytes) → 1 < length p → same p root ≡ false
same_root-long [] h = refl
same_root-long (x ∷ []) h = absurd (omega arith)
same_root-long (x ∷ y ∷ ys) h = and_right (x == slash) false refl

pub named-later : (p : Bytes) → 1 < length p → list_all is_name (names p) ≡ true → list_all is_name (later_names p) ≡ true
named-later p h all = ap (λ t. list_all is_name (cond t [] (later_names p))) (sym (same_root-long p h)) ∙ all

pub later-named : (p : Bytes) (is_root : Bool) → list_all is_name (later_names p) ≡ true → list_all is_name (cond is_root [] (later_names p)) ≡ true
later-named p true all = refl
later-named p false all = all

onto_append : (b : ℕ) (xs ys : List Bytes) (name : Bytes) (more : List Bytes) → xs ≡ name ∷ more → onto_first b (xs ++ ys) ≡ onto_first b xs ++ ys
onto_append b xs ys name more e = rw e refl

pieces_cons-append : (b : ℕ) (bs after : Bytes) (is_slash : Bool) → pieces (bs ++ slash ∷ after) ≡ pieces bs ++ pieces after
    → cond is_slash ([] ∷ pieces (bs ++ slash ∷ after)) (onto_first b (pieces (bs ++ slash ∷ after))) ≡ cond is_slash ([] ∷ pieces bs) (onto_first b (pieces bs)) ++ pieces after
pieces_cons-append b bs after true e = ap (λ (x : List Bytes). [] ∷ x) e
pieces_cons-append b bs after false e = ap (onto_first b) e ∙ onto_append b (pieces bs) (pieces after) _ _ (pieces-cons bs)

pub pieces-append : (before after : Bytes) → pieces (before ++ slash ∷ after) ≡ pieces before ++ pieces after
pieces-append [] after = refl
pieces-append (b ∷ bs) after = pieces_cons-append b bs after (b == slash) (pieces-append bs after)

pub later-append : (before after : Bytes) → later_names (before ++ slash ∷ after) ≡ later_names before ++ pieces after
later-append before after = ap (drop 1) (pieces-append before after ∙ ap (λ (x : List Bytes). x ++ pieces after) (pieces-cons before))

-- ---- what stands before the last slash

before_in : Option (Bytes × Bytes) → Bytes
before_in None = []
before_in (Some parts) = parts.0

after_in : Option (Bytes × Bytes) → Bytes
after_in None = []
after_in (Some parts) = parts.1

split_as : (x : ℕ) (xs front back before after : Bytes) → x ∷ xs ≡ front ++ slash ∷ back → ◌≡◌ {A = Option (Bytes × Bytes)} (Some (front, back)) (Some (before, after)) → x ∷ xs ≡ before ++ slash ∷ after
unfolding before_in after_in
split_as x xs front back before after e h = e ∙ (λ i. before_in (h i) ++ slash ∷ after_in (h i))

cut_here : (x : ℕ) (xs : Bytes) (is_slash : Bool) (before after : Bytes) → (x == slash) ≡ is_slash → cond {A = Option (Bytes × Bytes)} is_slash (Some ([], xs)) None ≡ Some (before, after) → x ∷ xs ≡ before ++ slash ∷ after
cut_here x xs true before after e h = split_as x xs [] xs before after (ap (λ y. y ∷ xs) (eqb-true x slash e)) h
cut_here x xs false before after e h = cc

cut_cons : (x : ℕ) (xs : Bytes) (o : Option (Bytes × Bytes)) (before after : Bytes) → at_last_slash xs ≡ o → with_head x o xs ≡ Some (before, after)
    → ((b a : Bytes) → at_last_slash xs ≡ Some (b, a) → xs ≡ b ++ slash ∷ a) → x ∷ xs ≡ before ++ slash ∷ after
cut_cons x xs (Some parts) before after e h cut = split_as x xs (x ∷ parts.0) parts.1 before after (ap (λ (y : Bytes). x ∷ y) (cut parts.0 parts.1 e)) h
cut_cons x xs None before after e h cut = cut_here x xs (x == slash) before after refl h

pub cut_at : (p before after : Bytes) → at_last_slash p ≡ Some (before, after) → p ≡ before ++ slash ∷ after
unfolding at_last_slash
cut_at [] before after h = cc
cut_at (x ∷ xs) before after h = cut_cons x xs (at_last_slash xs) before after refl h (cut_at xs)

begins-front : (before after : Bytes) → 0 < length before → begins_with_slash (before ++ slash ∷ after) ≡ true → begins_with_slash before ≡ true
begins-front [] after h begins = absurd (omega arith)
begins-front (x ∷ xs) after h begins = begins

boundary : (before : Bytes) (c : ℕ) (after : Bytes) → c < 128 → IsCharBoundary (before ++ c ∷ after) (length before)
boundary before c after h = IsCharBoundary-before_ascii _ _ (omega (arith, length-append before (c ∷ after))) (omega (arith, h, get_or-append_seam before c after 0))

pub front-is_text : (before : Bytes) (c : ℕ) (after : Bytes) → c < 128 → IsUtf8 (before ++ c ∷ after) → IsUtf8 before
front-is_text before c after h text = subst IsUtf8 (take-append_seam before (c ∷ after)) (IsUtf8-take _ (length before) text (boundary before c after h))

pub front-named : (before after : Bytes) → 0 < length before → Valid (before ++ slash ∷ after) → (list_all is_name (later_names before) ≡ true) × (list_all is_name (pieces after) ≡ true)
front-named before after h v =
    let long : 1 < length (before ++ slash ∷ after) = omega (arith, length-append before (slash ∷ after)) in
    and_parts _ _ (sym (ap (list_all is_name) (later-append before after) ∙ list_all-append is_name (later_names before) (pieces after)) ∙ named-later _ long v.named)

pub front-valid : (before after : Bytes) → 0 < length before → Valid (before ++ slash ∷ after) → Valid before
front-valid before after h v =
    let is_text = front-is_text before slash after (omega arith) v.is_text in
    let split = ap (list_all is_path_char) (chars-append before (slash ∷ after) is_text) ∙ list_all-append is_path_char (chars before) (chars (slash ∷ after)) in
    record {
      short = omega (arith, length-append before (slash ∷ after), v.short);
      begins = begins-front before after h v.begins;
      is_text = is_text;
      allowed = (and_parts _ _ (sym split ∙ v.allowed)).0;
      named = later-named before (same before root) (front-named before after h v).0;
    }

-- ---- parents

root-ascii : IsAscii root
root-ascii zero = omega arith
root-ascii (suc i) = omega arith

pub root-valid : is_path root ≡ true
root-valid = valid-is_path root (record {
  short = omega arith;
  begins = refl;
  is_text = IsUtf8-from_ascii root root-ascii;
  allowed = ap (list_all is_path_char) (chars-IsAscii root root-ascii);
  named = refl;
})

pub parent-first : (p : Bytes) → 1 < length p → at_last_slash p ≡ Some ([], drop 1 p) → parent p ≡ Some root
unfolding parent
parent-first [] h e = absurd (omega arith)
parent-first (x ∷ []) h e = absurd (omega arith)
parent-first (x ∷ y ∷ ys) h e = ap parent_at e

pub parent-root : (p : Bytes) → length p ≡ 1 → at_last_slash p ≡ Some ([], drop 1 p) → parent p ≡ None
unfolding parent
parent-root [] h e = absurd (omega arith)
parent-root (x ∷ []) h e = ap parent_at e
parent-root (x ∷ y ∷ ys) h e = absurd (omega arith)

-- a lone slash has an empty name after it
lone : (x : ℕ) (is_slash : Bool) → list_all is_name (drop 1 (cond {A = List Bytes} is_slash ([] ∷ [] ∷ []) ((x ∷ []) ∷ []))) ≡ true
    → cond {A = Option Bytes} (is_slash && true) None (Some (x ∷ [])) ≡ Some (x ∷ [])
lone x true front = cc
lone x false front = refl

inside : (before after : Bytes) → 0 < length before → list_all is_name (later_names before) ≡ true → list_all is_name (pieces after) ≡ true → parent_of_parts before after ≡ Some before
inside [] after h front back = absurd (omega arith)
inside (x ∷ xs) [] h front back = cc
inside (x ∷ []) (y ∷ ys) h front back = lone x (x == slash) front
inside (x ∷ z ∷ zs) (y ∷ ys) h front back = ap (λ t. cond t None (Some (x ∷ z ∷ zs))) (same_root-long (x ∷ z ∷ zs) (omega arith))

pub parent-inside : (p before after : Bytes) → is_path p ≡ true → at_last_slash p ≡ Some (before, after) → 0 < length before → parent p ≡ Some before
unfolding parent
parent-inside p before after valid e h =
    let named = front-named before after h (subst Valid (cut_at p before after e) (valid-from p valid)) in
    ap parent_at e ∙ inside before after h named.0 named.1

pub before-valid : (p before after : Bytes) → is_path p ≡ true → at_last_slash p ≡ Some (before, after) → 0 < length before → is_path before ≡ true
before-valid p before after valid e h = valid-is_path before (front-valid before after h (subst Valid (cut_at p before after e) (valid-from p valid)))

parent_parts : (p before after q : Bytes) → is_path p ≡ true → at_last_slash p ≡ Some (before, after) → parent p ≡ Some q → parent_of_parts before after ≡ Some q
    → (is_path q ≡ true) × (length q < length p)
parent_parts p before [] q valid e up h = cc
parent_parts p [] (y ∷ ys) q valid e up h =
    let same : root ≡ q = cc in
    (subst (λ (x : Bytes). is_path x ≡ true) same root-valid, omega (arith, ap length (cut_at p [] (y ∷ ys) e), ap length same))
parent_parts p (x ∷ xs) (y ∷ ys) q valid e up h =
    let inner : 0 < length (x ∷ xs) = omega arith in
    let here = parent-inside p (x ∷ xs) (y ∷ ys) valid e inner in
    let same : ◌≡◌ {A = Bytes} (x ∷ xs) q = cc in (
      subst (λ (x : Bytes). is_path x ≡ true) same (before-valid p (x ∷ xs) (y ∷ ys) valid e inner),
      omega (arith, ap length (cut_at p (x ∷ xs) (y ∷ ys) e), ap length same, length-append (x ∷ xs) (slash ∷ y ∷ ys)),
    )

parent_split : (p q : Bytes) (o : Option (Bytes × Bytes)) → is_path p ≡ true → at_last_slash p ≡ o → parent p ≡ Some q → parent_at o ≡ Some q
    → (is_path q ≡ true) × (length q < length p)
parent_split p q None valid e up h = cc
parent_split p q (Some parts) valid e up h = parent_parts p parts.0 parts.1 q valid e up h

-- the parent of a valid path is valid, and shorter
pub parent-valid : (p q : Bytes) → is_path p ≡ true → parent p ≡ Some q → (is_path q ≡ true) × (length q < length p)
unfolding parent
parent-valid p q valid up = parent_split p q (at_last_slash p) valid refl up up
