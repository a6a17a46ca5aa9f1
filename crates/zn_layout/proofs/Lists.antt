-- So many items, one after the other.
use Rattle.std.proofs.Common.{◌≡◌, ℕ, suc, ◌^◌, ◌<◌, ◌≤◌, ℤ, pos, Option, Some, None, List, [], ◌∷◌, ◌++◌, length, take, drop, get_or, refl, sym, ap, ◌∙◌, subst, arith, append_assoc}
use Rattle.std.specs.Prelude.{IfOk, Result, Ok, Err}
use Rattle.std.specs.Int.{w32, FitsUnsignedBits}
use Rattle.std.proofs.lemmas.Int.{to_z-of_z}
use mir.Val.{to_z, of_z}
use Rattle.std.specs.Int.RustNames.{FitsSigned}
use Rattle.std.specs.List.{All, flat_map}
use Rattle.std.proofs.lemmas.List.{length-append, length-drop, length-take-le, take-append-drop, take_at, drop_at}
use Rattle.std.proofs.lemmas.List.Elements.{All-drop}
use Rattle.zk_model.specs.declared.node.Trigger.{Trigger}
use Rattle.zk_model.specs.declared.node.Trigger.TheVariants.{Created, Deleted, Changed, Children}
use Rattle.zk_jute.specs.JuteWriting.{int_bytes, count_bytes, string_bytes}
use Rattle.zx_base.specs.Maps.{Bytes}
use Rattle.zn_layout.specs.Records.{trigger_bytes}
use Rattle.zn_layout.specs.ReadingSteps.{IsValidPath, IsValidTrigger, IsPathOf, IsCounted, IsNotCounted, TakesItem, TakesItems}
use Rattle.zk_jute.proofs.Lengths.{length-int_bytes}
use Rattle.zn_layout.proofs.Nodes.{int_same}
use Rattle.zn_layout.proofs.Paths.{path_short}
use Rattle.zx_base.proofs.Numbers.{pos-same}

-- ---- a count, and a text after its length

count_fits : (n : ℕ) → n < 2 ^ 31 → FitsSigned w32 (pos n)
count_fits n lt = record { sfits = lt }

pub counts_same : (m n : ℕ) (r s : Bytes) → m < 2 ^ 31 → n < 2 ^ 31 → count_bytes m ++ r ≡ count_bytes n ++ s → (m ≡ n) × (r ≡ s)
counts_same m n r s lm ln e = let both = int_same (pos m) (pos n) r s (count_fits m lm) (count_fits n ln) e in (pos-same m n both.0, both.1)

-- two texts of one length
fronts_same : (p q r s : Bytes) → length p ≡ length q → p ++ r ≡ q ++ s → (p ≡ q) × (r ≡ s)
fronts_same p q r s long e =
    (sym (take_at p r (length p) refl) ∙ ap (λ (l : Bytes). take (length p) l) e ∙ take_at q s (length p) (sym long), sym (drop_at p r (length p) refl) ∙ ap (λ (l : Bytes). drop (length p) l) e ∙ drop_at q s (length p) (sym long))

pub strings_same : (p q r s : Bytes) → length p < 2 ^ 31 → length q < 2 ^ 31 → string_bytes p ++ r ≡ string_bytes q ++ s → (p ≡ q) × (r ≡ s)
strings_same p q r s lp lq e =
    let both = counts_same (length p) (length q) (p ++ r) (q ++ s) lp lq (sym (append_assoc (count_bytes (length p)) p r) ∙ e ∙ append_assoc (count_bytes (length q)) q s) in
    fronts_same p q r s both.0 both.1

pub paths_same : (p q r s : Bytes) → IsValidPath p → IsValidPath q → string_bytes p ++ r ≡ string_bytes q ++ s → (p ≡ q) × (r ≡ s)
paths_same p q r s vp vq e = strings_same p q r s (omega (arith, path_short p vp)) (omega (arith, path_short q vq)) e

-- ---- as code splits them off

-- too few bytes for a count
pub uncounted-short : (old : Bytes) → length old < 4 → IsNotCounted old
uncounted-short old short n rest lt e = omega (arith, length-append (count_bytes n) rest, length-int_bytes (pos n), ap (λ (l : Bytes). length l) e)

-- a number that is no count
pub uncounted-number : (old rest : Bytes) (z : ℤ) → FitsSigned w32 z → old ≡ int_bytes z ++ rest → (FitsUnsignedBits 64 (to_z w32 (of_z w32 z)) → ⊥) → IsNotCounted old
uncounted-number old rest z fits begins not n rest2 lt e =
    let same : z ≡ pos n = (int_same z (pos n) rest rest2 fits (count_fits n lt) (sym begins ∙ e)).0 in
    not (subst (λ (x : ℤ). FitsUnsignedBits 64 x) (sym (to_z-of_z w32 z fits ∙ same)) (omega arith))

-- where no count is, no path is
pub path-uncounted : (old new : Bytes) → IsNotCounted old → TakesItem string_bytes IsValidPath old new None
path-uncounted old new none p rest valid e = none (length p) (p ++ rest) (omega (arith, path_short p valid)) (e ∙ append_assoc (count_bytes (length p)) p rest)

-- the text after a count, and what is left
text_is : (old left : Bytes) (n : ℕ) (p rest : Bytes) → IsCounted old n left → IsValidPath p → old ≡ string_bytes p ++ rest → (n ≡ length p) × (left ≡ p ++ rest)
text_is old left n p rest c valid e = counts_same n (length p) left (p ++ rest) c.0 (omega (arith, path_short p valid)) (sym c.1 ∙ e ∙ append_assoc (count_bytes (length p)) p rest)

pub path-short : (old left new : Bytes) (n : ℕ) → IsCounted old n left → length left < n → TakesItem string_bytes IsValidPath old new None
path-short old left new n c short p rest valid e =
    let both = text_is old left n p rest c valid e in
    omega (arith, both.0, ap (λ (l : Bytes). length l) both.1, length-append p rest)

pub path-taken : (old left : Bytes) (n : ℕ) (o : Option Bytes) → IsCounted old n left → n ≤ length left → IsPathOf (take n left) o → TakesItem string_bytes IsValidPath old (drop n left) o
path-taken old left n None c le not = λ p rest valid e.
    let both = text_is old left n p rest c valid e in
    let text : take n left ≡ p = ap (λ (l : Bytes). take n l) both.1 ∙ take_at p rest n (sym both.0) in
    not (subst IsValidPath (sym text) valid)
path-taken old left n (Some p) c le h =
    let long : n ≡ length p = sym (length-take-le n left le) ∙ ap (λ (l : Bytes). length l) (sym h.0) in
    (h.1, c.1 ∙ ap (λ k. count_bytes k ++ left) long ∙ ap (λ (l : Bytes). count_bytes (length p) ++ l) (sym (take-append-drop n left) ∙ ap (λ (l : Bytes). l ++ drop n left) (sym h.0)) ∙ sym (append_assoc (count_bytes (length p)) p (drop n left)))

-- ---- a trigger

abbrev kind_of : Trigger → ℕ
kind_of (Created p) = 1
kind_of (Deleted p) = 2
kind_of (Changed p) = 3
kind_of (Children p) = 4

kind_is : (t : Trigger) (r : Bytes) → get_or (trigger_bytes t ++ r) 0 0 ≡ kind_of t
kind_is (Created p) r = refl
kind_is (Deleted p) r = refl
kind_is (Changed p) r = refl
kind_is (Children p) r = refl

same_kind : (t u : Trigger) (r s : Bytes) → trigger_bytes t ++ r ≡ trigger_bytes u ++ s → kind_of t ≡ kind_of u
same_kind t u r s e = sym (kind_is t r) ∙ ap (λ (l : Bytes). get_or l 0 0) e ∙ kind_is u s

pub tails_same : {x y : ℕ} {r s : Bytes} → x ∷ r ≡ y ∷ s → r ≡ s
tails_same e = ap (λ (l : Bytes). drop 1 l) e

pub triggers_same : (t u : Trigger) (r s : Bytes) → IsValidTrigger t → IsValidTrigger u → trigger_bytes t ++ r ≡ trigger_bytes u ++ s → (t ≡ u) × (r ≡ s)
triggers_same (Created p) (Created q) r s vt vu e = let both = paths_same p q r s vt vu (tails_same e) in (ap Created both.0, both.1)
triggers_same (Deleted p) (Deleted q) r s vt vu e = let both = paths_same p q r s vt vu (tails_same e) in (ap Deleted both.0, both.1)
triggers_same (Changed p) (Changed q) r s vt vu e = let both = paths_same p q r s vt vu (tails_same e) in (ap Changed both.0, both.1)
triggers_same (Children p) (Children q) r s vt vu e = let both = paths_same p q r s vt vu (tails_same e) in (ap Children both.0, both.1)
triggers_same t u r s vt vu e = absurd (omega (arith, same_kind t u r s e))

-- ---- items one after the other

module _ {A : Type 0} (each : A → Bytes) (IsItem : A → Type 0) (same : (x y : A) (r s : Bytes) → IsItem x → IsItem y → each x ++ r ≡ each y ++ s → (x ≡ y) × (r ≡ s)) where
  -- what is left after the first items of a list
  pub rest_same : (xs ys : List A) (r s : Bytes) → All IsItem xs → All IsItem ys → length xs ≤ length ys → flat_map each xs ++ r ≡ flat_map each ys ++ s → r ≡ flat_map each (drop (length xs) ys) ++ s
  rest_same [] ys r s vx vy le e = e
  rest_same (x ∷ xs) [] r s vx vy le e = absurd (omega arith)
  rest_same (x ∷ xs) (y ∷ ys) r s vx vy le e =
      let both = same x y (flat_map each xs ++ r) (flat_map each ys ++ s) (vx 0 x (omega arith)) (vy 0 y (omega arith)) (sym (append_assoc (each x) (flat_map each xs) r) ∙ e ∙ append_assoc (each y) (flat_map each ys) s) in
      rest_same xs ys r s (λ k d lt. vx (suc k) d (omega arith)) (λ k d lt. vy (suc k) d (omega arith)) (omega arith) both.1

  pub items_same : (xs ys : List A) (r s : Bytes) → All IsItem xs → All IsItem ys → length xs ≡ length ys → flat_map each xs ++ r ≡ flat_map each ys ++ s → xs ≡ ys
  items_same [] [] r s vx vy le e = refl
  items_same [] (y ∷ ys) r s vx vy le e = absurd (omega arith)
  items_same (x ∷ xs) [] r s vx vy le e = absurd (omega arith)
  items_same (x ∷ xs) (y ∷ ys) r s vx vy le e =
      let both = same x y (flat_map each xs ++ r) (flat_map each ys ++ s) (vx 0 x (omega arith)) (vy 0 y (omega arith)) (sym (append_assoc (each x) (flat_map each xs) r) ∙ e ∙ append_assoc (each y) (flat_map each ys) s) in
      let rest : xs ≡ ys = items_same xs ys r s (λ k d lt. vx (suc k) d (omega arith)) (λ k d lt. vy (suc k) d (omega arith)) (omega arith) both.1 in
      λ i. both.0 i ∷ rest i

  -- a loop has taken these items so far
  pub record AreTaken (old : Bytes) (i : ℕ) (items : List A) (left : Bytes) : Type 0 where
    pub count : length items ≡ i
    pub valid : All IsItem items
    pub parts : old ≡ flat_map each items ++ left

  next_there : (ys : List A) (left rest new : Bytes) → 0 < length ys → All IsItem ys → left ≡ flat_map each ys ++ rest → TakesItem each IsItem left new None → ⊥
  next_there [] left rest new lt vy e none = absurd (omega arith)
  next_there (y ∷ ys) left rest new lt vy e none = none y (flat_map each ys ++ rest) (vy 0 y (omega arith)) (e ∙ append_assoc (each y) (flat_map each ys) rest)

  -- where the next item isn't there, so many items aren't
  pub not_taken : (old left new new2 : Bytes) (i n : ℕ) (items : List A) → AreTaken old i items left → i < n → TakesItem each IsItem left new None → TakesItems each IsItem n old new2 None
  not_taken old left new new2 i n items t lt none xs rest long valid e =
      let le : length items ≤ length xs = omega (arith, t.count) in
      next_there (drop (length items) xs) left rest new (omega (arith, length-drop (length items) xs, t.count)) (All-drop IsItem (length items) xs valid)
      (rest_same items xs left rest t.valid valid le (sym t.parts ∙ e)) none

pub ok_along : {T E : Type 0} (P Q : T → Type 0) → ((t : T) → P t → Q t) → (r : Result T E) → IfOk r P → IfOk r Q
ok_along P Q f (Ok t) h = f t h
ok_along P Q f (Err e) h = h
