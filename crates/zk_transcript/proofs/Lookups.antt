-- What one more line does to look-ups: to the first line that shows something, and to the line at a place.
use Rattle.std.proofs.Common.{◌≡◌, ℕ, zero, suc, ◌+◌, ◌<◌, List, [], ◌∷◌, ◌++◌, length, refl, ap, ◌∙◌, arith, add-zero}
use Rattle.std.specs.Prelude.{Option, Some, None, slice_get}
use Rattle.zk_transcript.specs.declared.transcript.TranscriptLine.{TranscriptLine}
use Rattle.zk_transcript.specs.History.{first_place, first_shown}

-- ---- the first line that shows something

-- a line that does not show it changes nothing
pub first_place-skip : {A : Type 0} (show : TranscriptLine → Option A) (k : ℕ) (ls : List TranscriptLine) (l : TranscriptLine)
    → show l ≡ None → first_place show k (ls ++ l ∷ []) ≡ first_place show k ls
first_place-skip show k [] l h = rw h
first_place-skip {A} show k (x ∷ ls) l h =
    elim (show x) as (λ o. ◌≡◌ {A = Option (ℕ × A)} (elim o [ Some y ↦ Some (k, y) | None ↦ first_place show (k + 1) (ls ++ l ∷ []) ]) (elim o [ Some y ↦ Some (k, y) | None ↦ first_place show (k + 1) ls ])) [
      | Some y ↦ refl
      | None ↦ first_place-skip show (k + 1) ls l h
    ]

-- the first line that shows it
pub first_place-new : {A : Type 0} (show : TranscriptLine → Option A) (k : ℕ) (ls : List TranscriptLine) (l : TranscriptLine) (x : A)
    → first_place show k ls ≡ None → show l ≡ Some x → first_place show k (ls ++ l ∷ []) ≡ Some (k + length ls, x)
first_place-new show k [] l x n h = rw (h, add-zero k)
first_place-new {A} show k (y ∷ ls) l x n h =
    elim (show y) as (λ o. ◌≡◌ {A = Option (ℕ × A)} (elim o [ Some z ↦ Some (k, z) | None ↦ first_place show (k + 1) ls ]) None → ◌≡◌ {A = Option (ℕ × A)} (elim o [ Some z ↦ Some (k, z) | None ↦ first_place show (k + 1) (ls ++ l ∷ []) ]) (Some (k + suc (length ls), x))) [
      | Some z ↦ λ e. absurd (cc)
      | None ↦ λ e. first_place-new show (k + 1) ls l x e h ∙ ap (λ m. Some (m, x)) (omega arith)
    ] n

pub first_shown-skip : {A : Type 0} (show : TranscriptLine → Option A) (ls : List TranscriptLine) (l : TranscriptLine)
    → show l ≡ None → first_shown show (ls ++ l ∷ []) ≡ first_shown show ls
first_shown-skip show [] l h = rw h
first_shown-skip {A} show (x ∷ ls) l h =
    elim (show x) as (λ o. ◌≡◌ {A = Option A} (elim o [ Some y ↦ Some y | None ↦ first_shown show (ls ++ l ∷ []) ]) (elim o [ Some y ↦ Some y | None ↦ first_shown show ls ])) [
      | Some y ↦ refl
      | None ↦ first_shown-skip show ls l h
    ]

pub first_shown-new : {A : Type 0} (show : TranscriptLine → Option A) (ls : List TranscriptLine) (l : TranscriptLine)
    → first_shown show ls ≡ None → first_shown show (ls ++ l ∷ []) ≡ show l
first_shown-new {A} show [] l n = elim (show l) as (λ o. ◌≡◌ {A = Option A} (elim o [ Some y ↦ Some y | None ↦ None ]) o) [ Some y ↦ refl | None ↦ refl ]
first_shown-new {A} show (x ∷ ls) l n =
    elim (show x) as (λ o. ◌≡◌ {A = Option A} (elim o [ Some y ↦ Some y | None ↦ first_shown show ls ]) None → ◌≡◌ {A = Option A} (elim o [ Some y ↦ Some y | None ↦ first_shown show (ls ++ l ∷ []) ]) (show l)) [
      | Some y ↦ λ e. absurd (cc)
      | None ↦ λ e. first_shown-new show ls l e
    ] n

-- what stands at the first place is what is shown first
pub first_shown-place : {A : Type 0} (show : TranscriptLine → Option A) (k : ℕ) (ls : List TranscriptLine) (x : ℕ × A)
    → first_place show k ls ≡ Some x → first_shown show ls ≡ Some x.1
first_shown-place show k [] x h = absurd (cc)
first_shown-place {A} show k (l ∷ ls) x h =
    elim (show l) as (λ o. ◌≡◌ {A = Option (ℕ × A)} (elim o [ Some y ↦ Some (k, y) | None ↦ first_place show (k + 1) ls ]) (Some x) → ◌≡◌ {A = Option A} (elim o [ Some y ↦ Some y | None ↦ first_shown show ls ]) (Some x.1)) [
      | Some y ↦ λ e. let same : (k, y) ≡ x = cc in ap (λ (p : ℕ × A). Some p.1) same
      | None ↦ λ e. first_shown-place show (k + 1) ls x e
    ] h

-- ---- the line at a place

pub slice_get-front : {A : Type 0} (xs ys : List A) (k : ℕ) → k < length xs → slice_get (xs ++ ys) k ≡ slice_get xs k
slice_get-front [] ys k h = absurd (omega arith)
slice_get-front (x ∷ xs) ys zero h = refl
slice_get-front (x ∷ xs) ys (suc k) h = slice_get-front xs ys k (omega arith)

pub slice_get-back : {A : Type 0} (xs ys : List A) (k : ℕ) → slice_get (xs ++ ys) (length xs + k) ≡ slice_get ys k
slice_get-back [] ys k = let e : 0 + k ≡ k = omega arith in ap (slice_get ys) e
slice_get-back (x ∷ xs) ys k =
    let e : suc (length xs) + k ≡ suc (length xs + k) = omega arith in
    ap (slice_get (x ∷ (xs ++ ys))) e ∙ slice_get-back xs ys k

-- a place before the end of the first list, or one of the second
pub data Within {A : Type 0} (xs ys : List A) (k : ℕ) : Type 0 where
  front : k < length xs → Within xs ys k
  back : (j : ℕ) → k ≡ length xs + j → Within xs ys k

pub within : {A : Type 0} (xs ys : List A) (k : ℕ) → Within xs ys k
within [] ys k = back k (omega arith)
within (x ∷ xs) ys zero = front (omega arith)
within (x ∷ xs) ys (suc k) = elim (within xs ys k) [ front h ↦ front (omega arith) | back j e ↦ back j (omega arith) ]
