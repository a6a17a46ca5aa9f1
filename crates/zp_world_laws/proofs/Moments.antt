-- The moment of a revision, and the state then, when a line is added.
use Rattle.std.proofs.Common.{◌≡◌, ℕ, ◌+◌, ◌≤◌, ◌<◌, List, [], ◌∷◌, ◌++◌, length, take, refl, sym, ap, ◌∙◌, arith, Bool, true, false, ℤ, pos, inl, inr}
use Rattle.std.specs.Prelude.{◌⊎◌, if◌then◌else◌, nat_lt, nat_le, int_le, ◌+ℤ◌}
use Rattle.std.proofs.Math.Seq.{take-length}
use Rattle.std.proofs.lemmas.Bool.Decides.{nat_tests}
use Rattle.std.proofs.lemmas.Int.{ints}
use Rattle.std.proofs.lemmas.List.{length-append}
use Rattle.zk_transcript.proofs.Walks.{state_at-push}
use Rattle.zk_transcript.specs.History.{after, state_at}
use Rattle.zk_transcript.specs.declared.transcript.TranscriptLine.{TranscriptLine}
use Rattle.zp_world_laws.specs.Serving.{is_up_to, line_revision, moment_from, moment_of}

moment_from-push : (r : ℤ) (k last : ℕ) (ls : List TranscriptLine) (l : TranscriptLine)
    → moment_from r k last (ls ++ l ∷ []) ≡ (if is_up_to r (line_revision l) then k + length ls + 1 else moment_from r k last ls)
moment_from-push r k last [] l = ap (λ n. if is_up_to r (line_revision l) then n + 1 else last) (omega arith)
moment_from-push r k last (x ∷ ls) l =
    moment_from-push r (k + 1) (if is_up_to r (line_revision x) then k + 1 else last) ls l
    ∙ ap (λ n. if is_up_to r (line_revision l) then n else moment_from r (k + 1) (if is_up_to r (line_revision x) then k + 1 else last) ls) (omega arith)

pub moment_of-push : (lines : List TranscriptLine) (l : TranscriptLine) (r : ℤ)
    → moment_of (lines ++ l ∷ []) r ≡ (if is_up_to r (line_revision l) then length lines + 1 else moment_of lines r)
moment_of-push lines l r = moment_from-push r 0 0 lines l ∙ ap (λ n. if is_up_to r (line_revision l) then n + 1 else moment_of lines r) (omega arith)

if-bound : (b : Bool) (m n k : ℕ) → m ≤ k → n ≤ k → (if b then m else n) ≤ k
if-bound true m n k h e = h
if-bound false m n k h e = e

moment_from-bound : (r : ℤ) (k last : ℕ) (ls : List TranscriptLine) → last ≤ k → moment_from r k last ls ≤ k + length ls
moment_from-bound r k last [] h = omega (arith, h)
moment_from-bound r k last (l ∷ ls) h =
    omega (arith, moment_from-bound r (k + 1) (if is_up_to r (line_revision l) then k + 1 else last) ls (if-bound (is_up_to r (line_revision l)) (k + 1) last (k + 1) (omega arith) (omega (arith, h))))

pub moment_of-bound : (lines : List TranscriptLine) (r : ℤ) → moment_of lines r ≤ length lines
moment_of-bound lines r = omega (arith, moment_from-bound r 0 0 lines (omega arith))

-- the state at an older revision is what it was
pub older : (lines : List TranscriptLine) (l : TranscriptLine) (r : ℕ) → is_up_to (pos r) (line_revision l) ≡ false → state_at (lines ++ l ∷ []) (moment_of (lines ++ l ∷ []) (pos r)) ≡ state_at lines (moment_of lines (pos r))
older lines l r h =
    ap (state_at (lines ++ l ∷ [])) (moment_of-push lines l (pos r) ∙ ap (λ b. if b then length lines + 1 else moment_of lines (pos r)) h)
    ∙ state_at-push lines (l ∷ []) (moment_of lines (pos r)) (moment_of-bound lines (pos r))

pub whole : (lines : List TranscriptLine) (l : TranscriptLine) → state_at (lines ++ l ∷ []) (length lines + 1) ≡ after (lines ++ l ∷ [])
whole lines l = ap after (ap (λ n. take n (lines ++ l ∷ [])) (sym (length-append lines (l ∷ []))) ∙ take-length (lines ++ l ∷ []))

-- and from the line's own revision on it is that after all lines
pub newer : (lines : List TranscriptLine) (l : TranscriptLine) (r : ℕ) → is_up_to (pos r) (line_revision l) ≡ true → state_at (lines ++ l ∷ []) (moment_of (lines ++ l ∷ []) (pos r)) ≡ after (lines ++ l ∷ [])
newer lines l r h =
    ap (state_at (lines ++ l ∷ [])) (moment_of-push lines l (pos r) ∙ ap (λ b. if b then length lines + 1 else moment_of lines (pos r)) h)
    ∙ whole lines l

pub le-or-next : (r n : ℕ) → r ≤ n + 1 → (r ≤ n) ⊎ (r ≡ n + 1)
le-or-next r n h = go (nat_le r n) refl
  where
    go : (b : Bool) → nat_le r n ≡ b → (r ≤ n) ⊎ (r ≡ n + 1)
    go true e = inl (grind (arith, nat_tests))
    go false e = inr (grind (arith, nat_tests))

pub below-or-last : (r n : ℕ) → r ≤ n → (r < n) ⊎ (r ≡ n)
below-or-last r n h = go (nat_lt r n) refl
  where
    go : (b : Bool) → nat_lt r n ≡ b → (r < n) ⊎ (r ≡ n)
    go true e = inl (grind (arith, nat_tests))
    go false e = inr (grind (arith, nat_tests))

pub beyond : (r len : ℕ) → r ≤ len → int_le (pos len +ℤ pos 1) (pos r) ≡ false
beyond r len h = grind (arith, nat_tests, ints)

pub reached : (r len : ℕ) → len + 1 ≤ r → int_le (pos len +ℤ pos 1) (pos r) ≡ true
reached r len h = grind (arith, nat_tests, ints)
