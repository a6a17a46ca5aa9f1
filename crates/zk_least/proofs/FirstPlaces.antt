-- What stands at the first place that shows something.
use Rattle.std.proofs.Common.{◌≡◌, ℕ, zero, suc, ◌+◌, ◌<◌, List, [], ◌∷◌, refl, sym, ap, ◌∙◌, arith}
use Rattle.std.specs.Prelude.{Option, Some, None, slice_get}
use Rattle.zk_transcript.specs.declared.transcript.TranscriptLine.{TranscriptLine}
use Rattle.zk_transcript.specs.History.{first_place}

-- the line at the first place shows what was found, and none before it shows anything
pub record IsFirstAt {A : Type 0} (show : TranscriptLine → Option A) (k : ℕ) (ls : List TranscriptLine) (x : ℕ × A) : Type 0 where
  pub place : ℕ
  pub line : TranscriptLine
  pub at : k + place ≡ x.0
  pub there : slice_get ls place ≡ Some line
  pub shown : show line ≡ Some x.1
  pub before : (j : ℕ) (l : TranscriptLine) → j < place → slice_get ls j ≡ Some l → show l ≡ None

pub first_place-at : {A : Type 0} (show : TranscriptLine → Option A) (k : ℕ) (ls : List TranscriptLine) (x : ℕ × A) → first_place show k ls ≡ Some x → IsFirstAt show k ls x
first_place-at show k [] x h = absurd (cc)
first_place-at {A} show k (l ∷ ls) x h = by (show l) refl (first_place-at show (k + 1) ls x) h
  where
    later : show l ≡ None → IsFirstAt show (k + 1) ls x → (j : ℕ) (m : TranscriptLine) (n : ℕ) → ((i : ℕ) (b : TranscriptLine) → i < n → slice_get ls i ≡ Some b → show b ≡ None) → j < suc n → slice_get (l ∷ ls) j ≡ Some m → show m ≡ None
    later f r zero m n none lt e = let s : l ≡ m = cc in ap show (sym s) ∙ f
    later f r (suc j) m n none lt e = none j m (omega (arith, lt)) e

    by : (o : Option A) → show l ≡ o → (first_place show (k + 1) ls ≡ Some x → IsFirstAt show (k + 1) ls x) → (elim o [ Some y ↦ Some (k, y) | None ↦ first_place show (k + 1) ls ]) ≡ Some x → IsFirstAt show k (l ∷ ls) x
    by (Some y) f ih t =
        let s : (k, y) ≡ x = cc in
        record { place = 0; line = l; at = omega (arith, ap (λ (p : ℕ × A). p.0) s); there = refl; shown = f ∙ ap (λ (p : ℕ × A). Some p.1) s; before = λ j m lt e. absurd (omega (arith, lt)) }
    by None f ih t =
        let r = ih t in
        let at = r.at in
        record { place = suc r.place; line = r.line; at = omega (arith, at); there = r.there; shown = r.shown; before = λ j m lt e. later f r j m r.place r.before lt e }

pub first_place-none : {A : Type 0} (show : TranscriptLine → Option A) (k : ℕ) (ls : List TranscriptLine) → first_place show k ls ≡ None → (j : ℕ) (l : TranscriptLine) → slice_get ls j ≡ Some l → show l ≡ None
first_place-none show k [] h j l e = absurd (cc)
first_place-none {A} show k (x ∷ ls) h j l e = by (show x) refl (first_place-none show (k + 1) ls) h j e
  where
    by : (o : Option A) → show x ≡ o → (first_place show (k + 1) ls ≡ None → (i : ℕ) (m : TranscriptLine) → slice_get ls i ≡ Some m → show m ≡ None)
        → ◌≡◌ {A = Option (ℕ × A)} (elim o [ Some y ↦ Some (k, y) | None ↦ first_place show (k + 1) ls ]) None → (i : ℕ) → slice_get (x ∷ ls) i ≡ Some l → show l ≡ None
    by (Some y) f ih t i at = absurd (cc)
    by None f ih t zero at = let s : x ≡ l = cc in ap show (sym s) ∙ f
    by None f ih t (suc i) at = ih t i l at
