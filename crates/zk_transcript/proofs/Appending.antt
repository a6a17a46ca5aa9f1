-- What one more line does to states, legality and look-ups.
use Rattle.std.proofs.Common.{◌≡◌, ℕ, ◌+◌, List, [], ◌∷◌, ◌++◌, sym, ap, ◌∙◌, append_assoc, append-nil, true}
use Rattle.std.specs.Prelude.{Option, Some, None, ◌&&◌}
use Rattle.std.proofs.lemmas.Bool.{and_parts}
use Rattle.std.proofs.Math.Bool.{and-true, and_assoc}
use Rattle.zk_transcript.specs.declared.transcript.TranscriptLine.{TranscriptLine}
use Rattle.zk_transcript.specs.declared.transcript.TranscriptLine.TheVariants.{Update, Open, Frame, Send, Lapse, Close}
use Rattle.zk_service.specs.States.{State, nothing_yet}
use Rattle.zk_transcript.specs.History.{after, after_from, change, first_place}
use Rattle.zk_transcript.specs.Legal.{begins, is_legal, is_legal_from, is_legal_line, is_ordered, is_ordered_from, is_in_order}

after_from-push : (before : List TranscriptLine) (s : State) (ls : List TranscriptLine) (l : TranscriptLine)
    → after_from before s (ls ++ l ∷ []) ≡ change (before ++ ls) (after_from before s ls) l
after_from-push before s [] l = ap (λ b. change b s l) (sym (append-nil before))
after_from-push before s (x ∷ ls) l =
    after_from-push (before ++ x ∷ []) (change before s x) ls l
    ∙ ap (λ b. change b (after_from (before ++ x ∷ []) (change before s x) ls) l) (append_assoc before (x ∷ []) ls)

pub after-push : (ls : List TranscriptLine) (l : TranscriptLine) → after (ls ++ l ∷ []) ≡ change ls (after ls) l
unfolding after
after-push ls l = after_from-push [] nothing_yet ls l

is_legal_from-push : (before : List TranscriptLine) (s : State) (ls : List TranscriptLine) (l : TranscriptLine)
    → is_legal_from before s (ls ++ l ∷ []) ≡ (is_legal_from before s ls && is_legal_line (before ++ ls) (after_from before s ls) l)
is_legal_from-push before s [] l = and-true _ ∙ ap (λ b. is_legal_line b s l) (sym (append-nil before))
is_legal_from-push before s (x ∷ ls) l =
    ap (λ b. is_legal_line before s x && b) (is_legal_from-push (before ++ x ∷ []) (change before s x) ls l
    ∙ ap (λ b. is_legal_from (before ++ x ∷ []) (change before s x) ls && is_legal_line b (after_from (before ++ x ∷ []) (change before s x) ls) l) (append_assoc before (x ∷ []) ls))
    ∙ sym (and_assoc (is_legal_line before s x) (is_legal_from (before ++ x ∷ []) (change before s x) ls) _)

begins-push : (ls : List TranscriptLine) (l : TranscriptLine) → begins ls ≡ true → begins (ls ++ l ∷ []) ≡ true
begins-push [] l h = absurd (cc)
begins-push (Update u ∷ ls) l h = h
begins-push (Lapse revision id ∷ ls) l h = absurd (cc)
begins-push (Open c proxy id passwd layout ∷ ls) l h = begins-push ls l h
begins-push (Frame c i z bytes ∷ ls) l h = begins-push ls l h
begins-push (Send c bytes ∷ ls) l h = begins-push ls l h
begins-push (Close c end ∷ ls) l h = begins-push ls l h

pub is_legal-push : (ls : List TranscriptLine) (l : TranscriptLine) → is_legal ls ≡ true → is_legal_line ls (after ls) l ≡ true → is_legal (ls ++ l ∷ []) ≡ true
unfolding is_legal after
is_legal-push ls l legal line =
    let both = and_parts (begins ls) (is_legal_from [] nothing_yet ls) legal in
    rw (begins-push ls l both.0, is_legal_from-push [] nothing_yet ls l, both.1) line

is_ordered_from-push : (before ls : List TranscriptLine) (l : TranscriptLine) → is_ordered_from before (ls ++ l ∷ []) ≡ (is_ordered_from before ls && is_in_order (before ++ ls) l)
is_ordered_from-push before [] l = and-true _ ∙ ap (λ b. is_in_order b l) (sym (append-nil before))
is_ordered_from-push before (x ∷ ls) l =
    ap (λ b. is_in_order before x && b) (is_ordered_from-push (before ++ x ∷ []) ls l
    ∙ ap (λ b. is_ordered_from (before ++ x ∷ []) ls && is_in_order b l) (append_assoc before (x ∷ []) ls))
    ∙ sym (and_assoc (is_in_order before x) (is_ordered_from (before ++ x ∷ []) ls) _)

pub is_ordered-push : (ls : List TranscriptLine) (l : TranscriptLine) → is_ordered ls ≡ true → is_in_order ls l ≡ true → is_ordered (ls ++ l ∷ []) ≡ true
unfolding is_ordered
is_ordered-push ls l ordered line = rw (is_ordered_from-push [] ls l, ordered) line

-- what was found stays found, at the same place
pub first_place-push : {A : Type 0} (show : TranscriptLine → Option A) (k : ℕ) (ls more : List TranscriptLine) (x : ℕ × A)
    → first_place show k ls ≡ Some x → first_place show k (ls ++ more) ≡ Some x
first_place-push show k [] more x h = cc
first_place-push {A} show k (l ∷ ls) more x h =
    elim (show l) as (λ o. (elim o [ Some y ↦ Some (k, y) | None ↦ first_place show (k + 1) ls ]) ≡ Some x → (elim o [ Some y ↦ Some (k, y) | None ↦ first_place show (k + 1) (ls ++ more) ]) ≡ Some x) [
      | Some y ↦ λ e. e
      | None ↦ λ e. first_place-push show (k + 1) ls more x e
    ] h
