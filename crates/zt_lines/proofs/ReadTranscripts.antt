-- A transcript that is read is the text of its lines.
use Rattle.std.proofs.Common.{◌≡◌, ℕ, ◌+◌, ◌<◌, ◌≤◌, Bool, true, false, inl, inr, List, [], ◌∷◌, ◌++◌, length, take, Option, Some, None, refl, sym, ap, subst, ◌∙◌, append_assoc, arith}
use Rattle.std.specs.Prelude.{IfSome, nat_lt}
use Rattle.std.specs.List.{AllByRecursion, join_with_byte}
use Rattle.std.proofs.lemmas.Bool.{cases_Bool, cond_both, ltb-false}
use Rattle.std.proofs.lemmas.List.Splits.{join_with_byte-slice_split}
use Rattle.std.proofs.lemmas.Option.{none-some}
use Rattle.zk_transcript.specs.declared.transcript.TranscriptLine.{TranscriptLine}
use Rattle.zt_text.specs.Scripts.{max_script, pieces}
use Rattle.zt_text.specs.Transcripts.{line_words, spaced, transcript_text}
use Rattle.zt_text.proofs.TranscriptLaws.{transcript_text-cons}
use Rattle.zt_text.proofs.PieceLaws.{pieces-some}
use Rattle.zt_lines.specs.Lines.{line_read}
use Rattle.zt_lines.specs.Readable.{IsLastLine, IsReadable, IsReadFrom, IsTextOf}
use Rattle.zt_lines.specs.Transcripts.{Transcript, is_last_line, last_line, lines_from, nothing_after, then_lines, transcript}
use Rattle.zt_lines.proofs.LineLaws.{transcript-short}
use Rattle.zt_lines.proofs.ReadLast.{is_last_line-written}
use Rattle.zt_lines.proofs.ReadLines.{IsLineText, line_read-written}

-- if all is read, each line is readable and P holds of the lines
abbrev IfAllRead : (List TranscriptLine → Type 0) → Transcript → Type 0
IfAllRead P t = t.1 ≡ None → AllByRecursion IsReadable t.0 × P t.0

then_lines-written : (P Q : List TranscriptLine → Type 0) (n : ℕ) (bytes : List ℕ) (o : Option TranscriptLine) (later : Transcript) → IfSome o (IsLineText bytes) → IfAllRead Q later →
    ((l : TranscriptLine) (ls : List TranscriptLine) → bytes ≡ spaced (line_words l) → Q ls → P (l ∷ ls)) → IfAllRead P (then_lines n o later)
then_lines-written P Q n bytes None later is rest more all = absurd (none-some n (sym all))
then_lines-written P Q n bytes (Some l) later is rest more all = let fine = rest all in ((is.1, fine.0), more l later.0 is.0 fine.1)

-- ---- a line more

IsTextOf-none : IsTextOf [] []
unfolding transcript_text
IsTextOf-none = ([], inl refl, refl)

IsTextOf-cons : (l : TranscriptLine) (ls : List TranscriptLine) (bytes rest : List ℕ) → bytes ≡ spaced (line_words l) → IsTextOf ls rest → IsTextOf (l ∷ ls) (bytes ++ 10 ∷ rest)
IsTextOf-cons l ls bytes rest line text =
    let whole : spaced (line_words l) ++ 10 ∷ (transcript_text ls ++ text.0) ≡ transcript_text (l ∷ ls) ++ text.0 =
    sym (ap (λ (b : List ℕ). b ++ text.0) (transcript_text-cons l ls) ∙ append_assoc (spaced (line_words l)) (10 ∷ transcript_text ls) text.0) in
    (text.0, text.1, (λ i. line i ++ 10 ∷ text.2 i) ∙ whole)

IsReadFrom-cons : (l : TranscriptLine) (ls : List TranscriptLine) (bytes rest : List ℕ) → bytes ≡ spaced (line_words l) → IsReadFrom ls rest → IsReadFrom (l ∷ ls) (bytes ++ 10 ∷ rest)
IsReadFrom-cons l ls bytes rest line (inl text) = inl (IsTextOf-cons l ls bytes rest line text)
IsReadFrom-cons l ls bytes rest line (inr text) =
    inr (subst (IsTextOf (l ∷ ls)) (sym (append_assoc bytes (10 ∷ rest) (10 ∷ []))) (IsTextOf-cons l ls bytes (rest ++ 10 ∷ []) line text))

-- ---- a text that is not too long

-- what follows the last line, after its line feed
nothing_after-written : (n : ℕ) (bytes : List ℕ) (ps : List (List ℕ)) → IsLastLine (bytes ++ 10 ∷ []) → IfAllRead (λ ls. IsReadFrom ls (bytes ++ 10 ∷ join_with_byte 10 ps)) (nothing_after false n ps)
unfolding transcript_text
nothing_after-written n bytes ([] ∷ []) last all = (tt, inl (bytes ++ 10 ∷ [], inr last, refl))
nothing_after-written n bytes [] last all = absurd (none-some n (sym all))
nothing_after-written n bytes ([] ∷ p ∷ ps) last all = absurd (none-some n (sym all))
nothing_after-written n bytes ((b ∷ bs) ∷ ps) last all = absurd (none-some n (sym all))

-- what follows the last line feed
last_line-written : (n : ℕ) (bytes : List ℕ) → IfAllRead (λ ls. IsReadFrom ls bytes) (last_line false n bytes)
unfolding transcript_text
last_line-written n [] = λ all. (tt, inl IsTextOf-none)
last_line-written n (b ∷ bs) =
    cond_both (is_last_line (b ∷ bs)) ([], None) (then_lines n (line_read (b ∷ bs)) ([], None)) (IfAllRead (λ ls. IsReadFrom ls (b ∷ bs)))
    (λ last all. (tt, inr ((b ∷ bs) ++ 10 ∷ [], inr (is_last_line-written (b ∷ bs) last), refl)))
    (λ other.
    then_lines-written (λ ls. IsReadFrom ls (b ∷ bs)) (λ ls. IsTextOf ls []) n (b ∷ bs) (line_read (b ∷ bs)) ([], None) (line_read-written (b ∷ bs)) (λ all. (tt, IsTextOf-none))
    (λ l ls line text. inr (IsTextOf-cons l ls (b ∷ bs) [] line text)))

lines_from-written : (n : ℕ) (ps : List (List ℕ)) → IfAllRead (λ ls. IsReadFrom ls (join_with_byte 10 ps)) (lines_from false n ps)
lines_from-written n [] = λ all. (tt, inl IsTextOf-none)
lines_from-written n (bytes ∷ []) = last_line-written n bytes
lines_from-written n (bytes ∷ p ∷ ps) =
    let rest = join_with_byte 10 (p ∷ ps) in
    cond_both (is_last_line bytes) (nothing_after false (n + 1) (p ∷ ps)) (then_lines n (line_read bytes) (lines_from false (n + 1) (p ∷ ps))) (IfAllRead (λ ls. IsReadFrom ls (bytes ++ 10 ∷ rest)))
    (λ last. nothing_after-written (n + 1) bytes (p ∷ ps) (is_last_line-written bytes last))
    (λ other.
    then_lines-written (λ ls. IsReadFrom ls (bytes ++ 10 ∷ rest)) (λ ls. IsReadFrom ls rest) n bytes (line_read bytes) (lines_from false (n + 1) (p ∷ ps)) (line_read-written bytes)
    (lines_from-written (n + 1) (p ∷ ps)) (λ l ls line text. IsReadFrom-cons l ls bytes rest line text))

-- ---- a text that is too long

lines_from-cut : (n : ℕ) (ps : List (List ℕ)) → 0 < length ps → IfAllRead (λ ls. ⊥) (lines_from true n ps)
lines_from-cut n [] some = absurd (omega arith)
lines_from-cut n (bytes ∷ []) some = λ all. absurd (none-some n (sym all))
lines_from-cut n (bytes ∷ p ∷ ps) some =
    cond_both (is_last_line bytes) (nothing_after true (n + 1) (p ∷ ps)) (then_lines n (line_read bytes) (lines_from true (n + 1) (p ∷ ps))) (IfAllRead (λ ls. ⊥))
    (λ last all. absurd (none-some (n + 1) (sym all)))
    (λ other. then_lines-written (λ ls. ⊥) (λ ls. ⊥) n bytes (line_read bytes) (lines_from true (n + 1) (p ∷ ps)) (line_read-written bytes) (lines_from-cut (n + 1) (p ∷ ps) (omega arith)) (λ l ls line text. text))

-- ---- the whole text

-- a text that is too long is not read to its end
transcript-long : (bytes : List ℕ) (lines : List TranscriptLine) → transcript bytes ≡ (lines, None) → nat_lt max_script (length bytes) ≡ true → ⊥
unfolding transcript
transcript-long bytes lines read long =
    let ps = pieces 10 (take max_script bytes) in
    let parts = pieces-some 10 (take max_script bytes) in
    let some : 0 < length ps = subst (λ (qs : List (List ℕ)). 0 < length qs) (sym parts.2) (omega arith) in
    (lines_from-cut 1 ps some (ap (λ (b : Bool). (lines_from b 1 ps).1) (sym long) ∙ ap (λ (t : Transcript). t.1) read)).1

abbrev IsWholeOf : List ℕ → List TranscriptLine → Type 0
IsWholeOf bytes lines = (length bytes ≤ max_script) × AllByRecursion IsReadable lines × IsReadFrom lines bytes

transcript-whole : (bytes : List ℕ) (lines : List TranscriptLine) → transcript bytes ≡ (lines, None) → length bytes ≤ max_script → IsWholeOf bytes lines
transcript-whole bytes lines read short =
    let told : lines_from false 1 (pieces 10 bytes) ≡ (lines, None) = sym (transcript-short bytes short) ∙ read in
    let fine = subst (IfAllRead (λ ls. IsReadFrom ls (join_with_byte 10 (pieces 10 bytes)))) told (lines_from-written 1 (pieces 10 bytes)) refl in
    (short, fine.0, subst (IsReadFrom lines) (join_with_byte-slice_split 10 bytes) fine.1)

pub transcript-written : (bytes : List ℕ) (lines : List TranscriptLine) → transcript bytes ≡ (lines, None) → IsWholeOf bytes lines
transcript-written bytes lines read = elim (cases_Bool (nat_lt max_script (length bytes))) [
  | inl long ↦ absurd (transcript-long bytes lines read long)
  | inr within ↦ transcript-whole bytes lines read (ltb-false max_script (length bytes) within)
]
