-- The text of a transcript is read back as its lines.
use Rattle.std.proofs.Common.{◌≡◌, ℕ, ◌+◌, ◌<◌, ◌≤◌, true, false, List, [], ◌∷◌, ◌++◌, Option, Some, None, refl, ap, subst, ◌∙◌}
use Rattle.std.specs.List.{AllByRecursion}
use Rattle.std.specs.Prelude.{codes, decimal}
use Rattle.std.proofs.lemmas.List.{append_assoc, append-nil}
use Rattle.zk_transcript.specs.declared.transcript.TranscriptLine.{TranscriptLine}
use Rattle.zt_text.specs.declared.script.Unread.{Unread}
use Rattle.zt_text.specs.declared.script.Why.{Why}
use Rattle.zt_text.specs.Faults.{done_text, fault_text, unread_text, why_text}
use Rattle.zt_text.specs.Scripts.{Lacks, pieces}
use Rattle.zt_text.specs.Transcripts.{line_words, spaced, transcript_text}
use Rattle.zt_text.proofs.PieceLaws.{pieces-first}
use Rattle.zt_text.proofs.TranscriptLaws.{Lacks-line, transcript_text-cons}
use Rattle.zt_lines.specs.Readable.{IsReadable, IsReadBack}
use Rattle.zt_lines.specs.Transcripts.{is_last_line, is_reason, lines_from, then_lines}
use Rattle.zt_lines.specs.Words.{max_place}
use Rattle.zt_lines.proofs.LastLines.{Lacks-fault, Lacks-tested, Lacks-unread_text, Lacks-why_text, is_last_line-done, is_last_line-fault, is_last_line-line_words, is_reason-unread_text, is_reason-why_text}
use Rattle.zt_lines.proofs.LineLaws.{lines_from-first, lines_from-last, transcript-short}
use Rattle.zt_lines.proofs.WrittenLines.{line_read-line_words}

-- bytes in which no line stands, whatever the number of the first
abbrev IsEnd : List ℕ → Type 0
IsEnd bytes = (n : ℕ) → lines_from false n (pieces 10 bytes) ≡ ([], None)

pieces-text : (l : TranscriptLine) (ls : List TranscriptLine) (end : List ℕ) → pieces 10 (transcript_text (l ∷ ls) ++ end) ≡ spaced (line_words l) ∷ pieces 10 (transcript_text ls ++ end)
pieces-text l ls end =
    ap (λ (bytes : List ℕ). pieces 10 (bytes ++ end)) (transcript_text-cons l ls)
    ∙ ap (pieces 10) (append_assoc (spaced (line_words l)) (10 ∷ transcript_text ls) end)
    ∙ pieces-first 10 (spaced (line_words l)) (transcript_text ls ++ end) (Lacks-line l)

lines_from-text : (n : ℕ) (lines : List TranscriptLine) (end : List ℕ) → AllByRecursion IsReadable lines → IsEnd end → lines_from false n (pieces 10 (transcript_text lines ++ end)) ≡ (lines, None)
unfolding transcript_text
lines_from-text n [] end h ends = ends n
lines_from-text n (l ∷ ls) end h ends =
    let later = lines_from false (n + 1) (pieces 10 (transcript_text ls ++ end)) in
    lines_from-first false n (transcript_text (l ∷ ls) ++ end) (spaced (line_words l)) (transcript_text ls ++ end) (pieces-text l ls end) (is_last_line-line_words l)
    ∙ ap (λ (o : Option TranscriptLine). then_lines n o later) (line_read-line_words l h.0)
    ∙ ap (then_lines n (Some l)) (lines_from-text (n + 1) ls end h.1 ends)

transcript-text : (lines : List TranscriptLine) (end : List ℕ) → AllByRecursion IsReadable lines → IsEnd end → IsReadBack (transcript_text lines ++ end) lines
transcript-text lines end h ends short = transcript-short (transcript_text lines ++ end) short ∙ lines_from-text 1 lines end h ends

-- ---- by what follows the lines

pub transcript-cut : (lines : List TranscriptLine) → AllByRecursion IsReadable lines → IsReadBack (transcript_text lines) lines
transcript-cut lines h = subst (λ (bytes : List ℕ). IsReadBack bytes lines) (append-nil (transcript_text lines)) (transcript-text lines [] h (λ n. refl))

IsEnd-line : (bytes : List ℕ) → Lacks 10 bytes → is_last_line bytes ≡ true → IsEnd (bytes ++ 10 ∷ [])
IsEnd-line bytes lacks last n = lines_from-last false n (bytes ++ 10 ∷ []) bytes [] (pieces-first 10 bytes [] lacks) last

IsEnd-fault : (n : ℕ) (reason : List ℕ) → 0 < n → n ≤ max_place → is_reason reason ≡ true → Lacks 10 reason → IsEnd (fault_text n reason)
IsEnd-fault n reason some fits known lacks =
    subst (λ (bytes : List ℕ). IsEnd bytes) (append_assoc (codes "fault " ++ decimal n) (32 ∷ reason) (10 ∷ []))
    (IsEnd-line (codes "fault " ++ decimal n ++ 32 ∷ reason) (Lacks-fault n reason lacks) (is_last_line-fault n reason some fits known))

pub transcript-done : (lines : List TranscriptLine) → AllByRecursion IsReadable lines → IsReadBack (transcript_text lines ++ done_text) lines
transcript-done lines h = transcript-text lines done_text h (IsEnd-line (codes "done") (Lacks-tested (codes "done") refl) is_last_line-done)

pub transcript-refused : (lines : List TranscriptLine) (n : ℕ) (why : Why) → AllByRecursion IsReadable lines → 0 < n → n ≤ max_place → IsReadBack (transcript_text lines ++ fault_text n (why_text why)) lines
transcript-refused lines n why h some fits =
    transcript-text lines (fault_text n (why_text why)) h (IsEnd-fault n (why_text why) some fits (is_reason-why_text why) (Lacks-why_text why))

pub transcript-unread : (lines : List TranscriptLine) (n : ℕ) (why : Unread) → AllByRecursion IsReadable lines → 0 < n → n ≤ max_place → IsReadBack (transcript_text lines ++ fault_text n (unread_text why)) lines
transcript-unread lines n why h some fits =
    transcript-text lines (fault_text n (unread_text why)) h (IsEnd-fault n (unread_text why) some fits (is_reason-unread_text why) (Lacks-unread_text why))
