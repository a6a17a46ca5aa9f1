-- Lines of a transcript, read from the first on.
use Rattle.std.proofs.Common.{◌≡◌, ℕ, ◌+◌, ◌<◌, ◌≤◌, ◌==◌, Bool, true, false, if◌then◌else◌, List, [], ◌∷◌, ◌++◌, length, Option, Some, None, refl, ap, sym, ◌∙◌, arith, append_assoc}
use Rattle.std.specs.List.{onto_first}
use Rattle.std.specs.Prelude.{Result, Ok, Err, IfErr}
use Rattle.std.proofs.lemmas.Bool.{le-ltb}
use Rattle.std.proofs.lemmas.List.{take_all}
use Rattle.zt_lines.specs.declared.transcript.TranscriptFault.{TranscriptFault}
use Rattle.zt_lines.specs.declared.transcript.TranscriptFault.TheVariants.{Unreadable, Memory}
use Rattle.zt_lines.specs.Outcomes.{IsFaultOf, IsUnread}
use Rattle.zk_transcript.specs.declared.transcript.TranscriptLine.{TranscriptLine}
use Rattle.zt_text.specs.Scripts.{pieces, max_script}
use Rattle.zt_text.proofs.PieceLaws.{pieces-some}
use Rattle.zt_lines.specs.Lines.{line_read}
use Rattle.zt_lines.specs.Transcripts.{Transcript, is_last_line, last_line, lines_from, nothing_after, onto, then_lines, transcript}

-- something follows the last line
pub nothing_after-some : (is_cut : Bool) (n : ℕ) (bytes : List ℕ) → 0 < length bytes → (nothing_after is_cut n (pieces 10 bytes)).1 ≡ Some n
nothing_after-some true n bytes some = refl
nothing_after-some false n [] some = absurd (omega arith)
nothing_after-some false n (b ∷ bs) some =
    let rest = pieces-some 10 bs in
    elim (b == 10) as (λ (t : Bool). (nothing_after false n (if t then [] ∷ pieces 10 bs else onto_first b (pieces 10 bs))).1 ≡ Some n) [
      | true ↦ rw rest.2 refl
      | false ↦ rw rest.2 refl
    ]

abbrev following : Bool → ℕ → List ℕ → List (List ℕ) → Transcript
following is_cut n line ps = if is_last_line line then nothing_after is_cut (n + 1) ps else then_lines n (line_read line) (lines_from is_cut (n + 1) ps)

lines_from-parted : (is_cut : Bool) (n : ℕ) (bytes line after : List ℕ) → pieces 10 bytes ≡ line ∷ pieces 10 after →
    lines_from is_cut n (pieces 10 bytes) ≡ following is_cut n line (pieces 10 after)
lines_from-parted is_cut n bytes line after is =
    let some = pieces-some 10 after in
    ap (lines_from is_cut n) (is ∙ ap (λ (ps : List (List ℕ)). line ∷ ps) some.2) ∙ ap (following is_cut n line) (sym some.2)

pub lines_from-last : (is_cut : Bool) (n : ℕ) (bytes line after : List ℕ) → pieces 10 bytes ≡ line ∷ pieces 10 after → is_last_line line ≡ true →
    lines_from is_cut n (pieces 10 bytes) ≡ nothing_after is_cut (n + 1) (pieces 10 after)
lines_from-last is_cut n bytes line after is last = lines_from-parted is_cut n bytes line after is ∙ rw last refl

pub lines_from-first : (is_cut : Bool) (n : ℕ) (bytes line after : List ℕ) → pieces 10 bytes ≡ line ∷ pieces 10 after → is_last_line line ≡ false →
    lines_from is_cut n (pieces 10 bytes) ≡ then_lines n (line_read line) (lines_from is_cut (n + 1) (pieces 10 after))
lines_from-first is_cut n bytes line after is more = lines_from-parted is_cut n bytes line after is ∙ rw more refl

pub lines_from-rest : (is_cut : Bool) (n : ℕ) (bytes : List ℕ) → pieces 10 bytes ≡ bytes ∷ [] → lines_from is_cut n (pieces 10 bytes) ≡ last_line is_cut n bytes
lines_from-rest is_cut n bytes is = ap (lines_from is_cut n) is

-- one line more
pub lines_from-more : (is_cut : Bool) (n : ℕ) (bytes line after : List ℕ) (lines : List TranscriptLine) (l : TranscriptLine) → pieces 10 bytes ≡ line ∷ pieces 10 after → is_last_line line ≡ false → line_read line ≡ Some l →
    onto lines (lines_from is_cut n (pieces 10 bytes)) ≡ onto (lines ++ l ∷ []) (lines_from is_cut (n + 1) (pieces 10 after))
lines_from-more is_cut n bytes line after lines l is more read =
    let later = lines_from is_cut (n + 1) (pieces 10 after) in
    ap (onto lines) (lines_from-first is_cut n bytes line after is more ∙ ap (λ (o : Option TranscriptLine). then_lines n o later) read)
    ∙ ap (λ (ls : List TranscriptLine). (ls, later.1)) (sym (append_assoc lines (l ∷ []) later.0))

-- a line that can't be read
pub lines_from-unread : (is_cut : Bool) (n : ℕ) (bytes line after : List ℕ) → pieces 10 bytes ≡ line ∷ pieces 10 after → is_last_line line ≡ false → line_read line ≡ None →
    (lines_from is_cut n (pieces 10 bytes)).1 ≡ Some n
lines_from-unread is_cut n bytes line after is more unread =
    ap (λ (t : Transcript). t.1) (lines_from-first is_cut n bytes line after is more ∙ ap (λ (o : Option TranscriptLine). then_lines n o (lines_from is_cut (n + 1) (pieces 10 after))) unread)

-- ---- the fault of a transcript

-- these say the same fault
pub same_fault : {A : Type 0} (r : Result A TranscriptFault) (a b : Transcript) → a.1 ≡ b.1 → IfErr r (IsFaultOf a) → IfErr r (IsFaultOf b)
same_fault (Ok x) a b same is = is
same_fault (Err (Unreadable n)) a b same is = sym same ∙ is
same_fault (Err Memory) a b same is = is

pub fault-last : (is_cut : Bool) (n m : ℕ) (bytes rest line after : List ℕ) (lines : List TranscriptLine) → lines_from is_cut 1 (pieces 10 bytes) ≡ onto lines (lines_from is_cut n (pieces 10 rest)) →
    pieces 10 rest ≡ line ∷ pieces 10 after → is_last_line line ≡ true → m ≡ n + 1 → (nothing_after is_cut m (pieces 10 after)).1 ≡ (lines_from is_cut 1 (pieces 10 bytes)).1
fault-last is_cut n m bytes rest line after lines told is last next =
    ap (λ (k : ℕ). (nothing_after is_cut k (pieces 10 after)).1) next ∙ ap (λ (t : Transcript). t.1) (sym (lines_from-last is_cut n rest line after is last)) ∙ ap (λ (t : Transcript). t.1) (sym told)

pub fault-unread : (is_cut : Bool) (n : ℕ) (bytes rest line after : List ℕ) (lines : List TranscriptLine) (e : TranscriptFault) → lines_from is_cut 1 (pieces 10 bytes) ≡ onto lines (lines_from is_cut n (pieces 10 rest)) →
    pieces 10 rest ≡ line ∷ pieces 10 after → is_last_line line ≡ false → IsUnread n (line_read line) e → IsFaultOf (lines_from is_cut 1 (pieces 10 bytes)) e
fault-unread is_cut n bytes rest line after lines (Unreadable k) told is more unread =
    ap (λ (t : Transcript). t.1) told ∙ lines_from-unread is_cut n rest line after is more unread.1 ∙ ap (λ (m : ℕ). Some m) (sym unread.0)
fault-unread is_cut n bytes rest line after lines Memory told is more unread = tt

-- ---- the whole text

pub transcript-short : (bytes : List ℕ) → length bytes ≤ max_script → transcript bytes ≡ lines_from false 1 (pieces 10 bytes)
unfolding transcript
transcript-short bytes short =
    let whole = take_all max_script bytes short in
    let uncut = le-ltb max_script (length bytes) short in
    rw (whole, uncut) refl

-- a line that is added to those before it
pub lines_from-further : (is_cut : Bool) (n m : ℕ) (bytes rest line after : List ℕ) (lines more : List TranscriptLine) (l : TranscriptLine) → lines_from is_cut 1 (pieces 10 bytes) ≡ onto lines (lines_from is_cut n (pieces 10 rest)) →
    pieces 10 rest ≡ line ∷ pieces 10 after → is_last_line line ≡ false → line_read line ≡ Some l → more ≡ lines ++ l ∷ [] → m ≡ n + 1 →
    lines_from is_cut 1 (pieces 10 bytes) ≡ onto more (lines_from is_cut m (pieces 10 after))
lines_from-further is_cut n m bytes rest line after lines more l told is further read more_is next =
    told ∙ lines_from-more is_cut n rest line after lines l is further read ∙ ap (λ (ls : List TranscriptLine). onto ls (lines_from is_cut (n + 1) (pieces 10 after))) (sym more_is)
    ∙ ap (λ (k : ℕ). onto more (lines_from is_cut k (pieces 10 after))) (sym next)
