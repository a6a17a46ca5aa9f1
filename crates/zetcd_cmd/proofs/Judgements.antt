-- What was judged of a text, from the reads of its source and the writes to its sink.
use Rattle.std.proofs.Common.{◌≡◌, ℕ, ◌+◌, ◌<◌, ◌⊎◌, List, [], ◌∷◌, length, take, refl, sym, ap, ◌∙◌, subst, inl, inr}
use Rattle.std.specs.Prelude.{Option, Some, None, Bool, true, false, is_some, if◌then◌else◌}
use Rattle.std.proofs.lemmas.Bool.{lt-ltb}
use Rattle.zk_transcript.specs.declared.transcript.TranscriptLine.{TranscriptLine}
use Rattle.zt_lines.specs.Lines.{line_read}
use Rattle.zt_lines.specs.Transcripts.{Transcript, is_last_line, lines_from, nothing_after, then_lines, transcript}
use Rattle.zt_text.specs.Scripts.{max_script, pieces}
use Rattle.zt_text.proofs.PieceLaws.{pieces-some}
use Rattle.zx_outside.specs.Reading.{Gives}
use Rattle.zx_outside.proofs.Streams.{append_known-nil}
use Rattle.zetcd_cmd.specs.declared.judge.Reading.{Reading}
use Rattle.zetcd_cmd.specs.declared.judge.Reading.TheVariants as reading
use Rattle.zetcd_cmd.specs.declared.status.Status.{Status}
use Rattle.zetcd_cmd.specs.declared.status.Status.TheVariants as status
use Rattle.zetcd_cmd.specs.Judged.{Finds}
use Rattle.zetcd_cmd.specs.Judging.{IsReadWhole, TellsVerdict}
use Rattle.zetcd_cmd.specs.Outcomes.{Did, IsAtItsEnd, JudgeWrites, Judges}

-- ---- a text that is too long

then_lines-unread : (n : ℕ) (o : Option TranscriptLine) (later : Transcript) → is_some later.1 ≡ true → is_some (then_lines n o later).1 ≡ true
then_lines-unread n None later h = refl
then_lines-unread n (Some l) later h = h

cut-unread : (n : ℕ) (p : List ℕ) (ps : List (List ℕ)) → is_some (lines_from true n (p ∷ ps)).1 ≡ true
cut-unread n p [] = refl
cut-unread n p (q ∷ ps) =
    elim (is_last_line p) as (λ b. is_some (if b then nothing_after true (n + 1) (q ∷ ps) else then_lines n (line_read p) (lines_from true (n + 1) (q ∷ ps))).1 ≡ true) [
      | true ↦ refl
      | false ↦ then_lines-unread n (line_read p) (lines_from true (n + 1) (q ∷ ps)) (cut-unread (n + 1) q ps)
    ]

-- one of its lines can't be read
long-unread : (text : List ℕ) → max_script < length text → is_some (transcript text).1 ≡ true
unfolding transcript
long-unread text long =
    let some = pieces-some 10 (take max_script text) in
    ap (λ (b : Bool). is_some (lines_from b 1 (pieces 10 (take max_script text))).1) (lt-ltb max_script (length text) long)
    ∙ ap (λ (ps : List (List ℕ)). is_some (lines_from true 1 ps).1) some.2
    ∙ cut-unread 1 some.0 some.1

read-whole : (text : List ℕ) (lines : List TranscriptLine) → max_script < length text → transcript text ≡ (lines, None) → ⊥
read-whole text lines long read =
    let no : is_some {T = ℕ} None ≡ true = ap (λ (t : Transcript). is_some t.1) (sym read) ∙ long-unread text long in
    cc

-- ---- what is found of a text that was read to its end, or is too long

writes : (s : Status) (ended : Bool) (left : Option (List ℕ)) (text output : List ℕ) → IsAtItsEnd ended left ⊎ (max_script < length text) → Finds s text output → JudgeWrites s ended left text output
writes status.Done ended left text output (inl whole) finds = (whole, finds)
writes status.Done ended left text output (inr long) finds = absurd (read-whole text finds.lines long finds.read)
writes status.Unlawful ended left text output (inl whole) finds = (whole, finds)
writes status.Unlawful ended left text output (inr long) finds = absurd (read-whole text finds.2.lines long finds.2.read)
writes (status.Script n) ended left text output (inl whole) finds = (inl whole, finds)
writes (status.Script n) ended left text output (inr long) finds = (inr long, finds)
writes status.Usage ended left text output settled finds = absurd finds
writes status.ReadFault ended left text output settled finds = absurd finds
writes status.WriteFault ended left text output settled finds = absurd finds
writes status.Memory ended left text output settled finds = absurd finds
writes status.Net ended left text output settled finds = absurd finds
writes (status.Feed end) ended left text output settled finds = absurd finds

pub Did-judged : (s : Status) (text : List ℕ) (ended : Bool) (given given' left left' taken taken' : Option (List ℕ)) → Gives text given given' left left' →
    IsAtItsEnd ended left' ⊎ (max_script < length text) → TellsVerdict s text taken taken' → Did (Judges s ended left') given given' left left' taken taken'
Did-judged status.Done text ended given given' left left' taken taken' gives settled tells =
    record { read = text; output = tells.0; gives = gives; takes = tells.2; holds = writes status.Done ended left' text tells.0 settled tells.1 }
Did-judged status.Unlawful text ended given given' left left' taken taken' gives settled tells =
    record { read = text; output = tells.0; gives = gives; takes = tells.2; holds = writes status.Unlawful ended left' text tells.0 settled tells.1 }
Did-judged (status.Script n) text ended given given' left left' taken taken' gives settled tells =
    record { read = text; output = tells.0; gives = gives; takes = tells.2; holds = writes (status.Script n) ended left' text tells.0 settled tells.1 }
Did-judged status.WriteFault text ended given given' left left' taken taken' gives settled tells =
    let some = tells.3 in
    record {
      read = text;
      output = some.0;
      gives = gives;
      takes = some.3;
      holds = (tells.0, tells.1, some.1, writes tells.0 ended left' text tells.1 settled tells.2, some.2);
    }
Did-judged status.Memory text ended given given' left left' taken taken' gives settled tells =
    record { read = text; output = []; gives = gives; takes = tells ∙ sym (append_known-nil taken); holds = refl }
Did-judged status.Usage text ended given given' left left' taken taken' gives settled tells = absurd tells.1
Did-judged status.ReadFault text ended given given' left left' taken taken' gives settled tells = absurd tells.1
Did-judged status.Net text ended given given' left left' taken taken' gives settled tells = absurd tells.1
Did-judged (status.Feed end) text ended given given' left left' taken taken' gives settled tells = absurd tells.1

-- it came whole
Did-whole : (how : Reading) (s : Status) (text shown : List ℕ) (ended : Bool) (given given' left left' taken taken' : Option (List ℕ)) → how ≡ reading.Whole → shown ≡ text →
    IsReadWhole how text ended given given' left left' → TellsVerdict s shown taken taken' → Did (Judges s ended left') given given' left left' taken taken'
Did-whole how s text shown ended given given' left left' taken taken' is same read tells =
    let whole = subst (λ (h : Reading). IsReadWhole h text ended given given' left left') is read in
    Did-judged s text ended given given' left left' taken taken' (subst (λ (t : List ℕ). Gives t given given' left left') whole.2.1 whole.1) (inl whole.2.0)
    (subst (λ (t : List ℕ). TellsVerdict s t taken taken') same tells)

-- it was too long
Did-long : (how : Reading) (s : Status) (text shown : List ℕ) (ended : Bool) (given given' left left' taken taken' : Option (List ℕ)) → how ≡ reading.TooLong → shown ≡ text →
    IsReadWhole how text ended given given' left left' → TellsVerdict s shown taken taken' → Did (Judges s ended left') given given' left left' taken taken'
Did-long how s text shown ended given given' left left' taken taken' is same read tells =
    let long = subst (λ (h : Reading). IsReadWhole h text ended given given' left left') is read in
    Did-judged s text ended given given' left left' taken taken' (subst (λ (t : List ℕ). Gives t given given' left left') long.2.1 long.1) (inr long.2.0)
    (subst (λ (t : List ℕ). TellsVerdict s t taken taken') same tells)

pub Did-read : (how : Reading) (s : Status) (text shown : List ℕ) (ended : Bool) (given given' left left' taken taken' : Option (List ℕ)) → (how ≡ reading.Whole) ⊎ (how ≡ reading.TooLong) → shown ≡ text →
    IsReadWhole how text ended given given' left left' → TellsVerdict s shown taken taken' → Did (Judges s ended left') given given' left left' taken taken'
Did-read how s text shown ended given given' left left' taken taken' (inl is) same read tells = Did-whole how s text shown ended given given' left left' taken taken' is same read tells
Did-read how s text shown ended given given' left left' taken taken' (inr is) same read tells = Did-long how s text shown ended given given' left left' taken taken' is same read tells
