-- Which lines are a transcript's last: `done` and the fault of a script's line, but no line that says what happened.
use Rattle.std.proofs.Common.{◌≡◌, ℕ, ◌<◌, ◌≤◌, ◌==◌, true, false, not, List, [], ◌∷◌, ◌++◌, Option, Some, None, refl, ap, ◌∙◌, arith}
use Rattle.std.specs.Prelude.{Bool, bytes_eq, codes, decimal}
use Rattle.std.specs.Fmt.{signed_decimal}
use Rattle.std.specs.List.{list_all}
use Rattle.std.proofs.lemmas.Bool.{and_parts, lt-ltb, not-true, or_from}
use Rattle.std.proofs.lemmas.List.Elements.{All-append, All-cons, All-nil}
use Rattle.zk_model.specs.declared.layout.Layout.TheVariants.{One, Two}
use Rattle.zk_transcript.specs.declared.transcript.TranscriptLine.{TranscriptLine}
use Rattle.zk_transcript.specs.declared.transcript.TranscriptLine.TheVariants as line
use Rattle.zt_text.specs.declared.script.Unread.{Unread}
use Rattle.zt_text.specs.declared.script.Unread.TheVariants as unread
use Rattle.zt_text.specs.declared.script.Why.{Why}
use Rattle.zt_text.specs.declared.script.Why.TheVariants as why
use Rattle.zt_text.specs.Faults.{unread_text, why_text}
use Rattle.zt_text.specs.Scripts.{Lacks}
use Rattle.zt_text.specs.Transcripts.{end_words, hex_text, id_text, kind_words, line_words, spaced}
use Rattle.zt_text.proofs.TranscriptLaws.{Lacks-word}
use Rattle.zt_text.proofs.WrittenWords.{decimal-is_word, is_word}
use Rattle.zt_lines.specs.Transcripts.{is_arrival_fault, is_connection_fault, is_entry_fault, is_fault_after, is_fault_line, is_last_line, is_reason, is_request_fault, is_store_fault, parted}
use Rattle.zt_lines.specs.Words.{max_place}
use Rattle.zt_lines.proofs.Parting.{parted-first}
use Rattle.zt_lines.proofs.WrittenNumbers.{place-decimal}

-- ---- a line that says what happened

is_fault_after-other : (form : List ℕ) (rest : Option (List ℕ × List ℕ)) → bytes_eq form (codes "fault") ≡ false → is_fault_after form rest ≡ false
is_fault_after-other form None other = refl
is_fault_after-other form (Some x) other = rw other refl

-- a line is parted at its first blank
is_fault_line-parted : (form rest : List ℕ) → Lacks 32 form → is_fault_line (form ++ 32 ∷ rest) ≡ is_fault_after form (parted 32 rest)
unfolding is_fault_line
is_fault_line-parted form rest lacks = let parts = parted-first 32 form rest lacks in rw (parts, is_fault_line) refl

is_last_line-other : (form word : List ℕ) (words : List (List ℕ)) → is_word form ≡ true → bytes_eq form (codes "fault") ≡ false → bytes_eq (spaced (form ∷ word ∷ words)) (codes "done") ≡ false →
    is_last_line (spaced (form ∷ word ∷ words)) ≡ false
unfolding is_last_line
is_last_line-other form word words formed other undone =
    or_from (bytes_eq (spaced (form ∷ word ∷ words)) (codes "done")) (is_fault_line (spaced (form ∷ word ∷ words))) undone
    (is_fault_line-parted form (spaced (word ∷ words)) (Lacks-word 32 form (omega arith) formed) ∙ is_fault_after-other form (parted 32 (spaced (word ∷ words))) other)

pub is_last_line-line_words : (l : TranscriptLine) → is_last_line (spaced (line_words l)) ≡ false
is_last_line-line_words (line.Update u) = is_last_line-other (codes "update") (signed_decimal u.zxid) (kind_words u.kind) refl refl refl
is_last_line-line_words (line.Open c p id pw One) = is_last_line-other (codes "open1") (decimal c) (decimal p ∷ id_text id ∷ hex_text pw ∷ []) refl refl refl
is_last_line-line_words (line.Open c p id pw Two) = is_last_line-other (codes "open") (decimal c) (decimal p ∷ id_text id ∷ hex_text pw ∷ []) refl refl refl
is_last_line-line_words (line.Frame c i z bytes) = is_last_line-other (codes "frame") (decimal c) (decimal i ∷ signed_decimal z ∷ hex_text bytes ∷ []) refl refl refl
is_last_line-line_words (line.Send c bytes) = is_last_line-other (codes "send") (decimal c) (hex_text bytes ∷ []) refl refl refl
is_last_line-line_words (line.Lapse rev id) = is_last_line-other (codes "lapse") (signed_decimal rev) (id_text id ∷ []) refl refl refl
is_last_line-line_words (line.Close c end) = is_last_line-other (codes "close") (decimal c) (end_words end) refl refl refl

-- ---- the last line

pub is_last_line-done : is_last_line (codes "done") ≡ true
unfolding is_last_line
is_last_line-done = refl

is_fault_line-fault : (n : ℕ) (reason : List ℕ) → 0 < n → n ≤ max_place → is_reason reason ≡ true → is_fault_line (codes "fault " ++ decimal n ++ 32 ∷ reason) ≡ true
is_fault_line-fault n reason some fits known =
    let number = parted-first 32 (decimal n) reason (Lacks-word 32 (decimal n) (omega arith) (decimal-is_word n)) in
    let read = place-decimal n fits in
    let positive = lt-ltb 0 n some in
    is_fault_line-parted (codes "fault") (decimal n ++ 32 ∷ reason) (Lacks-word 32 (codes "fault") (omega arith) refl)
    ∙ ap (is_fault_after (codes "fault")) number
    ∙ rw (read, positive, known) refl

pub is_last_line-fault : (n : ℕ) (reason : List ℕ) → 0 < n → n ≤ max_place → is_reason reason ≡ true → is_last_line (codes "fault " ++ decimal n ++ 32 ∷ reason) ≡ true
unfolding is_last_line
is_last_line-fault n reason some fits known = is_fault_line-fault n reason some fits known

pub is_reason-why_text : (w : Why) → is_reason (why_text w) ≡ true
unfolding is_reason is_connection_fault is_arrival_fault is_request_fault is_entry_fault is_store_fault
is_reason-why_text why.NumberInUse = refl
is_reason-why_text _ = refl

pub is_reason-unread_text : (u : Unread) → is_reason (unread_text u) ≡ true
unfolding is_reason is_connection_fault is_arrival_fault
is_reason-unread_text unread.Unreadable = refl
is_reason-unread_text unread.TooLong = refl

-- ---- no line feed stands in it

abbrev is_in_line : List ℕ → Bool
is_in_line bytes = list_all (λ (b : ℕ). not (b == 10)) bytes

pub Lacks-tested : (bytes : List ℕ) → is_in_line bytes ≡ true → Lacks 10 bytes
Lacks-tested [] tested = All-nil (λ b. (b == 10) ≡ false)
Lacks-tested (b ∷ bs) tested =
    let parts = and_parts (not (b == 10)) (is_in_line bs) tested in
    All-cons (λ b. (b == 10) ≡ false) b bs (not-true (b == 10) parts.0) (Lacks-tested bs parts.1)

is_in_line-why_text : (w : Why) → is_in_line (why_text w) ≡ true
is_in_line-why_text why.NumberInUse = refl
is_in_line-why_text _ = refl

pub Lacks-why_text : (w : Why) → Lacks 10 (why_text w)
Lacks-why_text w = Lacks-tested (why_text w) (is_in_line-why_text w)

is_in_line-unread_text : (u : Unread) → is_in_line (unread_text u) ≡ true
is_in_line-unread_text unread.Unreadable = refl
is_in_line-unread_text unread.TooLong = refl

pub Lacks-unread_text : (u : Unread) → Lacks 10 (unread_text u)
Lacks-unread_text u = Lacks-tested (unread_text u) (is_in_line-unread_text u)

pub Lacks-fault : (n : ℕ) (reason : List ℕ) → Lacks 10 reason → Lacks 10 (codes "fault " ++ decimal n ++ 32 ∷ reason)
Lacks-fault n reason lacks =
    All-append (λ b. (b == 10) ≡ false) (codes "fault " ++ decimal n) (32 ∷ reason)
    (All-append (λ b. (b == 10) ≡ false) (codes "fault ") (decimal n) (Lacks-tested (codes "fault ") refl) (Lacks-word 10 (decimal n) (omega arith) (decimal-is_word n)))
    (All-cons (λ b. (b == 10) ≡ false) 32 reason refl lacks)
