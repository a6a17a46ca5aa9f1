-- A transcript's text has one reading, and each of its lines ends in its only line feed.
use Rattle.std.proofs.Common.{◌≡◌, ℕ, ◌≤◌, ◌==◌, Bool, true, false, List, [], ◌∷◌, ◌++◌, length, Option, Some, None, option_map, refl, sym, ap, ◌∙◌, arith}
use Rattle.std.specs.Prelude.{nat_lt, option_and_then, flat_map, Contains}
use Rattle.std.specs.List.{AllByRecursion, list_all}
use Rattle.std.proofs.lemmas.Bool.{and_parts, false≢true, ltb-true, ne_eqb, eq-eqb}
use Rattle.std.proofs.lemmas.List.{append_assoc, append-nil}
use Rattle.std.proofs.lemmas.List.Elements.{All-append, All-cons, All-nil, All-contains}
use Rattle.std.proofs.lemmas.List.Concat.{flat_map-append}
use Rattle.std.proofs.lemmas.Option.{same_Some}
use Rattle.zk_model.specs.declared.layout.Layout.TheVariants.{One, Two}
use Rattle.zk_service.specs.declared.cause.Cause.{Cause}
use Rattle.zk_service.specs.declared.cause.Cause.TheVariants as cause
use Rattle.zk_service.specs.declared.cause.Ended.{Ended}
use Rattle.zk_service.specs.declared.cause.Ended.TheVariants as ended
use Rattle.zk_service.specs.declared.update.UpdateKind.{UpdateKind}
use Rattle.zk_service.specs.declared.update.UpdateKind.TheVariants as kind
use Rattle.zk_transcript.specs.declared.transcript.TranscriptLine.{TranscriptLine}
use Rattle.zk_transcript.specs.declared.transcript.TranscriptLine.TheVariants as line
use Rattle.zt_text.specs.Scripts.{Lacks, pieces}
use Rattle.zt_text.specs.Transcripts.{IsWellFormed, cause_words, end_words, kind_words, line_text, line_words, spaced, transcript_text}
use Rattle.zt_text.proofs.LineReading.{line_of, line_of-words}
use Rattle.zt_text.proofs.PieceLaws.{pieces-first, pieces-none, pieces-some}
use Rattle.zt_text.proofs.WrittenWords.{decimal-is_word, hex_text-is_word, id_text-is_word, is_word, signed_decimal-is_word}

-- ---- the words of a line

abbrev are_words : List (List ℕ) → Bool
are_words ws = list_all is_word ws

kind_words-are_words : (k : UpdateKind) → are_words (kind_words k) ≡ true
kind_words-are_words (kind.Begin now) = rw (decimal-is_word now) refl
kind_words-are_words (kind.Session id c) = rw (id_text-is_word id, decimal-is_word c) refl
kind_words-are_words (kind.Attach id c) = rw (id_text-is_word id, decimal-is_word c) refl
kind_words-are_words (kind.Asked c i now) = rw (decimal-is_word c, decimal-is_word i, decimal-is_word now) refl
kind_words-are_words (kind.Closed id c i) = rw (id_text-is_word id, decimal-is_word c, decimal-is_word i) refl
kind_words-are_words (kind.Reaped id) = rw (id_text-is_word id) refl

cause_words-are_words : (x : Cause) → are_words (cause_words x) ≡ true
cause_words-are_words (cause.ClientEnd place) = rw (decimal-is_word place) refl
cause_words-are_words (cause.BadLength place length) = rw (decimal-is_word place, signed_decimal-is_word length) refl
cause_words-are_words (cause.NoHeader place) = rw (decimal-is_word place) refl
cause_words-are_words (cause.ZxidAhead client head) = rw (signed_decimal-is_word client, signed_decimal-is_word head) refl
cause_words-are_words (cause.Taken rev) = rw (signed_decimal-is_word rev) refl
cause_words-are_words (cause.Expired rev) = rw (signed_decimal-is_word rev) refl
cause_words-are_words (cause.Moved mine found) = rw (signed_decimal-is_word mine, signed_decimal-is_word found) refl
cause_words-are_words (cause.Lagged cursor floor) = rw (signed_decimal-is_word cursor, signed_decimal-is_word floor) refl
cause_words-are_words (cause.Damaged key value) = rw (hex_text-is_word key, hex_text-is_word value) refl
cause_words-are_words _ = refl

end_words-are_words : (e : Ended) → are_words (end_words e) ≡ true
end_words-are_words (ended.Cause x) = cause_words-are_words x
end_words-are_words (ended.Reaped z) = rw (signed_decimal-is_word z) refl
end_words-are_words (ended.Kept rev) = rw (signed_decimal-is_word rev) refl
end_words-are_words (ended.Gone rev) = rw (signed_decimal-is_word rev) refl

line_words-are_words : (l : TranscriptLine) → are_words (line_words l) ≡ true
line_words-are_words (line.Update u) = rw (signed_decimal-is_word u.zxid) (kind_words-are_words u.kind)
line_words-are_words (line.Open c p id pw One) = rw (decimal-is_word c, decimal-is_word p, id_text-is_word id, hex_text-is_word pw) refl
line_words-are_words (line.Open c p id pw Two) = rw (decimal-is_word c, decimal-is_word p, id_text-is_word id, hex_text-is_word pw) refl
line_words-are_words (line.Frame c i z bytes) = rw (decimal-is_word c, decimal-is_word i, signed_decimal-is_word z, hex_text-is_word bytes) refl
line_words-are_words (line.Send c bytes) = rw (decimal-is_word c, hex_text-is_word bytes) refl
line_words-are_words (line.Lapse rev id) = rw (signed_decimal-is_word rev, id_text-is_word id) refl
line_words-are_words (line.Close c end) = rw (decimal-is_word c) (end_words-are_words end)

-- ---- the pieces of a line, and of lines

pub Lacks-word : (c : ℕ) (w : List ℕ) → c ≤ 32 → is_word w ≡ true → Lacks c w
Lacks-word c [] low word = All-nil (λ b. (b == c) ≡ false)
Lacks-word c (b ∷ bs) low word =
    let parts = and_parts (nat_lt 32 b) (is_word bs) word in
    let high = ltb-true 32 b parts.0 in
    All-cons (λ b. (b == c) ≡ false) b bs (ne_eqb b c (λ same. omega arith)) (Lacks-word c bs low parts.1)

pieces-spaced : (w : List ℕ) (ws : List (List ℕ)) → are_words (w ∷ ws) ≡ true → pieces 32 (spaced (w ∷ ws)) ≡ w ∷ ws
pieces-spaced w [] words =
    let parts = and_parts (is_word w) true words in
    ap (pieces 32) (append-nil w) ∙ pieces-none 32 w (Lacks-word 32 w (omega arith) parts.0)
pieces-spaced w (v ∷ ws) words =
    let parts = and_parts (is_word w) (are_words (v ∷ ws)) words in
    pieces-first 32 w (spaced (v ∷ ws)) (Lacks-word 32 w (omega arith) parts.0) ∙ ap (λ (vs : List (List ℕ)). w ∷ vs) (pieces-spaced v ws parts.1)

-- no line feed stands between the words
Lacks-after : (ws : List (List ℕ)) → are_words ws ≡ true → Lacks 10 (flat_map (λ (v : List ℕ). 32 ∷ v) ws)
Lacks-after [] words = All-nil (λ b. (b == 10) ≡ false)
Lacks-after (w ∷ ws) words =
    let parts = and_parts (is_word w) (are_words ws) words in
    All-cons (λ b. (b == 10) ≡ false) 32 (w ++ flat_map (λ (v : List ℕ). 32 ∷ v) ws) refl
    (All-append (λ b. (b == 10) ≡ false) w (flat_map (λ (v : List ℕ). 32 ∷ v) ws) (Lacks-word 10 w (omega arith) parts.0) (Lacks-after ws parts.1))

Lacks-spaced : (ws : List (List ℕ)) → are_words ws ≡ true → Lacks 10 (spaced ws)
Lacks-spaced [] words = All-nil (λ b. (b == 10) ≡ false)
Lacks-spaced (w ∷ ws) words =
    let parts = and_parts (is_word w) (are_words ws) words in
    All-append (λ b. (b == 10) ≡ false) w (flat_map (λ (v : List ℕ). 32 ∷ v) ws) (Lacks-word 10 w (omega arith) parts.0) (Lacks-after ws parts.1)

pub Lacks-line : (l : TranscriptLine) → Lacks 10 (spaced (line_words l))
Lacks-line l = Lacks-spaced (line_words l) (line_words-are_words l)

-- ---- a text is read back

-- the pieces of a line are its words
pub pieces-line_words : (l : TranscriptLine) → pieces 32 (spaced (line_words l)) ≡ line_words l
pieces-line_words (line.Update u) = pieces-spaced _ _ (line_words-are_words (line.Update u))
pieces-line_words (line.Open c p id pw layout) = pieces-spaced _ _ (line_words-are_words (line.Open c p id pw layout))
pieces-line_words (line.Frame c i z bytes) = pieces-spaced _ _ (line_words-are_words (line.Frame c i z bytes))
pieces-line_words (line.Send c bytes) = pieces-spaced _ _ (line_words-are_words (line.Send c bytes))
pieces-line_words (line.Lapse rev id) = pieces-spaced _ _ (line_words-are_words (line.Lapse rev id))
pieces-line_words (line.Close c end) = pieces-spaced _ _ (line_words-are_words (line.Close c end))

-- lines, read from the pieces between line feeds
abbrev in_front : Option TranscriptLine → Option (List TranscriptLine) → Option (List TranscriptLine)
in_front l ls = option_and_then (λ x. option_map (λ (xs : List TranscriptLine). x ∷ xs) ls) l

abbrev lines_of : List (List ℕ) → Option (List TranscriptLine)
lines_of [] = None
lines_of (p ∷ []) = Some []
lines_of (p ∷ q ∷ ps) = in_front (line_of (pieces 32 p)) (lines_of (q ∷ ps))

lines_of-more : (p bytes : List ℕ) → lines_of (p ∷ pieces 10 bytes) ≡ in_front (line_of (pieces 32 p)) (lines_of (pieces 10 bytes))
lines_of-more p bytes = let others = pieces-some 10 bytes in rw others.2 refl

pub transcript_text-cons : (l : TranscriptLine) (ls : List TranscriptLine) → transcript_text (l ∷ ls) ≡ spaced (line_words l) ++ 10 ∷ transcript_text ls
unfolding transcript_text line_text
transcript_text-cons l ls = append_assoc (spaced (line_words l)) (10 ∷ []) (flat_map line_text ls)

lines_of-text : (ls : List TranscriptLine) → AllByRecursion IsWellFormed ls → lines_of (pieces 10 (transcript_text ls)) ≡ Some ls
unfolding transcript_text
lines_of-text [] h = refl
lines_of-text (l ∷ ls) h =
    let cut = pieces-first 10 (spaced (line_words l)) (transcript_text ls) (Lacks-line l) in
    let first : line_of (pieces 32 (spaced (line_words l))) ≡ Some l = ap line_of (pieces-line_words l) ∙ line_of-words l h.0 in
    let others = lines_of-text ls h.1 in
    ap (λ (bytes : List ℕ). lines_of (pieces 10 bytes)) (transcript_text-cons l ls)
    ∙ ap lines_of cut
    ∙ lines_of-more (spaced (line_words l)) (transcript_text ls)
    ∙ rw (first, others) refl

-- a text has one reading
pub transcript_text-injective : (a b : List TranscriptLine) → AllByRecursion IsWellFormed a → AllByRecursion IsWellFormed b → transcript_text a ≡ transcript_text b → a ≡ b
transcript_text-injective a b well_a well_b same =
    same_Some a b (sym (lines_of-text a well_a) ∙ ap (λ (bytes : List ℕ). lines_of (pieces 10 bytes)) same ∙ lines_of-text b well_b)

-- a line ends in its only line feed
pub line_text-last : (l : TranscriptLine) → (front : List ℕ) × (line_text l ≡ front ++ 10 ∷ []) × (Contains front 10 → ⊥)
unfolding line_text
line_text-last l =
    let lacks = Lacks-line l in
    (spaced (line_words l), refl, λ found. false≢true (sym (All-contains (λ b. (b == 10) ≡ false) _ 10 lacks found) ∙ eq-eqb 10 10 refl))

-- lines after lines
pub transcript_text-append : (a b : List TranscriptLine) → transcript_text (a ++ b) ≡ transcript_text a ++ transcript_text b
unfolding transcript_text
transcript_text-append a b = flat_map-append line_text a b

pub transcript_text-push : (a : List TranscriptLine) (l : TranscriptLine) → transcript_text (a ++ l ∷ []) ≡ transcript_text a ++ line_text l
unfolding transcript_text
transcript_text-push a l = flat_map-append line_text a (l ∷ []) ∙ ap (λ (bytes : List ℕ). flat_map line_text a ++ bytes) (append-nil (line_text l))
