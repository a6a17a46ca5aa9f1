-- A line of a transcript, read back from its words.
use Rattle.std.proofs.Common.{◌≡◌, ℕ, ℤ, List, [], ◌∷◌, Option, Some, None, option_map, if◌then◌else◌, refl, ap, ◌∙◌}
use Rattle.std.specs.Prelude.{bytes_eq, codes, option_and_then}
use Rattle.zk_model.specs.declared.layout.Layout.TheVariants.{One, Two}
use Rattle.zk_model.specs.declared.layout.Layout.{Layout}
use Rattle.zk_service.specs.declared.cause.Cause.{Cause}
use Rattle.zk_service.specs.declared.cause.Cause.TheVariants as cause
use Rattle.zk_service.specs.declared.cause.Ended.{Ended}
use Rattle.zk_service.specs.declared.cause.Ended.TheVariants as ended
use Rattle.zk_service.specs.declared.update.UpdateKind.{UpdateKind}
use Rattle.zk_service.specs.declared.update.UpdateKind.TheVariants as kind
use Rattle.zk_transcript.specs.declared.transcript.TranscriptLine.{TranscriptLine}
use Rattle.zk_transcript.specs.declared.transcript.TranscriptLine.TheVariants as line
use Rattle.zt_text.specs.Scripts.{hex}
use Rattle.zt_text.specs.Transcripts.{IsWellFormed, IsWellFormedCause, IsWellFormedEnd, IsWellFormedKind, cause_words, end_words, kind_words, line_words}
use Rattle.zt_text.proofs.WrittenWords.{hex-hex_text, natural, natural-decimal, session_number, session_number-id_text, signed, signed-signed_decimal}

abbrev Words : Type 0
Words = List (List ℕ)

abbrev Reads : Type 0 → Type 0
Reads A = List ℕ → Option A

-- what so many words say, each read in its way
abbrev no_words : {X : Type 0} → X → Words → Option X
no_words x [] = Some x
no_words x _ = None

abbrev one_word : {A X : Type 0} → (A → X) → Reads A → Words → Option X
one_word f read (a ∷ []) = option_map f (read a)
one_word f read _ = None

abbrev two_words : {A B X : Type 0} → (A → B → X) → Reads A → Reads B → Words → Option X
two_words f read next (a ∷ b ∷ []) = option_and_then (λ x. option_map (f x) (next b)) (read a)
two_words f read next _ = None

abbrev three_words : {A B C X : Type 0} → (A → B → C → X) → Reads A → Reads B → Reads C → Words → Option X
three_words f read next last (a ∷ words) = option_and_then (λ x. two_words (f x) next last words) (read a)
three_words f read next last _ = None

abbrev four_words : {A B C D X : Type 0} → (A → B → C → D → X) → Reads A → Reads B → Reads C → Reads D → Words → Option X
four_words f read next third last (a ∷ words) = option_and_then (λ x. three_words (f x) next third last words) (read a)
four_words f read next third last _ = None

abbrev kind_of : Words → Option UpdateKind
kind_of [] = None
kind_of (name ∷ words) =
    if bytes_eq name (codes "begin") then one_word kind.Begin natural words
    else if bytes_eq name (codes "session") then two_words kind.Session session_number natural words
    else if bytes_eq name (codes "attach") then two_words kind.Attach session_number natural words
    else if bytes_eq name (codes "asked") then three_words kind.Asked natural natural natural words
    else if bytes_eq name (codes "closed") then three_words kind.Closed session_number natural natural words
    else if bytes_eq name (codes "reaped") then one_word kind.Reaped session_number words
    else None

kind_of-words : (k : UpdateKind) → IsWellFormedKind k → kind_of (kind_words k) ≡ Some k
kind_of-words (kind.Begin now) h = let read = natural-decimal now h in rw read refl
kind_of-words (kind.Session id c) h = rw (session_number-id_text id h.0, natural-decimal c h.1) refl
kind_of-words (kind.Attach id c) h = rw (session_number-id_text id h.0, natural-decimal c h.1) refl
kind_of-words (kind.Asked c i now) h = rw (natural-decimal c h.0, natural-decimal i h.1, natural-decimal now h.2) refl
kind_of-words (kind.Closed id c i) h = rw (session_number-id_text id h.0, natural-decimal c h.1, natural-decimal i h.2) refl
kind_of-words (kind.Reaped id) h = let read = session_number-id_text id h in rw read refl

abbrev cause_of : Words → Option Cause
cause_of [] = None
cause_of (name ∷ words) =
    if bytes_eq name (codes "closed") then no_words cause.Closed words
    else if bytes_eq name (codes "client") then one_word cause.ClientEnd natural words
    else if bytes_eq name (codes "read") then no_words cause.ReadFault words
    else if bytes_eq name (codes "write") then no_words cause.WriteFault words
    else if bytes_eq name (codes "length") then two_words cause.BadLength natural signed words
    else if bytes_eq name (codes "noheader") then one_word cause.NoHeader natural words
    else if bytes_eq name (codes "auth") then no_words cause.AuthRefused words
    else if bytes_eq name (codes "unknown") then no_words cause.Unknown words
    else if bytes_eq name (codes "ahead") then two_words cause.ZxidAhead signed signed words
    else if bytes_eq name (codes "taken") then one_word cause.Taken signed words
    else if bytes_eq name (codes "expired") then one_word cause.Expired signed words
    else if bytes_eq name (codes "moved") then two_words cause.Moved signed signed words
    else if bytes_eq name (codes "link") then no_words cause.LinkFault words
    else if bytes_eq name (codes "lagged") then two_words cause.Lagged signed signed words
    else if bytes_eq name (codes "feed") then no_words cause.FeedClosed words
    else if bytes_eq name (codes "damaged") then two_words cause.Damaged hex hex words
    else if bytes_eq name (codes "restart") then no_words cause.Restart words
    else if bytes_eq name (codes "memory") then no_words cause.Memory words
    else None

cause_of-words : (x : Cause) → IsWellFormedCause x → cause_of (cause_words x) ≡ Some x
cause_of-words cause.Closed h = refl
cause_of-words (cause.ClientEnd place) h = let read = natural-decimal place h in rw read refl
cause_of-words cause.ReadFault h = refl
cause_of-words cause.WriteFault h = refl
cause_of-words (cause.BadLength place length) h = rw (natural-decimal place h.0, signed-signed_decimal length h.1) refl
cause_of-words (cause.NoHeader place) h = let read = natural-decimal place h in rw read refl
cause_of-words cause.AuthRefused h = refl
cause_of-words cause.Unknown h = refl
cause_of-words (cause.ZxidAhead client head) h = rw (signed-signed_decimal client h.0, signed-signed_decimal head h.1) refl
cause_of-words (cause.Taken rev) h = let read = signed-signed_decimal rev h in rw read refl
cause_of-words (cause.Expired rev) h = let read = signed-signed_decimal rev h in rw read refl
cause_of-words (cause.Moved mine found) h = rw (signed-signed_decimal mine h.0, signed-signed_decimal found h.1) refl
cause_of-words cause.LinkFault h = refl
cause_of-words (cause.Lagged cursor floor) h = rw (signed-signed_decimal cursor h.0, signed-signed_decimal floor h.1) refl
cause_of-words cause.FeedClosed h = refl
cause_of-words (cause.Damaged key value) h = rw (hex-hex_text key h.0, hex-hex_text value h.1) refl
cause_of-words cause.Restart h = refl
cause_of-words cause.Memory h = refl

abbrev end_of : Words → Option Ended
end_of [] = None
end_of (name ∷ words) =
    if bytes_eq name (codes "reaped") then one_word ended.Reaped signed words
    else if bytes_eq name (codes "kept") then one_word ended.Kept signed words
    else if bytes_eq name (codes "gone") then one_word ended.Gone signed words
    else option_map ended.Cause (cause_of (name ∷ words))

end_of-cause : (x : Cause) → end_of (cause_words x) ≡ option_map ended.Cause (cause_of (cause_words x))
end_of-cause cause.Closed = refl
end_of-cause _ = refl

end_of-words : (e : Ended) → IsWellFormedEnd e → end_of (end_words e) ≡ Some e
end_of-words (ended.Cause x) h = end_of-cause x ∙ ap (option_map ended.Cause) (cause_of-words x h)
end_of-words (ended.Reaped z) h = let read = signed-signed_decimal z h in rw read refl
end_of-words (ended.Kept rev) h = let read = signed-signed_decimal rev h in rw read refl
end_of-words (ended.Gone rev) h = let read = signed-signed_decimal rev h in rw read refl

-- a number, and what the words after it say
abbrev numbered : {A B X : Type 0} → (A → B → X) → Reads A → (Words → Option B) → Words → Option X
numbered f read others [] = None
numbered f read others (a ∷ words) = option_and_then (λ x. option_map (f x) (others words)) (read a)

abbrev update : ℤ → UpdateKind → TranscriptLine
update zxid kind = line.Update (record { zxid = zxid; kind = kind })

abbrev opened_in : Layout → ℕ → ℕ → ℤ → List ℕ → TranscriptLine
opened_in layout c p id pw = line.Open c p id pw layout

abbrev pub line_of : Words → Option TranscriptLine
line_of [] = None
line_of (name ∷ words) =
    if bytes_eq name (codes "update") then numbered update signed kind_of words
    else if bytes_eq name (codes "open") then four_words (opened_in Two) natural natural session_number hex words
    else if bytes_eq name (codes "open1") then four_words (opened_in One) natural natural session_number hex words
    else if bytes_eq name (codes "frame") then four_words line.Frame natural natural signed hex words
    else if bytes_eq name (codes "send") then two_words line.Send natural hex words
    else if bytes_eq name (codes "lapse") then two_words line.Lapse signed session_number words
    else if bytes_eq name (codes "close") then numbered line.Close natural end_of words
    else None

pub line_of-words : (l : TranscriptLine) → IsWellFormed l → line_of (line_words l) ≡ Some l
line_of-words (line.Update u) h = rw (signed-signed_decimal u.zxid h.0, kind_of-words u.kind h.1) refl
line_of-words (line.Open c p id pw One) h = rw (natural-decimal c h.0, natural-decimal p h.1, session_number-id_text id h.2, hex-hex_text pw h.3) refl
line_of-words (line.Open c p id pw Two) h = rw (natural-decimal c h.0, natural-decimal p h.1, session_number-id_text id h.2, hex-hex_text pw h.3) refl
line_of-words (line.Frame c i z bytes) h = rw (natural-decimal c h.0, natural-decimal i h.1, signed-signed_decimal z h.2, hex-hex_text bytes h.3) refl
line_of-words (line.Send c bytes) h = rw (natural-decimal c h.0, hex-hex_text bytes h.1) refl
line_of-words (line.Lapse rev id) h = rw (signed-signed_decimal rev h.0, session_number-id_text id h.1) refl
line_of-words (line.Close c end) h = rw (natural-decimal c h.0, end_of-words end h.1) refl
