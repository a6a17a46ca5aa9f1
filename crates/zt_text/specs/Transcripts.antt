-- The text of a transcript (this project's own format): a line for each thing that happened, its words separated by blanks.
use Rattle.std.specs.Prelude.{ℕ, ℤ, pos, nat_abs, ◌+◌, ◌/◌, ◌%◌, ◌^◌, ◌<◌, ◌≤ℤ◌, ⊤, List, [], ◌∷◌, ◌++◌, flat_map, nat_lt, if◌then◌else◌, codes, decimal}
use Rattle.std.specs.Fmt.{signed_decimal}
use Rattle.std.specs.List.{AllByRecursion}
use Rattle.std.specs.Int.{to_be_bytes, w64}
use Rattle.zk_service.specs.declared.cause.Cause.{Cause}
use Rattle.zk_service.specs.declared.cause.Cause.TheVariants as cause
use Rattle.zk_service.specs.declared.cause.Ended.{Ended}
use Rattle.zk_service.specs.declared.cause.Ended.TheVariants as ended
use Rattle.zk_service.specs.declared.update.UpdateKind.{UpdateKind}
use Rattle.zk_service.specs.declared.update.UpdateKind.TheVariants.{Begin, Session, Attach, Asked, Closed, Reaped}
use Rattle.zk_model.specs.declared.layout.Layout.{Layout}
use Rattle.zk_model.specs.declared.layout.Layout.TheVariants.{One, Two}
use Rattle.zk_transcript.specs.declared.transcript.TranscriptLine.{TranscriptLine}
use Rattle.zk_transcript.specs.declared.transcript.TranscriptLine.TheVariants.{Update, Open, Frame, Send, Lapse, Close}

-- ---- words

-- two hex digits in lower case for each byte, the high one first (`0` is 48, `a` is 97)
abbrev pub hex_digit_text : ℕ → ℕ
hex_digit_text n = if nat_lt n 10 then 48 + n else 87 + n

abbrev pub hex_byte_text : ℕ → List ℕ
hex_byte_text b = hex_digit_text (b / 16) ∷ hex_digit_text (b % 16) ∷ []

unfoldable pub hex_spelled : List ℕ → List ℕ
hex_spelled bytes = flat_map hex_byte_text bytes

-- bytes as hex, `-` for none
unfoldable pub hex_text : List ℕ → List ℕ
hex_text [] = codes "-"
hex_text (b ∷ bs) = hex_spelled (b ∷ bs)

-- a session's number as 16 hex digits
unfoldable pub id_text : ℤ → List ℕ
id_text id = hex_spelled (to_be_bytes w64 (nat_abs id))

-- ---- lines

-- what an update was, after its zxid
abbrev pub kind_words : UpdateKind → List (List ℕ)
kind_words (Begin now) = codes "begin" ∷ decimal now ∷ []
kind_words (Session id c) = codes "session" ∷ id_text id ∷ decimal c ∷ []
kind_words (Attach id c) = codes "attach" ∷ id_text id ∷ decimal c ∷ []
kind_words (Asked c i now) = codes "asked" ∷ decimal c ∷ decimal i ∷ decimal now ∷ []
kind_words (Closed id c i) = codes "closed" ∷ id_text id ∷ decimal c ∷ decimal i ∷ []
kind_words (Reaped id) = codes "reaped" ∷ id_text id ∷ []

-- why a connection ended
abbrev pub cause_words : Cause → List (List ℕ)
cause_words cause.Closed = codes "closed" ∷ []
cause_words (cause.ClientEnd place) = codes "client" ∷ decimal place ∷ []
cause_words cause.ReadFault = codes "read" ∷ []
cause_words cause.WriteFault = codes "write" ∷ []
cause_words (cause.BadLength place length) = codes "length" ∷ decimal place ∷ signed_decimal length ∷ []
cause_words (cause.NoHeader place) = codes "noheader" ∷ decimal place ∷ []
cause_words cause.AuthRefused = codes "auth" ∷ []
cause_words cause.Unknown = codes "unknown" ∷ []
cause_words (cause.ZxidAhead client head) = codes "ahead" ∷ signed_decimal client ∷ signed_decimal head ∷ []
cause_words (cause.Taken rev) = codes "taken" ∷ signed_decimal rev ∷ []
cause_words (cause.Expired rev) = codes "expired" ∷ signed_decimal rev ∷ []
cause_words (cause.Moved mine found) = codes "moved" ∷ signed_decimal mine ∷ signed_decimal found ∷ []
cause_words cause.LinkFault = codes "link" ∷ []
cause_words (cause.Lagged cursor floor) = codes "lagged" ∷ signed_decimal cursor ∷ signed_decimal floor ∷ []
cause_words cause.FeedClosed = codes "feed" ∷ []
cause_words (cause.Damaged key value) = codes "damaged" ∷ hex_text key ∷ hex_text value ∷ []
cause_words cause.Restart = codes "restart" ∷ []
cause_words cause.Memory = codes "memory" ∷ []

-- how a connection or a reaper ended
abbrev pub end_words : Ended → List (List ℕ)
end_words (ended.Cause x) = cause_words x
end_words (ended.Reaped z) = codes "reaped" ∷ signed_decimal z ∷ []
end_words (ended.Kept rev) = codes "kept" ∷ signed_decimal rev ∷ []
end_words (ended.Gone rev) = codes "gone" ∷ signed_decimal rev ∷ []

-- the first word of the line of a connection that opened
abbrev pub open_word : Layout → List ℕ
open_word One = codes "open1"
open_word Two = codes "open"

-- the words of a line; the first tells its form
abbrev pub line_words : TranscriptLine → List (List ℕ)
line_words (Update u) = codes "update" ∷ signed_decimal u.zxid ∷ kind_words u.kind
line_words (Open c p id pw layout) = open_word layout ∷ decimal c ∷ decimal p ∷ id_text id ∷ hex_text pw ∷ []
line_words (Frame c i z bytes) = codes "frame" ∷ decimal c ∷ decimal i ∷ signed_decimal z ∷ hex_text bytes ∷ []
line_words (Send c bytes) = codes "send" ∷ decimal c ∷ hex_text bytes ∷ []
line_words (Lapse rev id) = codes "lapse" ∷ signed_decimal rev ∷ id_text id ∷ []
line_words (Close c end) = codes "close" ∷ decimal c ∷ end_words end

-- words with a blank (32) before each but the first
abbrev pub spaced : List (List ℕ) → List ℕ
spaced [] = []
spaced (w ∷ ws) = w ++ flat_map (λ (v : List ℕ). 32 ∷ v) ws

-- a line ends in a line feed (10)
unfoldable pub line_text : TranscriptLine → List ℕ
line_text l = spaced (line_words l) ++ 10 ∷ []

unfoldable pub transcript_text : List TranscriptLine → List ℕ
transcript_text lines = flat_map line_text lines

-- ---- lines whose text has one reading: their numbers have 64 bits, their sessions' numbers aren't negative, and their bytes
-- are bytes

abbrev pub IsNumber : ℕ → Type 0
IsNumber n = n < 2 ^ 64

abbrev pub IsSignedNumber : ℤ → Type 0
IsSignedNumber z = nat_abs z < 2 ^ 64

abbrev pub IsSessionNumber : ℤ → Type 0
IsSessionNumber id = (pos 0 ≤ℤ id) × (nat_abs id < 2 ^ 64)

abbrev pub AreBytes : List ℕ → Type 0
AreBytes bytes = AllByRecursion (λ b. b < 256) bytes

abbrev pub IsWellFormedKind : UpdateKind → Type 0
IsWellFormedKind (Begin now) = IsNumber now
IsWellFormedKind (Session id c) = IsSessionNumber id × IsNumber c
IsWellFormedKind (Attach id c) = IsSessionNumber id × IsNumber c
IsWellFormedKind (Asked c i now) = IsNumber c × IsNumber i × IsNumber now
IsWellFormedKind (Closed id c i) = IsSessionNumber id × IsNumber c × IsNumber i
IsWellFormedKind (Reaped id) = IsSessionNumber id

abbrev pub IsWellFormedCause : Cause → Type 0
IsWellFormedCause (cause.ClientEnd place) = IsNumber place
IsWellFormedCause (cause.BadLength place length) = IsNumber place × IsSignedNumber length
IsWellFormedCause (cause.NoHeader place) = IsNumber place
IsWellFormedCause (cause.ZxidAhead client head) = IsSignedNumber client × IsSignedNumber head
IsWellFormedCause (cause.Taken rev) = IsSignedNumber rev
IsWellFormedCause (cause.Expired rev) = IsSignedNumber rev
IsWellFormedCause (cause.Moved mine found) = IsSignedNumber mine × IsSignedNumber found
IsWellFormedCause (cause.Lagged cursor floor) = IsSignedNumber cursor × IsSignedNumber floor
IsWellFormedCause (cause.Damaged key value) = AreBytes key × AreBytes value
IsWellFormedCause _ = ⊤

abbrev pub IsWellFormedEnd : Ended → Type 0
IsWellFormedEnd (ended.Cause x) = IsWellFormedCause x
IsWellFormedEnd (ended.Reaped z) = IsSignedNumber z
IsWellFormedEnd (ended.Kept rev) = IsSignedNumber rev
IsWellFormedEnd (ended.Gone rev) = IsSignedNumber rev

abbrev pub IsWellFormed : TranscriptLine → Type 0
IsWellFormed (Update u) = IsSignedNumber u.zxid × IsWellFormedKind u.kind
IsWellFormed (Open c p id pw layout) = IsNumber c × IsNumber p × IsSessionNumber id × AreBytes pw
IsWellFormed (Frame c i z bytes) = IsNumber c × IsNumber i × IsSignedNumber z × AreBytes bytes
IsWellFormed (Send c bytes) = IsNumber c × AreBytes bytes
IsWellFormed (Lapse rev id) = IsSignedNumber rev × IsSessionNumber id
IsWellFormed (Close c end) = IsNumber c × IsWellFormedEnd end
