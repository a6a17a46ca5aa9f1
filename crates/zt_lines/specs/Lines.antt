-- The lines of a transcript (this project's own format): the first word tells the form, and the others what the line says.
use Rattle.std.specs.Prelude.{ℕ, ℤ, List, [], ◌∷◌, length, nat_lt, bytes_eq, codes, Option, Some, None, if◌then◌else◌}
use Rattle.zk_model.specs.declared.layout.Layout.{Layout}
use Rattle.zk_model.specs.declared.layout.Layout.TheVariants.{One, Two}
use Rattle.zk_service.specs.declared.cause.Cause.{Cause}
use Rattle.zk_service.specs.declared.cause.Cause.TheVariants as cause
use Rattle.zk_service.specs.declared.cause.Ended.{Ended}
use Rattle.zk_service.specs.declared.cause.Ended.TheVariants as ended
use Rattle.zk_service.specs.declared.update.UpdateKind.{UpdateKind}
use Rattle.zk_service.specs.declared.update.UpdateKind.TheVariants as kind
use Rattle.zk_transcript.specs.declared.transcript.TranscriptLine.{TranscriptLine}
use Rattle.zk_transcript.specs.declared.transcript.TranscriptLine.TheVariants as line
use Rattle.zt_text.specs.Scripts.{hex, max_line, number, one_word, password, pieces, session_id, three_words, two_words, four_words, ◌>>=◌}
use Rattle.zt_lines.specs.Words.{length_word, long, place}

abbrev pub Words : Type 0
Words = List (List ℕ)

-- ---- what an update was

-- `begin NOW`
unfoldable pub begin_words : Words → Option UpdateKind
begin_words words = do
  w ← one_word words
  now ← place w
  Some (kind.Begin now)

-- `session ID C`, `attach ID C`
abbrev pub id_and_connection : Words → Option (ℤ × ℕ)
id_and_connection words = do
  w ← two_words words
  id ← session_id w.0
  c ← number w.1
  Some (id, c)

unfoldable pub session_words : Words → Option UpdateKind
session_words words = do
  x ← id_and_connection words
  Some (kind.Session x.0 x.1)

unfoldable pub attach_words : Words → Option UpdateKind
attach_words words = do
  x ← id_and_connection words
  Some (kind.Attach x.0 x.1)

-- `asked C I NOW`
unfoldable pub asked_words : Words → Option UpdateKind
asked_words words = do
  w ← three_words words
  c ← number w.0
  i ← place w.1
  now ← place w.2
  Some (kind.Asked c i now)

-- `closed ID C I`
unfoldable pub closed_words : Words → Option UpdateKind
closed_words words = do
  w ← three_words words
  id ← session_id w.0
  c ← number w.1
  i ← place w.2
  Some (kind.Closed id c i)

-- `reaped ID`
unfoldable pub reaped_words : Words → Option UpdateKind
reaped_words words = do
  w ← one_word words
  id ← session_id w
  Some (kind.Reaped id)

unfoldable pub kind_of_form : List ℕ → Words → Option UpdateKind
kind_of_form form words =
    if bytes_eq form (codes "begin") then begin_words words
    else if bytes_eq form (codes "session") then session_words words
    else if bytes_eq form (codes "attach") then attach_words words
    else if bytes_eq form (codes "asked") then asked_words words
    else if bytes_eq form (codes "closed") then closed_words words
    else if bytes_eq form (codes "reaped") then reaped_words words
    else None

abbrev pub kind_read : Words → Option UpdateKind
kind_read [] = None
kind_read (form ∷ words) = kind_of_form form words

-- `update Z ..`
unfoldable pub update_line : Words → Option TranscriptLine
update_line [] = None
update_line (z ∷ words) = do
  zxid ← long z
  k ← kind_read words
  Some (line.Update (record { zxid = zxid; kind = k }))

-- ---- how a connection or a reaper ended

-- the causes that are one word
unfoldable pub plain_cause : List ℕ → Option Cause
plain_cause form =
    if bytes_eq form (codes "closed") then Some cause.Closed
    else if bytes_eq form (codes "read") then Some cause.ReadFault
    else if bytes_eq form (codes "write") then Some cause.WriteFault
    else if bytes_eq form (codes "auth") then Some cause.AuthRefused
    else if bytes_eq form (codes "unknown") then Some cause.Unknown
    else if bytes_eq form (codes "link") then Some cause.LinkFault
    else if bytes_eq form (codes "feed") then Some cause.FeedClosed
    else if bytes_eq form (codes "restart") then Some cause.Restart
    else if bytes_eq form (codes "memory") then Some cause.Memory
    else None

-- the causes that name a place in the client's stream: `client PLACE`, `noheader PLACE`
unfoldable pub place_cause : List ℕ → ℕ → Option Cause
place_cause form n =
    if bytes_eq form (codes "client") then Some (cause.ClientEnd n)
    else if bytes_eq form (codes "noheader") then Some (cause.NoHeader n)
    else None

-- the ends that name a revision or a zxid: `taken REV`, `expired REV`, and of a reaper `reaped Z`, `kept REV`, `gone REV`
unfoldable pub revision_end : List ℕ → ℤ → Option Ended
revision_end form z =
    if bytes_eq form (codes "taken") then Some (ended.Cause (cause.Taken z))
    else if bytes_eq form (codes "expired") then Some (ended.Cause (cause.Expired z))
    else if bytes_eq form (codes "reaped") then Some (ended.Reaped z)
    else if bytes_eq form (codes "kept") then Some (ended.Kept z)
    else if bytes_eq form (codes "gone") then Some (ended.Gone z)
    else None

-- the causes of two numbers: `ahead CLIENT HEAD`, `moved MINE FOUND`, `lagged CURSOR FLOOR`
unfoldable pub pair_cause : List ℕ → ℤ → ℤ → Option Cause
pair_cause form a b =
    if bytes_eq form (codes "ahead") then Some (cause.ZxidAhead a b)
    else if bytes_eq form (codes "moved") then Some (cause.Moved a b)
    else if bytes_eq form (codes "lagged") then Some (cause.Lagged a b)
    else None

abbrev pub caused : Option Cause → Option Ended
caused o = do
  x ← o
  Some (ended.Cause x)

-- the first of two ends, or the second where there is no first
abbrev pub or_end : Option Ended → Option Ended → Option Ended
or_end (Some x) later = Some x
or_end None later = later

-- the ends with one word after their form
unfoldable pub end_of_place : List ℕ → List ℕ → Option Ended
end_of_place form a = do
  n ← place a
  x ← place_cause form n
  Some (ended.Cause x)

unfoldable pub end_of_revision : List ℕ → List ℕ → Option Ended
end_of_revision form a = do
  z ← long a
  revision_end form z

unfoldable pub end_of_one : List ℕ → List ℕ → Option Ended
end_of_one form a = or_end (end_of_place form a) (end_of_revision form a)

-- the ends with two words after their form: `length PLACE LENGTH`, `damaged KEYHEX VALHEX`, and those of two numbers
unfoldable pub bad_length_end : List ℕ → List ℕ → Option Ended
bad_length_end a b = do
  n ← place a
  l ← length_word b
  Some (ended.Cause (cause.BadLength n l))

unfoldable pub damaged : List ℕ → List ℕ → Option Ended
damaged a b = do
  key ← hex a
  value ← hex b
  Some (ended.Cause (cause.Damaged key value))

unfoldable pub end_of_pair : List ℕ → List ℕ → List ℕ → Option Ended
end_of_pair form a b = do
  x ← long a
  y ← long b
  end ← pair_cause form x y
  Some (ended.Cause end)

unfoldable pub end_of_two : List ℕ → List ℕ → List ℕ → Option Ended
end_of_two form a b =
    if bytes_eq form (codes "length") then bad_length_end a b
    else if bytes_eq form (codes "damaged") then damaged a b
    else end_of_pair form a b

abbrev pub end_read : Words → Option Ended
end_read (form ∷ []) = caused (plain_cause form)
end_read (form ∷ a ∷ []) = end_of_one form a
end_read (form ∷ a ∷ b ∷ []) = end_of_two form a b
end_read _ = None

-- `close C ..`
unfoldable pub close_line : Words → Option TranscriptLine
close_line [] = None
close_line (c ∷ words) = do
  connection ← number c
  end ← end_read words
  Some (line.Close connection end)

-- ---- the other forms

-- `open C P ID PW`, and `open1` for a session of layout 1
unfoldable pub open_line : Layout → Words → Option TranscriptLine
open_line layout words = do
  w ← four_words words
  c ← number w.0
  p ← number w.1
  id ← session_id w.2
  passwd ← password w.3
  Some (line.Open c p id passwd layout)

-- `frame C I Z HEX`
unfoldable pub frame_line : Words → Option TranscriptLine
frame_line words = do
  w ← four_words words
  c ← number w.0
  i ← place w.1
  zxid ← long w.2
  bytes ← hex w.3
  Some (line.Frame c i zxid bytes)

-- `send C HEX`
unfoldable pub send_line : Words → Option TranscriptLine
send_line words = do
  w ← two_words words
  c ← number w.0
  bytes ← hex w.1
  Some (line.Send c bytes)

-- `lapse REV ID`
unfoldable pub lapse_line : Words → Option TranscriptLine
lapse_line words = do
  w ← two_words words
  revision ← long w.0
  id ← session_id w.1
  Some (line.Lapse revision id)

unfoldable pub line_of_form : List ℕ → Words → Option TranscriptLine
line_of_form form words =
    if bytes_eq form (codes "update") then update_line words
    else if bytes_eq form (codes "open") then open_line Two words
    else if bytes_eq form (codes "open1") then open_line One words
    else if bytes_eq form (codes "frame") then frame_line words
    else if bytes_eq form (codes "send") then send_line words
    else if bytes_eq form (codes "lapse") then lapse_line words
    else if bytes_eq form (codes "close") then close_line words
    else None

abbrev pub of_words : Words → Option TranscriptLine
of_words [] = None
of_words (form ∷ words) = line_of_form form words

-- what a line says, if it is of one of the forms and not too long (32 is a blank)
unfoldable pub line_read : List ℕ → Option TranscriptLine
line_read bytes = if nat_lt max_line (length bytes) then None else of_words (pieces 32 bytes)
