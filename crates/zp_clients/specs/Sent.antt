-- What the lines of a transcript say of a client and its replies.
use Rattle.std.specs.Prelude.{ℕ, ◌+◌, ◌==◌, Bool, true, false, not, ◌&&◌, List, [], ◌∷◌, fold, slice_index, Option, Some, None, if◌then◌else◌}
use Rattle.std.specs.Int.{from_be_bytes, w32}
use Rattle.zk_transcript.specs.declared.transcript.TranscriptLine.{TranscriptLine}
use Rattle.zk_transcript.specs.declared.transcript.TranscriptLine.TheVariants.{Frame, Send}

-- ---- packets: a length of four bytes, and then an int that is a reply's xid, -1 in a notification, and the protocol version, 0, in
-- the answer to a connect. A client of a schedule sends xids from 1 on, and -2.

-- the int at a place, as an unsigned number
abbrev pub int_at : List ℕ → ℕ → ℕ
int_at packet place = from_be_bytes w32 (slice_index packet place ∷ slice_index packet (place + 1) ∷ slice_index packet (place + 2) ∷ slice_index packet (place + 3) ∷ [])

-- its xid is -1
abbrev pub is_notice : List ℕ → Bool
is_notice packet = int_at packet 4 == 4294967295

abbrev pub is_reply : List ℕ → Bool
is_reply packet = not (is_notice packet) && not (int_at packet 4 == 0)

-- its error, which comes after the zxid, is not 0
abbrev pub is_refusal : List ℕ → Bool
is_refusal packet = is_reply packet && not (int_at packet 16 == 0)

-- ---- a connection awaits a reply

-- after this line; None where it does not tell
abbrev pub awaited_by : ℕ → TranscriptLine → Option Bool
awaited_by c (Frame d i z bytes) = if c == d then Some true else None
awaited_by c (Send d bytes) = if (c == d) && not (is_notice bytes) then Some false else None
awaited_by c _ = None

abbrev pub told : Bool → Option Bool → Bool
told before None = before
told before (Some now) = now

-- the last line that tells decides
abbrev pub awaits_reply : ℕ → List TranscriptLine → Bool
awaits_reply c lines = fold (λ (before : Bool) (line : TranscriptLine). told before (awaited_by c line)) false lines
