-- The lines of each connection in a transcript, apart.
use Rattle.std.specs.Prelude.{ℕ, Bool, false, ◌==◌, List, map, filter, Option, Some, None}
use Rattle.std.specs.List.{filter_map}
use Rattle.zk_transcript.specs.declared.transcript.Conversation.{Conversation}
use Rattle.zk_transcript.specs.declared.transcript.TranscriptLine.{TranscriptLine}
use Rattle.zk_transcript.specs.declared.transcript.TranscriptLine.TheVariants.{Open, Frame, Send, Close}

abbrev pub opened_by : TranscriptLine → Option ℕ
opened_by (Open c p id passwd layout) = Some c
opened_by _ = None

-- a line of connection c, its updates left out
abbrev pub is_line_of : ℕ → TranscriptLine → Bool
is_line_of c (Open d p id passwd layout) = c == d
is_line_of c (Frame d i zxid bytes) = c == d
is_line_of c (Send d bytes) = c == d
is_line_of c (Close d end) = c == d
is_line_of c _ = false

abbrev pub conversation : List TranscriptLine → ℕ → Conversation
conversation lines c = record { connection = c; lines = filter (is_line_of c) lines }

-- one for each connection, in the order in which they opened
abbrev pub conversations : List TranscriptLine → List Conversation
conversations lines = map (conversation lines) (filter_map opened_by lines)
