-- Which lines of a transcript name a connection.
use Rattle.std.specs.List.{list_all}
use Rattle.std.specs.Prelude.{Bool, List, None, Option, Some, false, not, ℕ, ◌==◌}
use Rattle.zk_transcript.specs.declared.transcript.TranscriptLine.TheVariants.{Close, Frame as FrameLine, Lapse as LapseLine, Open, Send, Update}
use Rattle.zk_transcript.specs.declared.transcript.TranscriptLine.{TranscriptLine}
use Rattle.zp_world_laws.specs.Holding.{made_for}

abbrev pub is_made_for : ℕ → Option ℕ → Bool
is_made_for c None = false
is_made_for c (Some d) = c == d

-- its own lines, and the updates that are made for it
abbrev pub names_conn : ℕ → TranscriptLine → Bool
names_conn c (Update u) = is_made_for c (made_for u.kind)
names_conn c (Open d p id passwd layout) = c == d
names_conn c (FrameLine d i zxid bytes) = c == d
names_conn c (Send d bytes) = c == d
names_conn c (LapseLine revision id) = false
names_conn c (Close d end) = c == d

abbrev pub is_unnamed : ℕ → List TranscriptLine → Bool
is_unnamed c lines = list_all (λ l. not (names_conn c l)) lines
