-- The lines that stand before a place.
use Rattle.std.specs.Prelude.{◌≡◌, List, Option, Some, slice_get, take}
use Rattle.zk_model.specs.declared.reply.Body.{Body}
use Rattle.zk_transcript.specs.declared.transcript.TranscriptLine.{TranscriptLine}
use Rattle.zk_transcript.specs.History.{state_at}
use Rattle.zk_history.specs.declared.past.Past.{Past}
use Rattle.zk_history.specs.Commits.{response_to}

abbrev pub lines_of : Past → List TranscriptLine
lines_of p = take p.len p.all.now

-- a response is that to the line which stands next, if one does
abbrev pub RespondsNext : Past → Option Body → Type 0
RespondsNext p response = (l : TranscriptLine) → slice_get p.all.now p.len ≡ Some l
    → response ≡ response_to (lines_of p) (state_at p.all.now p.len) l
