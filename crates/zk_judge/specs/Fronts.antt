-- The first lines of a transcript.
use Rattle.std.specs.Prelude.{◌≡◌, ℕ, false, List, length, take, Some, slice_get}
use Rattle.zk_transcript.specs.declared.transcript.TranscriptLine.{TranscriptLine}
use Rattle.zk_transcript.specs.Walks.{Walker, is_above}

abbrev pub IsFront : List TranscriptLine → List TranscriptLine → Type 0
IsFront past lines = past ≡ take (length past) lines

-- no update before the moment right after a walker's last update is above the walker's zxid
abbrev pub IsTold : List TranscriptLine → Walker → Type 0
IsTold lines w = (k : ℕ) (l : TranscriptLine) → slice_get (take w.since lines) k ≡ Some l → is_above w.zxid l ≡ false
