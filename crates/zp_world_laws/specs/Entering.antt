-- The entries of a world are its updates.
use Rattle.std.specs.Prelude.{◌≡◌, ℕ, pos, ◌+◌, List, length, Some, slice_get}
use Rattle.zk_transcript.specs.History.{after}
use Rattle.zk_transcript.specs.declared.transcript.TranscriptLine.{TranscriptLine}
use Rattle.zn_layout.specs.declared.entry.Entry.{Entry}
use Rattle.zp_laws.specs.Inputs.{IsEntryOfLines}

-- one for each, in order
pub record AreEntries (lines : List TranscriptLine) (entries : List Entry) : Type 0 where
  pub count : length entries ≡ (after lines).updates
  pub each : (n : ℕ) (e : Entry) → slice_get entries n ≡ Some e → IsEntryOfLines lines e × (e.number ≡ pos (n + 1))
