-- The causes for which nothing ends in a replay.
use Rattle.std.specs.Prelude.{All, Bool, Contains, List, false, true, ℕ, ◌≡◌}
use Rattle.zk_transcript.specs.Legal.{Tick}
use Rattle.zk_service.specs.declared.cause.Cause.TheVariants as cause
use Rattle.zk_service.specs.declared.cause.Cause.{Cause}
use Rattle.zk_service.specs.declared.cause.Ended.TheVariants as ended
use Rattle.zk_transcript.specs.declared.transcript.TranscriptLine.TheVariants.{Close}
use Rattle.zk_transcript.specs.declared.transcript.TranscriptLine.{TranscriptLine}
use Rattle.zp_script.specs.Runs.{Runs}
use Rattle.zp_script.specs.Worlds.{World}
use Rattle.zp_world_laws.specs.Accounting.{IsWithinCounts, OffersSession}
use Rattle.zt_text.specs.declared.script.Happening.{Happening}
use Rattle.zx_base.specs.Maps.{Bytes}

-- In a replay a client's stream is the bytes that the script's lines give, and no reading or writing of it fails. Entries are
-- always told. And running out of memory ends the run, which shows no line for it.
abbrev pub is_outside : Cause → Bool
is_outside cause.ReadFault = true
is_outside cause.WriteFault = true
is_outside cause.FeedClosed = true
is_outside cause.Memory = true
is_outside _ = false

-- a line of the transcript says that c ended by this cause
abbrev pub IsEndedBy : List TranscriptLine → ℕ → Cause → Type 0
IsEndedBy lines c why = Contains lines (Close c (ended.Cause why))

-- in every run of a script, whatever its connections offer
abbrev pub ReplaysNeverEndBy : Type 0
ReplaysNeverEndBy = (hs : List Happening) (ticks : List Tick) (w : World) (c : ℕ) (why : Cause) → Runs hs ticks w → IsEndedBy w.lines c why → is_outside why ≡ false

-- Each value under a key of the service is a record of the key's kind, since the store's keys stand for a state. So nothing ends
-- in a run by a damaged value.
abbrev pub ReplaysShowNoDamage : Type 0
ReplaysShowNoDamage = (hs : List Happening) (ticks : List Tick) (w : World) (c : ℕ) (key value : Bytes) → All OffersSession hs
    → IsWithinCounts w → Runs hs ticks w → IsEndedBy w.lines c (cause.Damaged key value) → ⊥
