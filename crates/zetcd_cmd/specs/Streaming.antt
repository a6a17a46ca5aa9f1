-- A stream that is shown piece by piece: what was written, and what ended it. In each pair, what was told before comes first.
use Rattle.std.specs.Prelude.{◌≡◌, ◌⊎◌, ℕ, List, [], Option, Some, None}
use Rattle.zt_show.specs.declared.ending.Ending.{Ending}
use Rattle.zt_show.specs.declared.ending.Ending.TheVariants as ending
use Rattle.zt_show.specs.Showing.{Showing, Adds, ShowingFinishes as FinishesText}
use Rattle.zx_outside.specs.Counts.{OutputCounts}
use Rattle.zx_outside.specs.Writing.{Takes, counts_after_write}
use Rattle.zx_outside.specs.declared.sink.Took.TheVariants as took
use Rattle.zetcd_cmd.specs.declared.show.Close.{Close}
use Rattle.zetcd_cmd.specs.declared.show.Close.TheVariants as close
use Rattle.zetcd_cmd.specs.declared.status.Status.{Status}
use Rattle.zetcd_cmd.specs.declared.status.Status.TheVariants as status
use Rattle.zetcd_cmd.specs.Outcomes.{IsEndStream, IsCutStream, TakesSome}

abbrev pub status_at : Close → ℕ → Status
status_at (close.Ended (ending.End place)) lines = status.Done
status_at (close.Ended end) lines = status.Script lines
status_at close.ReadFault lines = status.ReadFault
status_at close.WriteFault lines = status.WriteFault
status_at close.Memory lines = status.Memory

-- the lines that a piece adds were written
abbrev pub ShowPasses : Showing → List ℕ → Option (List ℕ) → Option (List ℕ) → Showing → Type 0
ShowPasses old piece taken taken' new = (text : List ℕ) × Adds None old piece [] text new × Takes text taken taken'

-- the stream ended in a piece, or not all that the piece adds was written, or memory was refused and nothing was
abbrev pub Closes : Close → Showing → List ℕ → Option (List ℕ) → Option (List ℕ) → Showing → Type 0
Closes (close.Ended end) old piece taken taken' new = (text : List ℕ) × Adds (Some end) old piece [] text new × Takes text taken taken'
Closes close.ReadFault old piece taken taken' new = ⊥
Closes close.WriteFault old piece taken taken' new = (found : Option Ending) × (text : List ℕ) × Adds found old piece [] text new × TakesSome text taken taken'
Closes close.Memory old piece taken taken' new = taken' ≡ taken

-- the stream ended after what came, or not all of the last line was written, or memory was refused and nothing was
abbrev pub ShowFinishes : Close → Showing → Option (List ℕ) → Option (List ℕ) → Showing → Type 0
ShowFinishes (close.Ended end) old taken taken' new = (text : List ℕ) × FinishesText end old [] text new × Takes text taken taken'
ShowFinishes close.ReadFault old taken taken' new = ⊥
ShowFinishes close.WriteFault old taken taken' new = (end : Ending) × (text : List ℕ) × FinishesText end old [] text new × TakesSome text taken taken'
ShowFinishes close.Memory old taken taken' new = taken' ≡ taken

-- the count of a sink, by how a stream ended
abbrev pub counts_at : Close → OutputCounts → OutputCounts
counts_at close.WriteFault counts = counts_after_write took.Failed counts
counts_at _ counts = counts

-- a stream ended at a frame's end or inside a frame
abbrev pub IsOpen : Ending → Type 0
IsOpen end = IsEndStream end ⊎ IsCutStream end
