-- What the next piece of a source is, over reads and idle turns.
use Rattle.std.specs.Prelude.{◌≡◌, ℕ, ◌+◌, ◌-◌, ◌^◌, ◌<◌, ◌≤◌, min, List, take, Option}
use Rattle.std.specs.Io.KnownBytes.{IsAtEnd}
use Rattle.zx_outside.specs.Counts.{InputCounts}
use Rattle.zx_outside.specs.Reading.{Gives, GivesNone}
use Rattle.zetcd_cmd.specs.declared.streams.Piece.{Piece}
use Rattle.zetcd_cmd.specs.declared.streams.Piece.TheVariants as piece
use Rattle.zetcd_cmd.specs.Outcomes.{patience}

-- a piece has at least one byte, and no more than the buffer holds
abbrev pub PieceFits : Piece → ℕ → Type 0
PieceFits (piece.Bytes n) room = (0 < n) × (n ≤ room)
PieceFits piece.End room = Unit {0}
PieceFits piece.Fault room = Unit {0}

-- the bytes at the front of the buffer were given, or none; an end comes only where no byte is left
abbrev pub PieceComes : Piece → List ℕ → Option (List ℕ) → Option (List ℕ) → Option (List ℕ) → Option (List ℕ) → Type 0
PieceComes (piece.Bytes n) buffer given given' left left' = Gives (take n buffer) given given' left left'
PieceComes piece.End buffer given given' left left' = IsAtEnd left × GivesNone given given' left left'
PieceComes piece.Fault buffer given given' left left' = GivesNone given given' left left'

-- there were so many idle turns and no fault since the counts stood so
pub record Waited (start : InputCounts) (turns : ℕ) (now : InputCounts) : Type 0 where
  pub faults : now.faults ≡ start.faults
  pub least : min (start.idles + turns) (2 ^ 64 - 1) ≤ now.idles
  pub most : now.idles ≤ start.idles + turns
  pub within : turns ≤ patience

-- there were so many idle turns and no fault since the counts stood so, and there may be more
abbrev pub MayWait : InputCounts → ℕ → InputCounts → Type 0
MayWait start turns now = Waited start turns now × (turns < patience)
