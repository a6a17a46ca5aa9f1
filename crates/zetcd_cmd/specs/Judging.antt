-- The text that a judgement reads, and what it writes of it. In each pair, what was told before comes first.
use Rattle.std.specs.Prelude.{◌≡◌, ℕ, ◌<◌, Bool, List, length, ⊤, Option}
use Rattle.zt_text.specs.Scripts.{max_script}
use Rattle.zx_outside.specs.Reading.{Gives}
use Rattle.zx_outside.specs.Writing.{Takes}
use Rattle.zetcd_cmd.specs.declared.judge.Reading.{Reading}
use Rattle.zetcd_cmd.specs.declared.judge.Reading.TheVariants as reading
use Rattle.zetcd_cmd.specs.declared.status.Status.{Status}
use Rattle.zetcd_cmd.specs.declared.status.Status.TheVariants as status
use Rattle.zetcd_cmd.specs.Judged.{Finds}
use Rattle.zetcd_cmd.specs.Outcomes.{IsAtItsEnd, TakesSome}

-- What is kept of the bytes that were read: all of them, where the input came to its end or is too long. After a fault, or where
-- memory was refused, nothing is said of it.
abbrev pub IsText : Reading → Bool → Option (List ℕ) → List ℕ → List ℕ → Type 0
IsText reading.Whole ended left read text = IsAtItsEnd ended left × (read ≡ text)
IsText reading.TooLong ended left read text = (max_script < length text) × (read ≡ text)
IsText reading.Fault ended left read text = ⊤
IsText reading.Memory ended left read text = ⊤

-- some bytes were read from the source, and this text is kept of them
abbrev pub IsReadWhole : Reading → List ℕ → Bool → Option (List ℕ) → Option (List ℕ) → Option (List ℕ) → Option (List ℕ) → Type 0
IsReadWhole how text ended given given' left left' = (read : List ℕ) × Gives read given given' left left' × IsText how ended left' read text

-- what is found of a text was written; a front of it, where the output has a fault; nothing, where memory was refused
abbrev pub TellsVerdict : Status → List ℕ → Option (List ℕ) → Option (List ℕ) → Type 0
TellsVerdict status.WriteFault text taken taken' = (other : Status) × (whole : List ℕ) × Finds other text whole × TakesSome whole taken taken'
TellsVerdict status.Memory text taken taken' = taken' ≡ taken
TellsVerdict s text taken taken' = (output : List ℕ) × Finds s text output × Takes output taken taken'
