-- How the reading of a script ended.
use Rattle.std.specs.Prelude.{◌⊎◌, ℕ, Bool, List, Option}
use Rattle.zx_outside.specs.Reading.{Gives}
use Rattle.zetcd_cmd.specs.declared.report.End.{End}
use Rattle.zetcd_cmd.specs.declared.report.End.TheVariants as end
use Rattle.zetcd_cmd.specs.declared.script.Script.{Script}
use Rattle.zetcd_cmd.specs.Outcomes.{IsAtItsEnd}
use Rattle.zetcd_cmd.specs.Scripting.{ScriptStands, IsApplied, ScriptEnds, EndsEarly}

-- the script was these bytes, and ended so
abbrev pub EndsAll : End → List ℕ → Script → Type 0
EndsAll end.Whole input s = IsApplied input s
EndsAll (end.Stopped why) input s = ScriptEnds input s why
EndsAll end.ReadFault input s = ⊥

-- these bytes of the script were read, and it ended so
abbrev pub EndsAt : End → Bool → Option (List ℕ) → List ℕ → Script → Type 0
EndsAt end.Whole ended left read s = IsAtItsEnd ended left × IsApplied read s
EndsAt (end.Stopped why) ended left read s = (IsAtItsEnd ended left × ScriptEnds read s why) ⊎ EndsEarly read s why
EndsAt end.ReadFault ended left read s = ScriptStands read s

-- some bytes were read from the source, and the script ended so; in each pair, what the source told before comes first
abbrev pub EndsReading : End → Bool → Script → Option (List ℕ) → Option (List ℕ) → Option (List ℕ) → Option (List ℕ) → Type 0
EndsReading how ended s given given' left left' = (read : List ℕ) × Gives read given given' left left' × EndsAt how ended left' read s
