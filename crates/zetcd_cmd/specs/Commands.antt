-- Which command the words name.
use Rattle.std.specs.Prelude.{ℕ, List, Option, Some, None}
use denote.Ref.{Bor}
use Rattle.zetcd_cmd.specs.declared.command.Command.{Command}
use Rattle.zetcd_cmd.specs.declared.command.Command.TheVariants as command
use Rattle.zetcd_cmd.specs.Outcomes.{IsJudge, IsReplay, IsShow}

abbrev pub IsCommand : Option Command → List (Bor (List ℕ)) → Type 0
IsCommand (Some command.Replay) words = IsReplay words
IsCommand (Some command.Show) words = IsShow words
IsCommand (Some command.Judge) words = IsJudge words
IsCommand None words = (¬ IsReplay words) × (¬ IsShow words) × (¬ IsJudge words)
