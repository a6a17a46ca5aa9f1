-- What the actions of a step add to a world, one by one.
use Rattle.std.specs.Prelude.{ℕ, List, [], ◌++◌}
use Rattle.zp_script.specs.StepOutcomes.{StepOutcome}
use Rattle.zp_script.specs.Worlds.{World}
use Rattle.zp_step.specs.declared.action.Action.{Action}
use Rattle.zp_step.specs.declared.action.Action.TheVariants as action

-- what a step shows and the strays that it leaves are added; what is out of its connection then is not said
abbrev pub added : World → StepOutcome → World
added w o = record w { lines = w.lines ++ o.lines; strays = w.strays ++ o.strays }

-- of the frames that came with the last one, those that are still to be shown after an action
abbrev pub frames_left : Action → List (List ℕ) → List (List ℕ)
frames_left (action.Close why) frames = []
frames_left _ frames = frames
