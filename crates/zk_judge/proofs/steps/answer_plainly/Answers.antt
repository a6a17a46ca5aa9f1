use Rattle.std.proofs.Common.{rules, arith}
use Rattle.std.proofs.lemmas.Grind.{common_steps}
use Rattle.zk_transcript.specs.Walks.{move}
use Rattle.zk_judge.proofs.steps.answer_plainly.Goals as goal

pub returns-then-walker : goal.returns-then-walker
unfolding move
returns-then-walker c = first_of (search rules, grind (arith, common_steps))

pub returns-in-Some : goal.returns-in-Some
unfolding move
returns-in-Some c = first_of (search rules, grind (arith, common_steps))

pub returns-in-None : goal.returns-in-None
unfolding move
returns-in-None c = first_of (search rules, grind (arith, common_steps))
