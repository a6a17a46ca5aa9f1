-- Each stage awaits its own answer.
use Rattle.zp_core.proofs.Answered.{alive-answers, checked-answers, committing-answers, reading-answers}
use Rattle.zp_core.proofs.inputs.answered.Goals as goal

pub returns-in-KeepingAlive : goal.returns-in-KeepingAlive
returns-in-KeepingAlive c =
    alive-answers c.kept_alive.result c.args.client.now c.kept_alive.new.client c.args.stage c.args.answer.now c.args.now c.in-KeepingAlive.frame c.in-KeepingAlive.is c.kept_alive.ensures

pub returns-in-Checking : goal.returns-in-Checking
returns-in-Checking c = checked-answers c.checked.result c.args.client.now c.checked.new.client c.args.stage c.args.answer.now c.args.now c.in-Checking.frame c.in-Checking.is c.checked.ensures

pub returns-in-Reading : goal.returns-in-Reading
returns-in-Reading c = reading-answers c.read_on.result c.args.client.now c.read_on.new.client c.args.stage c.args.answer.now c.args.now c.in-Reading.round c.in-Reading.is c.read_on.ensures

pub returns-in-Committing : goal.returns-in-Committing
returns-in-Committing c =
    committing-answers c.committed.result c.args.client.now c.committed.new.client c.args.stage c.args.answer.now c.args.now c.in-Committing.commit c.in-Committing.is c.committed.ensures
