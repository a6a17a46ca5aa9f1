use Rattle.std.proofs.Common.{ap, sym, ◌∙◌}
use Rattle.zk_least.specs.LeastWalk.{given}
use Rattle.zk_judge.specs.Sent.{packets_in}
use Rattle.zk_judge.specs.Seen.{walker_of}
use Rattle.zk_judge.proofs.Tries.{tried-early, tried-late, tried-unframed}
use Rattle.zk_judge.proofs.walks.allowed.Goals as goal

pub returns-in_ok-step-in-Some-clause-step : goal.returns-in_ok-step-in-Some-clause-step
returns-in_ok-step-in-Some-clause-step c =
    c.given.ensures.step
    ∙ ap (given (packets_in c.args.packets)) c.in_ok-step-in-Some.ensures
    ∙ sym (tried-late c.args.index.now.lines.now c.args.party.connection c.args.party.session (walker_of c.args.walker) (packets_in c.args.packets) c.args.moment _ (sym c.in-Some.ensures.placed) c.if-place-moment.true)

pub returns-else-place-moment-clause-step : goal.returns-else-place-moment-clause-step
returns-else-place-moment-clause-step c =
    sym (tried-early c.args.index.now.lines.now c.args.party.connection c.args.party.session (walker_of c.args.walker) (packets_in c.args.packets) c.args.moment _ (sym c.in-Some.ensures.placed) c.if-place-moment.false)

pub returns-in-None-clause-step : goal.returns-in-None-clause-step
returns-in-None-clause-step c =
    sym (tried-unframed c.args.index.now.lines.now c.args.party.connection c.args.party.session (walker_of c.args.walker) (packets_in c.args.packets) c.args.moment (sym (rw c.in-None.is at c.placed_frame.ensures.placed)))
