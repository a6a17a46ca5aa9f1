use Rattle.std.proofs.Common.{subst}
use Rattle.std.proofs.lemmas.List.Elements.{All-more}
use Rattle.zk_judge.proofs.Opened.{take-end}
use Rattle.zp_verdict_laws.proofs.lines.lines_are_typed.Goals as goal
use Rattle.zp_verdict_laws.specs.Written.{AreTyped, IsTyped}

pub loop-line-preserved : goal.loop-line-preserved
loop-line-preserved c =
    All-more IsTyped c.args.lines.now c.loop-line.line-index c.line-item.result c.loop-line-test.true c.loop-line.invariant (subst IsTyped c.line-item.is c.line_is_typed.ensures)

pub returns : goal.returns
returns c = subst AreTyped (take-end c.args.lines.now c.loop-line.line-index c.loop-line-test.false) c.loop-line.invariant
