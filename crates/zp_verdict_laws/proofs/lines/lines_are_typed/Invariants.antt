-- Those that were read over are of their types.
use Rattle.std.proofs.Common.{take}
use Rattle.zp_verdict_laws.proofs.lines.lines_are_typed.Given as goal
use Rattle.zp_verdict_laws.specs.Written.{AreTyped}

abbrev pub invariant-loop-line : goal.invariant-loop-line
invariant-loop-line l = AreTyped (take l.line-index l.lines)
