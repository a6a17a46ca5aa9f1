use Rattle.std.proofs.Common.{take}
use Rattle.zetcd_cmd.specs.Scripting.{HasNoLineFeed}
use Rattle.zetcd_cmd.proofs.script.first_line.Given as goal

-- no line feed so far
abbrev pub invariant-loop-at : goal.invariant-loop-at
invariant-loop-at l = HasNoLineFeed (take l.at l.bytes)
