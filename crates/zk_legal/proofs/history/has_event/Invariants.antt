use Rattle.std.proofs.Common.{◌≡◌, drop}
use Rattle.zk_legal.specs.Faults.{has_event}
use Rattle.zk_legal.proofs.history.has_event.Given as goal

abbrev pub invariant-loop-line : goal.invariant-loop-line
invariant-loop-line l = has_event l.lines ≡ has_event (drop l.line-index l.lines)
