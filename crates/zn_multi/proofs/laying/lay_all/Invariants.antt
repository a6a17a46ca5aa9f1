-- The operations so far are laid.
use Rattle.std.proofs.Common.{◌≡◌}
use Rattle.zn_multi.specs.Laying.{with_acts}
use Rattle.zn_multi.proofs.laying.lay_all.Given as goal

abbrev pub invariant-loop-act : goal.invariant-loop-act
invariant-loop-act l = l.over ≡ with_acts l.fn.over l.yielded
