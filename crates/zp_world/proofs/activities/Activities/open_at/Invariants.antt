-- The numbers so far, and those that are open among the rest.
use Rattle.std.proofs.Common.{◌≡◌, ◌++◌}
use Rattle.zp_world.specs.Activities.{open_numbers}
use Rattle.zp_world.proofs.Restarting.{numbers_among}
use Rattle.zp_world.proofs.activities.Activities.open_at.Given as goal

abbrev pub invariant-loop-number : goal.invariant-loop-number
invariant-loop-number l = l.numbers.items ++ numbers_among l.proxy l.number-iterator ≡ open_numbers l.proxy l.self
