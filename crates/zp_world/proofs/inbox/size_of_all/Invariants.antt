-- What was added and what is left make the whole, up to the end of its type.
use Rattle.std.proofs.Common.{◌≡◌, ◌+◌, ◌≤◌, min, drop}
use Rattle.std.specs.Prelude.{sum_by}
use Rattle.zp_step.specs.Stages.{max_count}
use Rattle.zp_world.specs.Framing.{framed_size}
use Rattle.zp_world.proofs.inbox.size_of_all.Given as goal

abbrev pub invariant-loop-frame : goal.invariant-loop-frame
invariant-loop-frame l = (l.size ≤ max_count) × (min (l.size + sum_by framed_size (drop l.frame-index l.frames)) max_count ≡ min (sum_by framed_size l.frames) max_count)
