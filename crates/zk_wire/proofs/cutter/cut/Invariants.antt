use Rattle.std.proofs.Common.{◌≡◌, ℕ, List, ◌++◌, length}
use Rattle.zk_jute.specs.JuteValues.{Spelled}
use Rattle.zk_jute.specs.Frames.{IsFrame}
use Rattle.zk_wire.proofs.cutter.cut.Given as goal

abbrev pub invariant-loop-frame : goal.invariant-loop-frame
invariant-loop-frame l = (front : List ℕ) × Spelled IsFrame l.frames.items front × (l.bytes ≡ front ++ l.rest)

abbrev pub decreases-loop-frame : goal.decreases-loop-frame
decreases-loop-frame l = length l.rest
