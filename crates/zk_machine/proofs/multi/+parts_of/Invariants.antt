use Rattle.std.proofs.Common.{length}
use Rattle.zk_machine.proofs.multi.+parts_of.Given as goal

abbrev pub decreases-parts_of : goal.decreases-parts_of
decreases-parts_of l = length l.parts.now
