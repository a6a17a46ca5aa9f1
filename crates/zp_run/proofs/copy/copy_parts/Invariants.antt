-- The copies so far, with those to come, are all.
use Rattle.std.proofs.Common.{◌≡◌, ◌++◌, drop}
use Rattle.zp_run.proofs.copy.copy_parts.Given as goal

abbrev pub invariant-loop-part : goal.invariant-loop-part
invariant-loop-part l = l.copies ++ drop l.part-index l.parts ≡ l.parts
