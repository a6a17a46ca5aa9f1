use Rattle.std.proofs.Common.{◌≡◌, drop, None}
use Rattle.zk_model.specs.Paths.{at_last_slash}
use Rattle.zn_reads.proofs.names.last_name.Given as goal

abbrev pub invariant-loop-place : goal.invariant-loop-place
invariant-loop-place l = at_last_slash (drop l.place l.path) ≡ None
