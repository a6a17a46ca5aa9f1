use Rattle.std.proofs.Common.{◌≡◌, take}
use Rattle.std.specs.Prelude.{map}
use Rattle.zk_model.specs.Paths.{last_name}
use Rattle.zn_reads.proofs.names.names_of.Given as goal

abbrev pub invariant-loop-path : goal.invariant-loop-path
invariant-loop-path l = l.names ≡ map last_name (take l.path-index l.paths)
