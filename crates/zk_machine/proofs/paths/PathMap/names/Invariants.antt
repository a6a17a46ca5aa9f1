use Rattle.std.proofs.Common.{◌≡◌, ◌++◌, map}
use Rattle.std.specs.FinMap.{keys}
use Rattle.zk_model.specs.Paths.{last_name}
use Rattle.zk_machine.proofs.paths.PathMap.names.Given as goal

abbrev pub invariant-loop-path : goal.invariant-loop-path
invariant-loop-path g l = l.names.items ++ map last_name (map (λ e. e.0) l.path-iterator) ≡ map last_name (keys l.self)
