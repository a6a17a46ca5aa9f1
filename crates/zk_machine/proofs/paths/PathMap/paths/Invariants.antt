use Rattle.std.proofs.Common.{◌≡◌, ◌++◌, map}
use Rattle.std.specs.FinMap.{keys}
use Rattle.zk_machine.proofs.paths.PathMap.paths.Given as goal

abbrev pub invariant-loop-path : goal.invariant-loop-path
invariant-loop-path g l = l.paths.items ++ map (λ e. e.0) l.path-iterator ≡ keys l.self
