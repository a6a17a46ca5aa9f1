use Rattle.std.proofs.Common.{◌≡◌, ℕ, ◌+◌, take, length}
use Rattle.std.specs.Prelude.{sum_by}
use Rattle.zk_model.specs.Loads.{within}
use Rattle.zk_model.proofs.load.path_load.Given as goal

abbrev pub invariant-loop-path : goal.invariant-loop-path
invariant-loop-path l = (n : ℕ) → l.fn.before ≡ within n → l.sum ≡ within (n + sum_by length (take l.path-index l.paths))
