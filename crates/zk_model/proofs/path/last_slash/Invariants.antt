use Rattle.std.proofs.Common.{◌≡◌, ◌≤◌, drop, None}
use Rattle.zk_model.specs.Paths.{at_last_slash}
use Rattle.zk_model.proofs.path.last_slash.Given as goal

abbrev pub invariant-loop-place : goal.invariant-loop-place
invariant-loop-place l = record { first : 1 ≤ l.place; none : at_last_slash (drop l.place l.path) ≡ None }
