use Rattle.std.proofs.Common.{◌≢◌, ℕ, drop}
use Rattle.std.specs.Prelude.{All}
use Rattle.zp_turns.specs.Parents.{slash}
use Rattle.zp_turns.proofs.contention.parent_of.Given as goal

abbrev pub invariant-loop-place : goal.invariant-loop-place
invariant-loop-place l = All (λ (b : ℕ). b ≢ slash) (drop l.place l.path)
