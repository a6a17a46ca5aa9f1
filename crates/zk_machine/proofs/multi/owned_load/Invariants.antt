use Rattle.std.proofs.Common.{◌≡◌, ℕ, ◌+◌, take, length}
use Rattle.std.specs.Prelude.{sum_by}
use Rattle.zk_model.specs.Znodes.{owned}
use Rattle.zk_model.specs.Loads.{within}
use Rattle.zk_machine.proofs.multi.owned_load.Given as goal

abbrev pub invariant-loop-session : goal.invariant-loop-session
invariant-loop-session l = (n : ℕ) → l.fn.before ≡ within n → l.sum ≡ within (n + sum_by (λ s. sum_by length (owned l.tree s)) (take l.session-index l.sessions))
