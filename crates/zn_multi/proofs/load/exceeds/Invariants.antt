-- The sum so far is that of the data and of the sessions so far.
use Rattle.std.proofs.Common.{◌≡◌, ℕ, ◌+◌}
use Rattle.std.specs.Prelude.{sum_by}
use Rattle.zk_model.specs.Multi.{data_len}
use Rattle.zk_model.specs.Loads.{within}
use Rattle.zn_multi.specs.Deciding.{AreOwnedLoads}
use Rattle.zn_multi.proofs.load.exceeds.Given as goal

abbrev pub invariant-loop-session : goal.invariant-loop-session
invariant-loop-session l = (n : ℕ) × AreOwnedLoads l.view l.yielded n × (l.sum ≡ within (sum_by data_len l.parts + n))
