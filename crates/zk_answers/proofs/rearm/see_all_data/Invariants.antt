use Rattle.std.proofs.Common.{◌≡◌, drop}
use Rattle.zk_model.specs.Watches.{see_all, see_data, valid_at}
use Rattle.zk_answers.specs.Outcomes.{seen_of}
use Rattle.zk_answers.proofs.rearm.see_all_data.Given as goal

abbrev pub invariant-loop-path : goal.invariant-loop-path
invariant-loop-path l = see_all (λ s p. see_data l.since s p (valid_at p l.tree)) (seen_of l.seen) (drop l.path-index l.paths) ≡ see_all (λ s p. see_data l.since s p (valid_at p l.tree)) (seen_of l.fn.first) l.paths
