use Rattle.std.proofs.Common.{◌≡◌, drop}
use Rattle.zk_model.specs.Paths.{is_path}
use Rattle.zk_model.specs.Watches.{see_all, see_exist, valid_at}
use Rattle.zk_answers.specs.Outcomes.{seen_of}
use Rattle.zk_answers.proofs.rearm.see_all_exists.Given as goal

abbrev pub invariant-loop-path : goal.invariant-loop-path
invariant-loop-path l = see_all (λ s p. see_exist (is_path p) s p (valid_at p l.tree)) (seen_of l.seen) (drop l.path-index l.paths) ≡ see_all (λ s p. see_exist (is_path p) s p (valid_at p l.tree)) (seen_of l.fn.first) l.paths
