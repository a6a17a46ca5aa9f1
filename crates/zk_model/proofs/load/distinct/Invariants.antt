use Rattle.std.proofs.Common.{◌≡◌, [], drop}
use Rattle.std.specs.Prelude.{fold}
use Rattle.std.specs.Ordering.{int_cmp}
use Rattle.std.specs.BTreeSet.{insert_key}
use Rattle.zk_model.proofs.load.distinct.Given as goal

abbrev pub invariant-loop-session : goal.invariant-loop-session
invariant-loop-session l = fold (insert_key int_cmp) l.once.keys (drop l.session-index l.sessions) ≡ fold (insert_key int_cmp) [] l.sessions
