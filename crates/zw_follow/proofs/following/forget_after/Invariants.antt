use Rattle.std.proofs.Common.{◌≡◌}
use Rattle.zw_follow.proofs.following.forget_after.Given as goal

abbrev pub invariant-tries : goal.invariant-tries
invariant-tries g l = (goal.iterator-tries g).can_next l.iterator' × (goal.iterator-tries g).is_finite l.iterator' × (l.hub.list ≡ l.fn.hub.list)
