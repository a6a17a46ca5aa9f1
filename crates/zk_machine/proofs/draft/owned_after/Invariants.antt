use Rattle.std.proofs.Common.{◌≡◌, ◌+◌, ◌≤◌, drop}
use Rattle.zk_machine.specs.Tallies.{tallied_all, was_owned, is_owned_now}
use Rattle.zk_machine.proofs.draft.owned_after.Given as goal

abbrev pub invariant-loop-write : goal.invariant-loop-write
invariant-loop-write l = record {
  tallied : tallied_all (was_owned l.session) (is_owned_now l.session) l.count (drop l.write-index l.writes) ≡ tallied_all (was_owned l.session) (is_owned_now l.session) l.fn.before l.writes;
  few : l.count ≤ l.fn.before + l.write-index;
}
