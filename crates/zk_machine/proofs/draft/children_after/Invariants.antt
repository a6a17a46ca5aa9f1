use Rattle.std.proofs.Common.{◌≡◌, ◌+◌, ◌≤◌, drop}
use Rattle.zk_machine.specs.Tallies.{tallied_all, was_child, is_child_now}
use Rattle.zk_machine.proofs.draft.children_after.Given as goal

abbrev pub invariant-loop-write : goal.invariant-loop-write
invariant-loop-write l = record {
  tallied : tallied_all (was_child l.path) (is_child_now l.path) l.count (drop l.write-index l.writes) ≡ tallied_all (was_child l.path) (is_child_now l.path) l.fn.before l.writes;
  few : l.count ≤ l.fn.before + l.write-index;
}
