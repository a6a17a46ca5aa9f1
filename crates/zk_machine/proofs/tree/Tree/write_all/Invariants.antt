use Rattle.std.proofs.Common.{◌≡◌}
use Rattle.zk_machine.specs.Writes.{written_all}
use Rattle.zk_machine.proofs.tree.Tree.write_all.Given as goal

abbrev pub invariant-loop-write : goal.invariant-loop-write
invariant-loop-write l = written_all l.self l.write-iterator.rest.items ≡ written_all l.fn.self l.fn.writes
