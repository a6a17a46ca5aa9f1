use Rattle.std.proofs.Common.{◌≡◌, drop, option_map}
use Rattle.zk_machine.specs.Tallies.{found_after}
use Rattle.zk_machine.proofs.draft.found_after.Given as goal

abbrev pub invariant-loop-write : goal.invariant-loop-write
invariant-loop-write l = found_after l.path (option_map (λ n. n.now) l.node) (drop l.write-index l.writes) ≡ found_after l.path (option_map (λ n. n.now) l.fn.found) l.writes
