-- The keys so far are those of the nodes so far.
use Rattle.std.proofs.Common.{◌≡◌, ◌++◌, take}
use Rattle.std.specs.Prelude.{map}
use Rattle.zn_layout.specs.Keys.{CountsKey, key_bytes}
use Rattle.zs_close.proofs.wants.push_counts.Given as goal

abbrev pub invariant-loop-path : goal.invariant-loop-path
invariant-loop-path l = l.keys ≡ l.initial.keys ++ map key_bytes (map CountsKey (take l.path-index l.paths))
