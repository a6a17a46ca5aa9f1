use Rattle.std.proofs.Common.{◌≡◌, ◌++◌, map, take}
use Rattle.std.specs.BTreeMap as tree
use Rattle.ev_types.specs.Ranges.{shown}
use Rattle.ev_store.proofs.range.copies.Given as goal

abbrev pub invariant-loop-found : goal.invariant-loop-found
invariant-loop-found l = l.kvs ++ map (shown l.keys_only) (take l.left l.found-iterator) ≡ map (shown l.keys_only) (take l.most (tree.values l.held))
