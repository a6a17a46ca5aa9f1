-- The range of keys under which the data of a node's children stands.
use Rattle.std.specs.Prelude.{◌≡◌, ◌+◌, cond, [], ◌∷◌, ◌++◌, Some, IsTrue}
use Rattle.std.specs.FinMap.{get, retain_keys}
use Rattle.ev_types.specs.Ranges.{Keys, is_within}
use Rattle.zk_model.specs.declared.node.Node.{Node}
use Rattle.zk_model.specs.Paths.{root, depth, is_path}
use Rattle.zk_model.specs.Znodes.{Tree}
use Rattle.zx_base.specs.Maps.{Bytes, same}
use Rattle.zn_layout.specs.Keys.{data_front, four_digits}

-- what the paths of a node's children have before their last slash: the node's path, or nothing for the root
abbrev pub base : Bytes → Bytes
base p = cond (same p root) [] p

-- what the data keys of the children have before the path: the kind, and the children's depth
abbrev pub child_front : Bytes → Bytes
child_front p = data_front ++ four_digits (depth p + 1)

-- the range begins at that, the path and a slash, and ends before that, the path and `0`, the byte that follows the slash
abbrev pub children_from : Bytes → Bytes
children_from p = child_front p ++ base p ++ 47 ∷ []

abbrev pub children_end : Bytes → Bytes
children_end p = child_front p ++ base p ++ 48 ∷ []

-- the keys within that range
abbrev pub children_found : Keys → Bytes → Keys
children_found keys p = retain_keys keys (is_within (children_from p) (children_end p))

-- each path of the tree is valid, as in the state after each legal history
abbrev pub HasValidPaths : Tree → Type 0
HasValidPaths t = (p : Bytes) (n : Node) → get t p ≡ Some n → IsTrue (is_path p)
