-- Znodes and the tree (Programmer's Guide, "ZNodes", "ZooKeeper Stat Structure", "Ephemeral Nodes").
use Rattle.std.specs.Prelude.{ℕ, ℤ, pos, ◌-ℤ◌, ◌*ℤ◌, Bool, false, List, [], length, map, Option, Some, None}
use Rattle.std.specs.FinMap as finmap
use Rattle.std.specs.Ordering.{int_eq}
use Rattle.zk_model.specs.declared.node.Node.{Node}
use Rattle.zk_model.specs.declared.node.Stat.{Stat}
use Rattle.zx_base.specs.Maps.{Bytes, Map}
use Rattle.zk_model.specs.Paths.{is_child, last_name, root}

-- a finite map from paths to nodes, in the order of the paths' bytes
abbrev pub Tree : Type 0
Tree = Map Node

-- the part of the tree that has a node's children
abbrev pub below : Tree → Bytes → Tree
below t p = finmap.retain_keys t (is_child p)

-- the paths of a node's children, in the order of their bytes
abbrev pub children : Tree → Bytes → List Bytes
children t p = finmap.keys (below t p)

-- the last names of these paths, in the same order
abbrev pub child_names : Tree → Bytes → List Bytes
child_names t p = map last_name (children t p)

-- how many children a node has
abbrev pub num_children : Tree → Bytes → ℕ
num_children t p = finmap.len (below t p)

-- twice the creates, less the children that are there: each create and each delete counts
abbrev pub cversion : ℤ → ℕ → ℤ
cversion creates n = (pos 2 *ℤ creates) -ℤ pos n

-- what a client is shown of a node with n children
abbrev pub stat : Node → ℕ → Stat
stat node n = record {
  czxid = node.czxid;
  mzxid = node.mzxid;
  ctime = node.ctime;
  mtime = node.mtime;
  version = node.version;
  cversion = cversion node.creates n;
  aversion = pos 0;
  ephemeral_owner = node.owner;
  data_length = pos (length node.content);
  num_children = pos n;
  pzxid = node.pzxid;
}

-- what a client is shown of the node at p
abbrev pub stat_of : Tree → Bytes → Node → Stat
stat_of t p node = stat node (num_children t p)

-- whether a node is there and has this owner
abbrev pub is_owner : ℤ → Option Node → Bool
is_owner id None = false
is_owner id (Some node) = int_eq node.owner id

-- the part of the tree that a session owns: its ephemeral nodes
abbrev pub owned_by : Tree → ℤ → Tree
owned_by t id = finmap.retain_keys t (λ p. is_owner id (finmap.get t p))

-- the paths of a session's ephemeral nodes, in the order of their bytes
abbrev pub owned : Tree → ℤ → List Bytes
owned t id = finmap.keys (owned_by t id)

-- a new node, made by the update with this zxid at this time in milliseconds: its version and its count of creates are 0
abbrev pub new_node : Bytes → ℤ → ℤ → ℕ → Node
new_node content owner zxid now = record {
  content = content;
  czxid = zxid;
  mzxid = zxid;
  pzxid = zxid;
  ctime = pos now;
  mtime = pos now;
  version = pos 0;
  creates = pos 0;
  owner = owner;
}

-- the tree of a new service: the root alone
abbrev pub root_alone : ℤ → ℕ → Tree
root_alone zxid now = finmap.insert finmap.empty root (new_node [] (pos 0) zxid now)
