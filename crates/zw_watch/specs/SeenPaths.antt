-- What a setWatches makes of what was seen at its paths (Programmer's Guide, "ZooKeeper Watches"; zookeeper.jute, SetWatches).
use Rattle.std.specs.Prelude.{◌≡◌, ℕ, ℤ, Bool, List, [], ◌∷◌, ◌++◌, map, Option, Some, None, option_map, int_lt, if◌then◌else◌}
use Rattle.zk_model.specs.declared.node.Node.{Node}
use Rattle.zk_model.specs.Paths.{is_path}
use Rattle.zk_model.specs.Watches.{Watches, Seen, arm_data, arm_children, tell, valid_at, set_watches}
use Rattle.zk_model.specs.Znodes.{Tree}
use Rattle.zx_base.specs.Maps.{Bytes}
use Rattle.zw_watch.specs.declared.rearm.Rearming.{Rearming}
use Rattle.zw_watch.specs.declared.rearm.Rearming.TheVariants.{Tells, ArmsData, ArmsChildren, ArmsNothing}
use Rattle.zw_watch.specs.declared.seen_path.SeenPath.{SeenPath}
use Rattle.zw_watch.specs.declared.seen_path.WatchList.{WatchList}
use Rattle.zw_watch.specs.declared.seen_path.WatchList.TheVariants.{Datas, Exists, Children}

-- ---- one path

-- A watch on a node that was there fires where the node is gone or was changed since; otherwise it is armed.
abbrev pub if_changed : ℤ → ℕ → Rearming → Option ℤ → Rearming
if_changed since kind arms None = Tells 2
if_changed since kind arms (Some z) = if int_lt since z then Tells kind else arms

-- A watch on a node that was not there fires where it is there now; otherwise a data watch is armed, if the path is valid.
abbrev pub if_absent : Bool → Option ℤ → Rearming
if_absent valid None = if valid then ArmsData else ArmsNothing
if_absent valid (Some z) = Tells 1

-- what becomes of the watch on a path, by the list that it stands in
abbrev pub rearming_of : ℤ → Bool → WatchList → Option ℤ → Rearming
rearming_of since valid Datas at = if_changed since 3 ArmsData at
rearming_of since valid Exists at = if_absent valid at
rearming_of since valid Children at = if_changed since 4 ArmsChildren at

-- the watches and notices after that
abbrev pub with_rearming : Seen → Bytes → Rearming → Seen
with_rearming s p (Tells kind) = tell s kind p
with_rearming s p ArmsData = record s { watches = arm_data s.watches p }
with_rearming s p ArmsChildren = record s { watches = arm_children s.watches p }
with_rearming s p ArmsNothing = s

abbrev pub see_at : ℤ → Seen → SeenPath → Seen
see_at since s x = with_rearming s x.path (rearming_of since (is_path x.path) x.list x.at)

-- ---- all paths, in their order

unfoldable pub see_paths : ℤ → Seen → List SeenPath → Seen
see_paths since s [] = s
see_paths since s (x ∷ xs) = see_paths since (see_at since s x) xs

-- nothing is told yet
abbrev pub unseen : Watches → Seen
unseen w = record { watches = w; notices = [] }

-- ---- the paths of a setWatches on a tree

-- the zxid of the last change of the node's children in the list of child watches, otherwise of its data; None where it isn't there
abbrev pub changed_at : WatchList → Option Node → Option ℤ
changed_at Datas n = option_map (λ (x : Node). x.mzxid) n
changed_at Exists n = option_map (λ (x : Node). x.mzxid) n
changed_at Children n = option_map (λ (x : Node). x.pzxid) n

-- a path as it is seen on a tree
abbrev pub path_on : Tree → WatchList → Bytes → SeenPath
path_on t list p = record { path = p; list = list; at = changed_at list (valid_at p t) }

-- the paths of a setWatches as they are seen on a tree: those of its data, exist and child watches, in this order
abbrev pub paths_on : Tree → List Bytes → List Bytes → List Bytes → List SeenPath
paths_on t datas exists children = map (path_on t Datas) datas ++ map (path_on t Exists) exists ++ map (path_on t Children) children

-- where the paths were seen on a tree, this is what a setWatches makes of that tree
abbrev pub IsSetWatches : ℤ → Watches → List SeenPath → Seen → Type 0
IsSetWatches since w xs s = (t : Tree) (datas exists children : List Bytes) → xs ≡ paths_on t datas exists children → set_watches t since datas exists children w ≡ s
