-- Watches (Programmer's Guide, "ZooKeeper Watches"). A connection has data watches and child watches, each a set of paths.
-- A watch fires once. Notices are the record WatcherEvent of zookeeper.jute.
use Rattle.std.specs.Prelude.{ℕ, ℤ, pos, Bool, true, false, ◌||◌, ◌&&◌, ◌==◌, List, [], ◌∷◌, ◌++◌, Option, Some, None, if◌then◌else◌, int_lt}
use Rattle.std.specs.Ordering.{int_eq}
use Rattle.zk_model.specs.declared.node.Node.{Node}
use Rattle.zk_model.specs.declared.reply.Notice.{Notice}
use Rattle.zk_model.specs.declared.node.Trigger.{Trigger}
use Rattle.zk_model.specs.declared.node.Trigger.TheVariants.{Created, Deleted, Changed, Children}
use Rattle.std.specs.FinMap.{get, insert, remove, empty, len, contains_key}
use Rattle.zx_base.specs.Maps.{Bytes, Map}
use Rattle.zk_model.specs.Paths.{is_path}
use Rattle.zk_model.specs.Znodes.{Tree}

-- a finite set of paths
abbrev pub PathSet : Type 0
PathSet = Map (Unit {0})

-- the paths whose data watch is armed, and those whose child watch is
pub record Watches : Type 0 where
  pub on_data : PathSet
  pub on_children : PathSet

abbrev pub no_watches : Watches
no_watches = record { on_data = empty; on_children = empty }

-- no watch is armed
abbrev pub is_unarmed : Watches → Bool
is_unarmed w = (len w.on_data == 0) && (len w.on_children == 0)

-- the watches with the path's data watch
abbrev pub arm_data : Watches → Bytes → Watches
arm_data w p = record w { on_data = insert w.on_data p tt }

-- the watches with the path's child watch
abbrev pub arm_children : Watches → Bytes → Watches
arm_children w p = record w { on_children = insert w.on_children p tt }

-- the watches without the path's data watch
abbrev pub fired_data : Watches → Bytes → Watches
fired_data w p = record w { on_data = remove w.on_data p }

-- the watches without the path's child watch
abbrev pub fired_children : Watches → Bytes → Watches
fired_children w p = record w { on_children = remove w.on_children p }

-- a notice of this type, where a watch was hit
abbrev pub note : Bool → ℕ → Bytes → List Notice
note hit kind p = if hit then record { kind = pos kind; path = p } ∷ [] else []

-- the path whose watches a change fires
abbrev pub trigger_path : Trigger → Bytes
trigger_path (Created p) = p
trigger_path (Deleted p) = p
trigger_path (Changed p) = p
trigger_path (Children p) = p

-- what a change leaves armed, and the notice that it gives
abbrev pub fire : Watches → Trigger → Watches × List Notice
fire w (Created p) = (fired_data w p, note (contains_key w.on_data p) 1 p)
fire w (Deleted p) = (fired_children (fired_data w p) p, note (contains_key w.on_data p || contains_key w.on_children p) 2 p)
fire w (Changed p) = (fired_data w p, note (contains_key w.on_data p) 3 p)
fire w (Children p) = (fired_children w p, note (contains_key w.on_children p) 4 p)

-- what several changes leave armed one after the other, and the notices that they give
unfoldable pub fire_all : Watches → List Trigger → Watches × List Notice
fire_all w [] = (w, [])
fire_all w (t ∷ ts) = let first = fire w t in let rest = fire_all first.0 ts in (rest.0, first.1 ++ rest.1)

-- ---- setWatches: of a data or child path it is told at once that its node changed after the relative zxid, or that there is
-- ---- none; of an exist path, that its node is there, whenever that was made; the rest is armed

-- the watches and the notices so far
pub record Seen : Type 0 where
  pub watches : Watches
  pub notices : List Notice

-- one more notice
abbrev pub tell : Seen → ℕ → Bytes → Seen
tell s kind p = record s { notices = s.notices ++ note true kind p }

-- a data path, with the node that is seen there
abbrev pub see_data : ℤ → Seen → Bytes → Option Node → Seen
see_data since s p None = tell s 2 p
see_data since s p (Some n) = if int_lt since n.mzxid then tell s 3 p else record s { watches = arm_data s.watches p }

-- an exist path. Its data watch is armed where no node is there and the path is valid
abbrev pub see_exist : Bool → Seen → Bytes → Option Node → Seen
see_exist valid s p (Some n) = tell s 1 p
see_exist true s p None = record s { watches = arm_data s.watches p }
see_exist false s p None = s

-- a child path
abbrev pub see_children : ℤ → Seen → Bytes → Option Node → Seen
see_children since s p None = tell s 2 p
see_children since s p (Some n) = if int_lt since n.pzxid then tell s 4 p else record s { watches = arm_children s.watches p }

-- the node at a path; a path that isn't valid has none
abbrev pub valid_at : Bytes → Tree → Option Node
valid_at p t = if is_path p then get t p else None

-- the paths of a list, one after the other
abbrev pub see_all : (Seen → Bytes → Seen) → Seen → List (Bytes) → Seen
see_all f s [] = s
see_all f s (p ∷ ps) = see_all f (f s p) ps

-- a setWatches of these lists on a tree: the data paths first, then the exist paths, then the child paths
unfoldable pub set_watches : Tree → ℤ → List (Bytes) → List (Bytes) → List (Bytes) → Watches → Seen
set_watches t since datas exists children w =
    let first = see_all (λ s p. see_data since s p (valid_at p t)) (record { watches = w; notices = [] }) datas in
    let second = see_all (λ s p. see_exist (is_path p) s p (valid_at p t)) first exists in
    see_all (λ s p. see_children since s p (valid_at p t)) second children

-- ---- checkWatches and removeWatches: they name watches of a path by a type (`Watcher.WatcherType`), 1 its child watch, 2 its data
-- ---- watch, 3 both

abbrev pub is_watcher_type : ℤ → Bool
is_watcher_type kind = int_eq kind (pos 1) || int_eq kind (pos 2) || int_eq kind (pos 3)

abbrev pub names_children : ℤ → Bool
names_children kind = int_eq kind (pos 1) || int_eq kind (pos 3)

abbrev pub names_data : ℤ → Bool
names_data kind = int_eq kind (pos 2) || int_eq kind (pos 3)

-- one of the watches that the type names is armed
abbrev pub is_watched : Watches → Bytes → ℤ → Bool
is_watched w p kind = (names_children kind && contains_key w.on_children p) || (names_data kind && contains_key w.on_data p)

-- the watches without those that the type names
abbrev pub unwatched : Watches → Bytes → ℤ → Watches
unwatched w p kind = record {
  on_data = if names_data kind then remove w.on_data p else w.on_data;
  on_children = if names_children kind then remove w.on_children p else w.on_children;
}
