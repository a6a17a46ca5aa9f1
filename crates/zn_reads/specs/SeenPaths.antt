-- What a setWatches found at each of its paths (Programmer's Guide, "ZooKeeper Watches").
use Rattle.std.specs.Prelude.{◌≡◌, ℤ, List, ◌++◌, map, Option, Some, None, option_and_then, option_map, if◌then◌else◌}
use Rattle.ev_types.specs.declared.answer.Kv.{Kv}
use Rattle.zk_model.specs.Paths.{is_path}
use Rattle.zk_model.specs.Watches.{Watches, set_watches}
use Rattle.zk_model.specs.declared.request.Request.TheVariants as req
use Rattle.zk_service.specs.States.{State}
use Rattle.zx_base.specs.Maps.{Bytes}
use Rattle.zn_layout.specs.Keys.{DataKey, CountsKey, key_bytes}
use Rattle.zn_layout.specs.Reading.{czxid_in}
use Rattle.zn_layout.specs.StandsFor.{czxid_of}
use Rattle.zn_view.specs.declared.plan.Who.{Who}
use Rattle.zn_view.specs.Seen.{View, found_of, seen}
use Rattle.zn_view.specs.Views.{IsOf}
use Rattle.zw_watch.specs.declared.seen_path.SeenPath.{SeenPath}
use Rattle.zw_watch.specs.declared.seen_path.WatchList.{WatchList}
use Rattle.zw_watch.specs.declared.seen_path.WatchList.TheVariants.{Datas, Exists, Children}
use Rattle.zw_watch.specs.SeenPaths.{see_paths, unseen}
use Rattle.zn_view.specs.Needs.{LacksNothing}
use Rattle.zn_view.specs.Lookups.{found_at}

-- ---- what was found

-- when the node's data changed last: with the last put of its record
abbrev pub put_at : Option Kv → Option ℤ
put_at None = None
put_at (Some kv) = Some kv.mod_revision

-- when the node was made, by its record, whose first field is the czxid
abbrev pub made_at : Kv → Option ℤ
made_at kv = option_map (λ (stored : ℤ). czxid_of stored kv.mod_revision) (czxid_in kv.value)

-- when the node's children changed last: with the last put of their counts, or, where there is no record of them, with the node's create
abbrev pub children_changed : Option Kv → Option Kv → Option ℤ
children_changed own (Some counts) = Some counts.mod_revision
children_changed None None = None
children_changed (Some own) None = made_at own

-- when what the watch waits for changed last, by the node's record and the record of its counts
abbrev pub changed_at : WatchList → Option Kv → Option Kv → Option ℤ
changed_at Datas own counts = put_at own
changed_at Exists own counts = put_at own
changed_at Children own counts = children_changed own counts

-- what was found at a path; one that isn't valid counts as absent
abbrev pub seen_path : View → WatchList → Bytes → SeenPath
seen_path v list p = record { path = p; list = list; at = if is_path p then changed_at list (found_at v (DataKey p)) (found_at v (CountsKey p)) else None }

-- ---- the keys of a path, as the code keeps them: of a node's record, and for its children of its counts

abbrev pub Place : Type 0
Place = Bytes × Option Bytes

abbrev pub counts_at : WatchList → Bytes → Option Bytes
counts_at Datas p = None
counts_at Exists p = None
counts_at Children p = Some (key_bytes (CountsKey p))

abbrev pub place_at : WatchList → Bytes → Option Place
place_at list p = if is_path p then Some (key_bytes (DataKey p), counts_at list p) else None

abbrev pub at_place : View → Place → Option ℤ
at_place v (own, None) = put_at (found_of (seen v own))
at_place v (own, Some counts) = children_changed (found_of (seen v own)) (found_of (seen v counts))

abbrev pub at_by : View → Option Place → Option ℤ
at_by v o = option_and_then (at_place v) o

abbrev pub seen_paths : View → List Bytes → List Bytes → List Bytes → List SeenPath
seen_paths v datas exists children = map (seen_path v Datas) datas ++ map (seen_path v Exists) exists ++ map (seen_path v Children) children

-- ---- what comes of it

-- where nothing is lacking, these make of a setWatches what the service makes of it on the tree of each state that the view is of
abbrev pub IsSetBy : View → List Bytes → List Bytes → List Bytes → List SeenPath → Type 0
IsSetBy v datas exists children xs =
    (who : Who) (since : ℤ) → LacksNothing (req.SetWatches since exists datas children) who v → (s : State) → IsOf v s
    → (w : Watches) → set_watches s.tree since datas exists children w ≡ see_paths since (unseen w) xs
