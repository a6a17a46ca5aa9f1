-- The armed watches of a connection, as the sets of their paths and as the definitions' data.
use Rattle.std.specs.Prelude.{Bool, ◌||◌, List, Option, if◌then◌else◌}
use Rattle.std.specs.FinMap.{contains_key}
use Rattle.std.specs.Option.{option_to_list}
use Rattle.zk_model.specs.declared.reply.Notice.{Notice}
use Rattle.zk_model.specs.Watches.{Watches, Seen, arm_data, arm_children, fired_children, fired_data}
use Rattle.zx_base.specs.Maps.{Bytes}
use Rattle.zw_watch.specs.declared.sets.PathSets.{PathSets}

-- the watches with a child watch on this path, or otherwise a data watch
abbrev pub armed : Bool → Watches → Bytes → Watches
armed child w p = if child then arm_children w p else arm_data w p

abbrev pub watches_of : PathSets → Watches
watches_of l = record { on_data = l.on_data; on_children = l.on_children }

-- the path has a data watch or a child watch
abbrev pub has_either : Watches → Bytes → Bool
has_either w p = contains_key w.on_data p || contains_key w.on_children p

-- the watches without those of this path
abbrev pub fired_both : Watches → Bytes → Watches
fired_both w p = fired_children (fired_data w p) p

-- what is armed, and the notices so far
abbrev pub seen_of : PathSets → List Notice → Seen
seen_of l ns = record { watches = watches_of l; notices = ns }

-- what a change left armed, with the notice that it gave, if any
abbrev pub fired_of : Watches → Option Notice → Watches × List Notice
fired_of w notice = (w, option_to_list notice)
