-- What a setWatches did so far.
use Rattle.zk_model.specs.Watches.{Watches, Seen}
use Rattle.zw_watch.specs.Armed.{seen_of}
use Rattle.zw_watch.specs.Noted.{IsWithout}
use Rattle.zw_watch.specs.declared.rearm.Round.{Round}
use Rattle.zw_watch.specs.declared.sets.PathSets.{PathSets}

-- what is armed, and the notices so far
abbrev pub told_of : PathSets → Round → Seen
told_of l r = seen_of l r.notices.items

-- without the paths that were noted, that is armed which was armed before
abbrev pub CanUndo : PathSets → Round → Watches → Type 0
CanUndo l r before = IsWithout l.on_data r.on_data.items before.on_data × IsWithout l.on_children r.on_children.items before.on_children
