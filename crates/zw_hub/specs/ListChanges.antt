-- What the writer's changes make of the list.
use Rattle.std.specs.Arc.{arc_value}
use Rattle.zw_hub.specs.declared.change.Change.{Change}
use Rattle.zw_hub.specs.declared.change.Change.TheVariants as changes
use Rattle.zw_hub.specs.declared.published.Published.{Published}
use Rattle.zw_hub.specs.Lists.{added, closed_by, forgotten_by}

-- the list after a change
abbrev pub list_after : Published → Change → Published
list_after list (changes.Entry entry) = added list (arc_value entry)
list_after list (changes.End end) = closed_by list end
list_after list changes.Forget = forgotten_by list
