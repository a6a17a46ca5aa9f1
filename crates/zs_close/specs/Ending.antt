-- What the end of a session changes (Programmer's Guide, "Ephemeral Nodes"): its life and the list of its nodes go, and each
-- of its nodes; and each of their parents counts its children without them.
use Rattle.std.specs.Prelude.{ℤ, nat_abs, Bool, List, [], ◌∷◌, ◌++◌, flat_map, Option, Some, None, if◌then◌else◌}
use Rattle.std.specs.List.{list_any, count_by}
use Rattle.zk_model.specs.declared.node.Trigger.{Trigger}
use Rattle.zk_model.specs.Paths.{parent, is_child}
use Rattle.zk_model.specs.Single.{removal}
use Rattle.zx_base.specs.Maps.{Bytes, same}
use Rattle.zk_model.specs.declared.layout.Layout.{Layout}
use Rattle.zn_layout.specs.declared.record.CountRec.{CountRec}
use Rattle.zn_layout.specs.declared.record.SessionRec.{SessionRec}
use Rattle.zn_layout.specs.Changes.{KeyChange, put_key, delete_key}
use Rattle.zn_layout.specs.Counts.{fewer}
use Rattle.zn_layout.specs.Keys.{DataKey, CountsKey, SessionKey, LeaseKey}
use Rattle.zn_layout.specs.Records.{counts_value, has_counts}

-- ---- the parents of nodes, each once, in the order of their first children

abbrev pub with_parent : List Bytes → Option Bytes → List Bytes
with_parent found None = found
with_parent found (Some q) = if list_any (same q) found then found else found ++ q ∷ []

abbrev pub parents_from : List Bytes → List Bytes → List Bytes
parents_from found [] = found
parents_from found (p ∷ ps) = parents_from (with_parent found (parent p)) ps

abbrev pub parents : List Bytes → List Bytes
parents ps = parents_from [] ps

-- ---- the changes of keys

-- puts a parent's counts without the nodes that go; a parent without counts is not there
abbrev pub put_parent : List Bytes → Bytes → Option CountRec → List KeyChange
put_parent ps q None = []
put_parent ps q (Some c) = put_key (CountsKey q) (counts_value (fewer c (count_by (is_child q) ps))) ∷ []

-- puts the counts of each of these parents, by the counts that it has
abbrev pub put_parents : (Bytes → Option CountRec) → List Bytes → List Bytes → List KeyChange
put_parents counts ps [] = []
put_parents counts ps (q ∷ qs) = put_parent ps q (counts q) ++ put_parents counts ps qs

-- deletes the keys of a node of a session of this layout
abbrev pub delete_node : Layout → Bytes → List KeyChange
delete_node layout p = delete_key (DataKey p) ∷ (if has_counts layout then delete_key (CountsKey p) ∷ [] else [])

abbrev pub delete_nodes : Layout → List Bytes → List KeyChange
delete_nodes layout ps = flat_map (delete_node layout) ps

-- a session that is closed lives until then; one that is reaped has lapsed, and its life is gone
abbrev pub delete_life : Bool → ℤ → List KeyChange
delete_life alive id = if alive then delete_key (LeaseKey (nat_abs id)) ∷ [] else []

abbrev pub delete_session : Bool → ℤ → List KeyChange
delete_session alive id = delete_life alive id ++ delete_key (SessionKey (nat_abs id)) ∷ []

-- the end of a session with these nodes
unfoldable pub end_changes : Bool → ℤ → (Bytes → Option CountRec) → SessionRec → List KeyChange
end_changes alive id counts r = (delete_session alive id ++ delete_nodes r.layout r.paths) ++ put_parents counts r.paths (parents r.paths)

-- what watches see of it: each delete, in the order of the list, which is that of the paths' bytes
abbrev pub end_triggers : List Bytes → List Trigger
end_triggers ps = flat_map removal ps
