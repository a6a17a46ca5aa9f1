-- What the parts of a multi leave, as far as later parts look at it: which nodes are there, with their versions, owners and counts,
-- and how many nodes more the session may own. A view shows what was before; each part that is carried out changes the tree in turn.
use Rattle.std.specs.Prelude.{◌≡◌, ℕ, ℤ, pos, nat_abs, ◌+ℤ◌, ◌+◌, ◌-◌, Bool, true, false, not, ◌&&◌, int_lt, List, [], ◌∷◌, ◌++◌, fold, length, nat_lt, Option, Some, None, option_map, is_some, MatchBool, MatchOption, if◌then◌else◌}
use Rattle.std.specs.List.{list_all}
use Rattle.std.specs.Ordering.{int_eq}
use Rattle.ev_types.specs.declared.answer.Kv.{Kv}
use Rattle.zk_model.specs.declared.request.Part.{Part}
use Rattle.zk_model.specs.declared.request.Part.TheVariants as part
use Rattle.zk_model.specs.Limits.{max_creates, max_owned, max_version}
use Rattle.zk_model.specs.Paths.{is_child, parent, sequence_path}
use Rattle.zk_model.specs.Single.{form_refusal, is_ephemeral, is_sequential, matches, named}
use Rattle.zx_base.specs.Maps.{Bytes, same}
use Rattle.zn_layout.specs.declared.record.CountRec.{CountRec}
use Rattle.zn_layout.specs.declared.record.NodeRec.{NodeRec}
use Rattle.zn_layout.specs.declared.record.SessionRec.{SessionRec}
use Rattle.zn_layout.specs.Begin.{first_counts}
use Rattle.zn_layout.specs.Counts.{one_less, one_more}
use Rattle.zn_layout.specs.Keys.{Key, CountsKey, DataKey, SessionKey, key_bytes}
use Rattle.zn_layout.specs.Reading.{IsValueOf}
use Rattle.zn_layout.specs.Records.{counts_value, node_value, session_value, IsCountRec, IsNodeRec, IsSessionRec}
use Rattle.zn_view.specs.declared.leaving.NodeNow.{NodeNow}
use Rattle.zn_view.specs.declared.leaving.TreeChange.{TreeChange}
use Rattle.zn_view.specs.declared.leaving.TreeChange.TheVariants.{Created, Deleted, DataSet}
use Rattle.zn_view.specs.Seen.{View, seen}
use Rattle.zn_view.specs.Views.{counts_of_parent}

-- ---- a node after a change of the tree: a new node's version and counts are 0, a create and a delete count at its parent too. None
-- ---- is a node of which nothing is known, Some None one that is not there

abbrev pub node_now : ℤ → ℤ → NodeNow
node_now version owner = record { version = version; owner = owner }

abbrev pub set_once : NodeNow → NodeNow
set_once n = record n { version = n.version +ℤ pos 1 }

-- the node at p
abbrev pub node_with : Bytes → Option (Option NodeNow) → TreeChange → Option (Option NodeNow)
node_with p n (Created q owner) = if same q p then Some (Some (node_now (pos 0) owner)) else n
node_with p n (Deleted q owner) = if same q p then Some None else n
node_with p n (DataSet q) = if same q p then option_map (option_map set_once) n else n

-- the counts of the node at p
abbrev pub counts_with : Bytes → Option (Option CountRec) → TreeChange → Option (Option CountRec)
counts_with p c (Created q owner) = if same q p then Some (Some first_counts) else (if is_child p q then option_map (option_map one_more) c else c)
counts_with p c (Deleted q owner) = if same q p then Some None else (if is_child p q then option_map (option_map one_less) c else c)
counts_with p c (DataSet q) = c

-- how many nodes more a session may own
abbrev pub room_with : ℤ → ℕ → TreeChange → ℕ
room_with id n (Created q owner) = if int_eq owner id then n - 1 else n
room_with id n (Deleted q owner) = if int_eq owner id then n + 1 else n
room_with id n (DataSet q) = n

-- ---- and after several, one after the other

abbrev pub node_after : List TreeChange → Bytes → Option (Option NodeNow) → Option (Option NodeNow)
node_after changes p n = fold (node_with p) n changes

abbrev pub counts_after : List TreeChange → Bytes → Option (Option CountRec) → Option (Option CountRec)
counts_after changes p c = fold (counts_with p) c changes

abbrev pub room_after : List TreeChange → ℤ → ℕ → ℕ
room_after changes id n = fold (room_with id) n changes

-- ---- what a view shows: None where the key was not looked up, Some None where it is absent

abbrev pub IsNodeShown : Option (Option Kv) → Option (Option NodeNow) → Type 0
IsNodeShown None n = n ≡ None
IsNodeShown (Some None) n = n ≡ Some None
IsNodeShown (Some (Some kv)) n = (r : NodeRec) × IsValueOf node_value IsNodeRec kv.value r × (n ≡ Some (Some (node_now r.version r.owner)))

abbrev pub AreCountsShown : Option (Option Kv) → Option (Option CountRec) → Type 0
AreCountsShown None c = c ≡ None
AreCountsShown (Some None) c = c ≡ Some None
AreCountsShown (Some (Some kv)) c = (r : CountRec) × IsValueOf counts_value IsCountRec kv.value r × (c ≡ Some (Some r))

-- the counts of a node, by the record of them that was found: without one it has none, if it is there
abbrev pub counted : Option (Option NodeNow) → Option (Option CountRec) → Option (Option CountRec)
counted n None = None
counted n (Some None) = option_map (option_map (λ (m : NodeNow). first_counts)) n
counted n (Some (Some c)) = Some (Some c)

-- how many nodes more a session may own, by its layout; without a list of its nodes it is not open, and may own none
abbrev pub IsRoomShown : Option (Option Kv) → Option ℕ → Type 0
IsRoomShown None n = n ≡ None
IsRoomShown (Some None) n = n ≡ Some 0
IsRoomShown (Some (Some kv)) n = (r : SessionRec) × IsValueOf session_value IsSessionRec kv.value r × (n ≡ Some (max_owned r.layout - length r.paths))

-- ---- what there is on a view after these changes

abbrev pub IsNodeNow : View → List TreeChange → Bytes → Option (Option NodeNow) → Type 0
IsNodeNow v changes p n = (before : Option (Option NodeNow)) × IsNodeShown (seen v (key_bytes (DataKey p))) before × (n ≡ node_after changes p before)

abbrev pub AreCountsNow : View → List TreeChange → Bytes → Option (Option CountRec) → Type 0
AreCountsNow v changes p c =
    (n : Option (Option NodeNow)) × (before : Option (Option CountRec)) × IsNodeShown (seen v (key_bytes (DataKey p))) n × AreCountsShown (seen v (key_bytes (CountsKey p))) before
    × (c ≡ counts_after changes p (counted n before))

abbrev pub IsRoomNow : View → List TreeChange → ℤ → Option ℕ → Type 0
IsRoomNow v changes id n = (before : Option ℕ) × IsRoomShown (seen v (key_bytes (SessionKey (nat_abs id)))) before × (n ≡ option_map (room_after changes id) before)

-- ---- one part, on what the parts before it left. It is not carried out where it is refused, and not before all that it looks at or
-- ---- writes was looked up.

abbrev pub with_change : List TreeChange → Option TreeChange → Option (List TreeChange)
with_change changes None = None
with_change changes (Some c) = Some (changes ++ c ∷ [])

-- a create of a node, by its parent and the parent's counts, by what is at its path, and by how many nodes more its owner may own: the
-- parent is there, is not ephemeral and can count one create more, nothing is at the path, and the owner may own one node more
abbrev pub create_change : Bytes → ℤ → Option (Option NodeNow) → Option (Option CountRec) → Option (Option NodeNow) → Option ℕ → Option TreeChange
create_change p owner (Some (Some up)) (Some (Some counts)) (Some None) (Some room) =
    if int_eq up.owner (pos 0) && (not (int_eq counts.creates max_creates) && nat_lt 0 room) then Some (Created p owner) else None
create_change p owner _ _ _ _ = None

-- the path that a create's node gets: a sequence node's ends in the creates of its parent
abbrev pub node_path : Bool → Bytes → Option (Option CountRec) → Option Bytes
node_path false path counts = Some path
node_path true path (Some (Some counts)) = Some (sequence_path path (nat_abs counts.creates))
node_path true path _ = None

-- the owner of a create's node: 0 where it is not ephemeral
abbrev pub owner_of : Bool → ℤ → ℤ
owner_of ephemeral id = if ephemeral then id else pos 0

-- how many nodes more the session may own, if the new node is to be one of them; any other has room
abbrev pub IsRoomFor : View → List TreeChange → Bool → ℤ → Option ℕ → Type 0
IsRoomFor v changes ephemeral id room = MatchBool ephemeral (IsRoomNow v changes id room) (room ≡ Some 1)

abbrev pub NodeLeaves : View → List TreeChange → Bool → ℤ → Option (Option NodeNow) → Option (Option CountRec) → Option Bytes → Option (List TreeChange) → Type 0
NodeLeaves v changes ephemeral id up counts None next = next ≡ None
NodeLeaves v changes ephemeral id up counts (Some p) next =
    (there : Option (Option NodeNow)) × (room : Option ℕ) × IsNodeNow v changes p there × IsRoomFor v changes ephemeral id room
    × (next ≡ with_change changes (create_change p (owner_of ephemeral id) up counts there room))

abbrev pub CreateLeaves : View → List TreeChange → Bytes → Bool → Bool → ℤ → Option Bytes → Option (List TreeChange) → Type 0
CreateLeaves v changes path sequential ephemeral id None next = next ≡ None
CreateLeaves v changes path sequential ephemeral id (Some q) next =
    (up : Option (Option NodeNow)) × (counts : Option (Option CountRec)) × IsNodeNow v changes q up × AreCountsNow v changes q counts
    × NodeLeaves v changes ephemeral id up counts (node_path sequential path counts) next

abbrev pub are_seen : View → List Key → Bool
are_seen v ks = list_all (λ k. is_some (seen v (key_bytes k))) ks

-- the list of the owner's nodes was looked up; an owner below 1 is none
abbrev pub is_owner_seen : View → ℤ → Bool
is_owner_seen v owner = if int_lt owner (pos 1) then true else is_some (seen v (key_bytes (SessionKey (nat_abs owner))))

-- a delete, by the node and its counts: it is there in this version and has no children
abbrev pub delete_change : View → Bytes → ℤ → Option (Option NodeNow) → Option (Option CountRec) → Option TreeChange
delete_change v p version (Some (Some n)) (Some (Some counts)) =
    if (matches version n.version && int_eq counts.children (pos 0)) && (are_seen v (counts_of_parent (parent p)) && is_owner_seen v n.owner) then Some (Deleted p n.owner) else None
delete_change v p version _ _ = None

abbrev pub DeleteLeaves : View → List TreeChange → Bytes → ℤ → Option (List TreeChange) → Type 0
DeleteLeaves v changes p version next =
    (n : Option (Option NodeNow)) × (counts : Option (Option CountRec)) × IsNodeNow v changes p n × AreCountsNow v changes p counts
    × (next ≡ with_change changes (delete_change v p version n counts))

-- a setData, by the node: it is there in this version, which is not the greatest
abbrev pub set_change : View → Bytes → ℤ → Option (Option NodeNow) → Option TreeChange
set_change v p version (Some (Some n)) =
    if (matches version n.version && not (int_eq n.version max_version)) && is_some (seen v (key_bytes (CountsKey p))) then Some (DataSet p) else None
set_change v p version _ = None

abbrev pub SetLeaves : View → List TreeChange → Bytes → ℤ → Option (List TreeChange) → Type 0
SetLeaves v changes p version next = (n : Option (Option NodeNow)) × IsNodeNow v changes p n × (next ≡ with_change changes (set_change v p version n))

-- a check, by the node: it is there in this version
abbrev pub is_checked : ℤ → Option (Option NodeNow) → Bool
is_checked version (Some (Some n)) = matches version n.version
is_checked version _ = false

abbrev pub CheckLeaves : View → List TreeChange → Bytes → ℤ → Option (List TreeChange) → Type 0
CheckLeaves v changes p version next = (n : Option (Option NodeNow)) × IsNodeNow v changes p n × (next ≡ (if is_checked version n then Some changes else None))

abbrev pub PartLeaves : ℤ → View → List TreeChange → Part → Option (List TreeChange) → Type 0
PartLeaves id v changes (part.Create path d a f) next = CreateLeaves v changes path (is_sequential f) (is_ephemeral f) id (parent (named f path)) next
PartLeaves id v changes (part.Delete path x) next = DeleteLeaves v changes path x next
PartLeaves id v changes (part.SetData path d x) next = SetLeaves v changes path x next
PartLeaves id v changes (part.Check path x) next = CheckLeaves v changes path x next

-- a part whose form is refused is not carried out, and none is after one that is not
abbrev pub IsLeftBy : ℤ → View → Option (List TreeChange) → Part → Option (List TreeChange) → Type 0
IsLeftBy id v None p next = next ≡ None
IsLeftBy id v (Some changes) p next = MatchOption (form_refusal p) (PartLeaves id v changes p next) (λ code. next ≡ None)

-- ---- all parts

-- what these parts leave, of which the latest comes first: the changes that they make, or None where one of them is not carried out
-- or the view does not tell yet
abbrev pub IsLeft : ℤ → View → List Part → Option (List TreeChange) → Type 0
IsLeft id v [] left = left ≡ Some []
IsLeft id v (p ∷ before) left = (old : Option (List TreeChange)) × IsLeft id v before old × IsLeftBy id v old p left
