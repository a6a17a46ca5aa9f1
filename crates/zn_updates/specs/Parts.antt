-- What is chosen for a part of a multi, on what a view shows.
use Rattle.std.specs.Prelude.{◌≡◌, ◌+◌, ℕ, ℤ, pos, nat_abs, ◌≤◌, Bool, true, not, List, [], length, sum_by, All, Contains, Option, Some, None, IfSome, if◌then◌else◌}
use Rattle.ev_types.specs.declared.answer.Kv.{Kv}
use Rattle.zk_model.specs.declared.node.Trigger.{Trigger}
use Rattle.zk_model.specs.declared.reply.PartResult.TheVariants as result
use Rattle.zk_model.specs.declared.request.Part.{Part}
use Rattle.zk_model.specs.declared.request.Part.TheVariants as part
use Rattle.zk_model.specs.Codes.{no_node, bad_version}
use Rattle.zk_model.specs.Paths.{parent}
use Rattle.zk_model.specs.Single.{form_refusal, is_ephemeral, is_sequential, matches, named}
use Rattle.zx_base.specs.Maps.{Bytes}
use Rattle.zn_layout.specs.declared.record.SessionRec.{SessionRec}
use Rattle.zn_layout.specs.Changes.{KeyChange, Put, put_size}
use Rattle.zn_layout.specs.Keys.{Key, HeadKey, DataKey, CountsKey, SessionKey, LeaseKey, key_bytes}
use Rattle.zn_layout.specs.Records.{IsCountRec, IsHeadRec, IsSessionRec}
use Rattle.zn_view.specs.declared.plan.Who.{Who}
use Rattle.zn_view.specs.Asks.{IsLeaseless}
use Rattle.zn_view.specs.Lookups.{HasSeen, sees}
use Rattle.zn_view.specs.Seen.{View, seen, IsOfKind, kind_of_bytes}
use Rattle.zn_view.specs.Views.{part_keys}
use Rattle.zn_updates.specs.declared.chosen.Chosen.{Chosen}
use Rattle.zn_updates.specs.declared.seen.SeenData.{SeenData}
use Rattle.zn_updates.specs.declared.seen.SeenCounts.{SeenCounts}
use Rattle.zn_updates.specs.Choices.{Choice, Refuse, Make, create_choice, delete_choice}
use Rattle.zn_updates.specs.Deciding.{IsOwnerLookedUp, path_for}
use Rattle.zn_updates.specs.Layers.{IsChosen}
use Rattle.zn_updates.specs.Making.{IsDataSeen, IsCountsSeen, IsNodesSeen, chosen_of, has_found}

-- the data of a create or a setData; other parts have none
abbrev pub part_content : Part → Bytes
part_content (part.Create path d a f) = d
part_content (part.SetData p d x) = d
part_content _ = []

-- a check, by its node's record: it changes nothing
unfoldable pub check_choice : ℤ → Option SeenData → Choice
check_choice version None = Refuse no_node
check_choice version (Some x) = if not (matches version x.version) then Refuse bad_version else Make [] [] result.Checked

-- ---- what the choice of a part looks at was looked up

-- of a create below q: the parent's record and counts, the session's nodes where the node is ephemeral, and its own record, at the
-- path that follows from the parent's counts
pub record IsCreateSeen (id : ℤ) (v : View) (path : Bytes) (flags : ℤ) (q : Bytes) : Type 0 where
  pub up : HasSeen v (DataKey q)
  pub counts : HasSeen v (CountsKey q)
  pub nodes : is_ephemeral flags ≡ true → HasSeen v (SessionKey (nat_abs id))
  pub own : (x : Option SeenData) (w : SeenCounts) → IsDataSeen (sees v (DataKey q)) x → IsCountsSeen x (sees v (CountsKey q)) (Some w) → HasSeen v (DataKey (path_for (is_sequential flags) path (Some w)))

-- of a delete: the node's record and counts, the parent's counts, and the list of the owner's nodes
pub record IsDeleteSeen (v : View) (p : Bytes) : Type 0 where
  pub node : HasSeen v (DataKey p)
  pub counts : HasSeen v (CountsKey p)
  pub above : (q : Bytes) → parent p ≡ Some q → HasSeen v (CountsKey q)
  pub owner : (x : Option SeenData) → IsDataSeen (sees v (DataKey p)) x → IsOwnerLookedUp v x

abbrev pub IsSeenFor : ℤ → View → Part → Type 0
IsSeenFor id v (part.Create path d a f) = (q : Bytes) → parent (named f path) ≡ Some q → IsCreateSeen id v path f q
IsSeenFor id v (part.Delete p x) = IsDeleteSeen v p
IsSeenFor id v (part.SetData p d x) = HasSeen v (DataKey p) × HasSeen v (CountsKey p)
IsSeenFor id v (part.Check p x) = HasSeen v (DataKey p)

-- the choice of a part that its form refuses looks at nothing
abbrev pub IsPartSeen : ℤ → View → Part → Type 0
IsPartSeen id v p = form_refusal p ≡ None → IsSeenFor id v p

-- ---- what is promised of it

-- this holds of its changes and of what watches see, if it is an update
abbrev pub IfChanges : (List KeyChange → List Trigger → Type 0) → Choice → Type 0
IfChanges P (Refuse code) = Unit {0}
IfChanges P (Make cs ts draft) = P cs ts

-- a change of any key but the head: a record of the key's kind is put, with no lease, or the key is deleted
pub record IsKeptChange (c : KeyChange) : Type 0 where
  pub apart : c.key ≡ HeadKey → ⊥
  pub leaseless : IsLeaseless c
  pub written : IfSome c.put (λ (w : Put). IsOfKind (kind_of_bytes (key_bytes c.key)) w.value)

-- all changes are such, four at most, and watches see two triggers at most
pub record AreKept (cs : List KeyChange) (ts : List Trigger) : Type 0 where
  pub changes : All IsKeptChange cs
  pub few : length cs ≤ 4
  pub triggers : IsHeadRec ts
  pub told : length ts ≤ 2

-- ---- which keys a part writes, and how many bytes

-- this is the node's record as the view saw it, if it was looked up
abbrev pub IfData : View → Bytes → Option SeenData → Type 0
IfData v p x = HasSeen v (DataKey p) → IsDataSeen (sees v (DataKey p)) x

-- the bytes of a value; those of a list of a session's nodes don't count
abbrev pub size_beside : Key → Option Put → ℕ
size_beside (SessionKey n) w = 0
size_beside HeadKey w = put_size w
size_beside (DataKey p) w = put_size w
size_beside (CountsKey p) w = put_size w
size_beside (LeaseKey n) w = put_size w

abbrev pub plain_size : KeyChange → ℕ
plain_size c = size_beside c.key c.put

-- the part makes or removes a node of this session
abbrev pub IsTouching : ℤ → View → Part → ℕ → Type 0
IsTouching id v (part.Create path d a f) n = (is_ephemeral f ≡ true) × (n ≡ nat_abs id)
IsTouching id v (part.Delete p x) n = (w : SeenData) × IfData v p (Some w) × (w.owner ≡ pos 0 → ⊥) × (n ≡ nat_abs w.owner)
IsTouching id v (part.SetData p d x) n = ⊥
IsTouching id v (part.Check p x) n = ⊥

-- The key has at most 1,033 bytes. If it is deleted, the part reads it. If it is that of the list of a session's nodes, the part
-- makes or removes a node of this session.
pub record IsOwnChange (id : ℤ) (v : View) (p : Part) (c : KeyChange) : Type 0 where
  pub short : length (key_bytes c.key) ≤ 1033
  pub gone : c.put ≡ None → Contains (part_keys id p) c.key
  pub nodes : (n : ℕ) → c.key ≡ SessionKey n → IsTouching id v p n

-- all changes are such, and the values that count have at most 55 bytes more than the part's data
pub record AreOwn (id : ℤ) (v : View) (p : Part) (cs : List KeyChange) : Type 0 where
  pub each : All (IsOwnChange id v p) cs
  pub light : sum_by plain_size cs ≤ 55 + length (part_content p)

abbrev pub IfOwn : ℤ → View → Part → Choice → Type 0
IfOwn id v p c = IfChanges (λ cs ts. AreOwn id v p cs) c

-- all that the first view saw, the second saw alike
abbrev pub IsNarrower : View → View → Type 0
IsNarrower near v = (k : Bytes) (o : Option Kv) → seen near k ≡ Some o → seen v k ≡ Some o

-- The choice is right on this view and on each narrower one, if what it looks at was looked up there. Its changes keep the promises
-- above (`AreKept`, `AreOwn`).
pub record IsPartChoice (p : Part) (who : Who) (now : ℕ) (v : View) (c : Chosen) : Type 0 where
  pub choice : ℕ → Choice
  pub is : c ≡ chosen_of (choice now)
  pub chosen : (near : View) → IsNarrower near v → IsPartSeen who.session near p → IsChosen p who near choice
  pub kept : IfChanges AreKept (choice now)
  pub own : IfOwn who.session v p (choice now)

-- ---- what the code chose on

-- these are the counts of the node with this record as the view saw them, if they were looked up
abbrev pub IfCounts : View → Bytes → Option SeenData → Option SeenCounts → Type 0
IfCounts v p x c = HasSeen v (CountsKey p) → IsCountsSeen x (sees v (CountsKey p)) c

-- this is the record of the session's nodes as the view saw it, if it was looked up
abbrev pub IfNodes : View → ℤ → Option SessionRec → Type 0
IfNodes v id nodes = HasSeen v (SessionKey (nat_abs id)) → IsNodesSeen (sees v (SessionKey (nat_abs id))) nodes

abbrev pub AreCountsWithin : Option SeenCounts → Type 0
AreCountsWithin x = IfSome x (λ (w : SeenCounts). IsCountRec w.counts)

-- what was chosen for a create below q, by records that are what the view saw where it saw them
pub record IsCreatedBelow (v : View) (path content : Bytes) (now : ℕ) (sequential ephemeral : Bool) (session : ℤ) (q : Bytes) (c : Chosen) : Type 0 where
  pub up : Option SeenData
  pub above : Option SeenCounts
  pub nodes : Option SessionRec
  pub up_is : IfData v q up
  pub above_is : IfCounts v q up above
  pub above_within : AreCountsWithin above
  pub nodes_are : ephemeral ≡ true → IfNodes v session nodes
  pub nodes_within : IfSome nodes IsSessionRec
  pub is : c ≡ chosen_of (create_choice (path_for sequential path above) q content now ephemeral session up above (has_found (sees v (DataKey (path_for sequential path above)))) nodes)

-- what was chosen for a delete of p below q, by records that are what the view saw where it saw them
pub record IsDeletedBelow (v : View) (p : Bytes) (version : ℤ) (q : Bytes) (c : Chosen) : Type 0 where
  pub node : Option SeenData
  pub counts : Option SeenCounts
  pub above : Option SeenCounts
  pub nodes : Option SessionRec
  pub node_is : IfData v p node
  pub counts_are : IfCounts v p node counts
  pub above_is : IfCounts v q None above
  pub above_within : AreCountsWithin above
  pub nodes_are : IfSome node (λ (x : SeenData). (x.owner ≡ pos 0 → ⊥) → IfNodes v x.owner nodes)
  pub nodes_within : IfSome nodes IsSessionRec
  pub is : c ≡ chosen_of (delete_choice p q version node counts above nodes)
