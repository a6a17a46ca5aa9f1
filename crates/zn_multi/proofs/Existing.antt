-- On a view that shows a state, what the parts of a multi read is determined.
use Rattle.std.proofs.Common.{◌≡◌, ℕ, ℤ, pos, ◌-◌, Bool, true, false, length, List, [], ◌∷◌, ◌++◌, Option, Some, None, refl}
use Rattle.std.specs.Prelude.{MatchOption, nat_abs, option_map, if◌then◌else◌}
use Rattle.std.specs.FinMap.{get}
use Rattle.ev_types.specs.declared.answer.Kv.{Kv}
use Rattle.zx_base.specs.Maps.{Bytes}
use Rattle.zk_model.specs.declared.node.Node.{Node}
use Rattle.zk_model.specs.declared.request.Part.{Part}
use Rattle.zk_model.specs.declared.request.Part.TheVariants as part
use Rattle.zk_model.specs.Limits.{max_owned}
use Rattle.zk_model.specs.Paths.{parent}
use Rattle.zk_model.specs.Single.{form_refusal, is_ephemeral, is_sequential, named}
use Rattle.zk_model.specs.Znodes.{num_children, owned}
use Rattle.zk_service.specs.States.{State, Session, session_at}
use Rattle.zn_layout.specs.declared.record.CountRec.{CountRec}
use Rattle.zn_layout.specs.Keys.{Key, HeadKey, DataKey, CountsKey, SessionKey}
use Rattle.zn_layout.specs.StandsFor.{CountsMean, DataMeans, NodesMean, counts_record, data_record, is_counted_in, nodes_record}
use Rattle.zn_view.specs.declared.leaving.NodeNow.{NodeNow}
use Rattle.zn_view.specs.declared.leaving.TreeChange.{TreeChange}
use Rattle.zn_view.specs.Leaving.{counted as counted_by, counts_after, create_change, delete_change, is_checked, node_after, node_now, node_path, owner_of, room_after, set_change, with_change, AreCountsNow, AreCountsShown, IsNodeNow, IsNodeShown, IsRoomFor, IsRoomNow, IsRoomShown, NodeLeaves}
use Rattle.zn_view.specs.Lookups.{sees}
use Rattle.zn_view.specs.Seen.{View}
use Rattle.zn_view.specs.Views.{about_path}
use Rattle.zn_updates.specs.KeysRead.{IsOwnerSeen}
use Rattle.zn_updates.specs.Layers.{Shows, stored_own}
use Rattle.zn_multi.specs.Reading.{create_reads, delete_reads, AreCountsAbove, AreReadFrom, IfLeft, IsCreateLeft, IsFormedRead, IsReadBy, Left}

counts_of : (z : ℤ) (n : Option Node) (children : ℕ) (counted : Bool) (o : Option Kv) → CountsMean n children counted (stored_own z o) → (c : Option (Option CountRec)) × AreCountsShown (Some o) c
counts_of z n children counted None means = (Some None, refl)
counts_of z None children counted (Some kv) means = absurd means
counts_of z (Some n) children true (Some kv) means = (Some (Some (counts_record n children)), (counts_record n children, (means.fits, means.value), refl))
counts_of z (Some n) children false (Some kv) means = absurd means

node_of : (z : ℤ) (n : Option Node) (o : Option Kv) → DataMeans n (stored_own z o) → (x : Option (Option NodeNow)) × IsNodeShown (Some o) x
node_of z n None means = (Some None, refl)
node_of z None (Some kv) means = absurd means
node_of z (Some n) (Some kv) means = (Some (Some (node_now n.version n.owner)), (data_record n means.stored, (means.fits, means.value), refl))

room_of : (z : ℤ) (x : Option Session) (ps : List Bytes) (o : Option Kv) → NodesMean x ps (stored_own z o) → (n : Option ℕ) × IsRoomShown (Some o) n
room_of z x ps None means = (Some 0, refl)
room_of z None ps (Some kv) means = absurd means
room_of z (Some x) ps (Some kv) means = (Some (max_owned x.layout - length ps), (nodes_record x ps, (means.fits, means.value), refl))

owner_of_node : (z : ℤ) (n : Option Node) (o : Option Kv) → DataMeans n (stored_own z o) → (owner : ℤ) × IsOwnerSeen (Some o) owner
owner_of_node z n None means = (pos 0, refl)
owner_of_node z None (Some kv) means = absurd means
owner_of_node z (Some n) (Some kv) means = (n.owner, (data_record n means.stored, (means.fits, means.value), refl))

data_not_head : (p : Bytes) → DataKey p ≡ HeadKey → ⊥
data_not_head p e = cc

counts_not_head : (p : Bytes) → CountsKey p ≡ HeadKey → ⊥
counts_not_head p e = cc

nodes_not_head : (n : ℕ) → SessionKey n ≡ HeadKey → ⊥
nodes_not_head n e = cc

module _ (z : ℤ) (v : View) (s : State) (shown : Shows z v s) (id : ℤ) where
  node_shown : (p : Bytes) → (x : Option (Option NodeNow)) × IsNodeShown (sees v (DataKey p)) x
  node_shown p = at (sees v (DataKey p)) refl
    where
      at : (o : Option (Option Kv)) → sees v (DataKey p) ≡ o → (x : Option (Option NodeNow)) × IsNodeShown o x
      at None e = (None, refl)
      at (Some o) e = node_of z (get s.tree p) o (shown (DataKey p) (data_not_head p) o e).0

  node_there : (changes : List TreeChange) (p : Bytes) → (x : Option (Option NodeNow)) × IsNodeNow v changes p x
  node_there changes p = let before = node_shown p in (node_after changes p before.0, (before.0, before.1, refl))

  counts_there : (changes : List TreeChange) (p : Bytes) → (c : Option (Option CountRec)) × AreCountsNow v changes p c
  counts_there changes p = let n = node_shown p in let before = at (sees v (CountsKey p)) refl in (counts_after changes p (counted_by n.0 before.0), (n.0, before.0, n.1, before.1, refl))
    where
      at : (o : Option (Option Kv)) → sees v (CountsKey p) ≡ o → (c : Option (Option CountRec)) × AreCountsShown o c
      at None e = (None, refl)
      at (Some o) e = counts_of z (get s.tree p) (num_children s.tree p) (is_counted_in s (get s.tree p)) o (shown (CountsKey p) (counts_not_head p) o e).0

  room_there : (changes : List TreeChange) → (n : Option ℕ) × IsRoomNow v changes id n
  room_there changes = let before = at (sees v (SessionKey (nat_abs id))) refl in (option_map (room_after changes id) before.0, (before.0, before.1, refl))
    where
      at : (o : Option (Option Kv)) → sees v (SessionKey (nat_abs id)) ≡ o → (n : Option ℕ) × IsRoomShown o n
      at None e = (None, refl)
      at (Some o) e = room_of z (session_at (pos (nat_abs id)) s) (owned s.tree (pos (nat_abs id))) o (shown (SessionKey (nat_abs id)) (nodes_not_head (nat_abs id)) o e).0

  for_there : (changes : List TreeChange) (ephemeral : Bool) → (n : Option ℕ) × IsRoomFor v changes ephemeral id n
  for_there changes true = room_there changes
  for_there changes false = (Some 1, refl)

  owner_there : (p : Bytes) → (owner : ℤ) × IsOwnerSeen (sees v (DataKey p)) owner
  owner_there p = at (sees v (DataKey p)) refl
    where
      at : (o : Option (Option Kv)) → sees v (DataKey p) ≡ o → (owner : ℤ) × IsOwnerSeen o owner
      at None e = (pos 0, refl)
      at (Some o) e = owner_of_node z (get s.tree p) o (shown (DataKey p) (data_not_head p) o e).0

  -- ---- what each part leaves

  above_there : (left : Left) (above : Option Bytes) → (counts : Option (Option CountRec)) × AreCountsAbove v left above counts
  above_there None above = (None, refl)
  above_there (Some changes) None = (None, refl)
  above_there (Some changes) (Some q) = counts_there changes q

  leaves_there : (changes : List TreeChange) (ephemeral : Bool) (up : Option (Option NodeNow)) (counts : Option (Option CountRec)) (node : Option Bytes) → (next : Left) × NodeLeaves v changes ephemeral id up counts node next
  leaves_there changes ephemeral up counts None = (None, refl)
  leaves_there changes ephemeral up counts (Some p) =
      let there = node_there changes p in
      let n = for_there changes ephemeral in
      (with_change changes (create_change p (owner_of ephemeral id) up counts there.0 n.0), (there.0, n.0, there.1, n.1, refl))

  create_there : (left : Left) (ephemeral : Bool) (above : Option Bytes) (counts : Option (Option CountRec)) (node : Option Bytes) → (next : Left) × IsCreateLeft v left ephemeral id above counts node next
  create_there None ephemeral above counts _ = (None, refl)
  create_there (Some changes) ephemeral None counts _ = (None, refl)
  create_there (Some changes) ephemeral (Some q) counts node =
      let up = node_there changes q in
      let next = leaves_there changes ephemeral up.0 counts node in
      (next.0, (up.0, up.1, next.1))

  if_there : (P : List TreeChange → Left → Type 0) → ((changes : List TreeChange) → (next : Left) × P changes next) → (left : Left) → (next : Left) × IfLeft left P next
  if_there P there None = (None, refl)
  if_there P there (Some changes) = there changes

  formed_there : (left : Left) (p : Part) → (own : List Key) × (next : Left) × IsFormedRead id v left p own next
  formed_there left (part.Create path d a f) =
      let counts = above_there left (parent (named f path)) in
      let next = create_there left (is_ephemeral f) (parent (named f path)) counts.0 (node_path (is_sequential f) path counts.0) in
      (create_reads id path (is_sequential f) (is_ephemeral f) (parent (named f path)) (node_path (is_sequential f) path counts.0), next.0, record { counts = counts.0; counts_are = counts.1; keys = refl; next_is = next.1 })
  formed_there left (part.Delete path x) =
      let owner = owner_there path in
      let next = if_there _ (λ changes. let n = node_there changes path in let c = counts_there changes path in (with_change changes (delete_change v path x n.0 c.0), (n.0, c.0, n.1, c.1, refl))) left in
      (delete_reads path owner.0, next.0, record { owner = owner.0; owner_is = owner.1; keys = refl; next_is = next.1 })
  formed_there left (part.SetData path d x) =
      let next = if_there _ (λ changes. let n = node_there changes path in (with_change changes (set_change v path x n.0), (n.0, n.1, refl))) left in
      (about_path path, next.0, (refl, next.1))
  formed_there left (part.Check path x) =
      let next = if_there _ (λ changes. let n = node_there changes path in ((if is_checked x n.0 then Some changes else None), (n.0, n.1, refl))) left in
      (DataKey path ∷ [], next.0, (refl, next.1))

  read_there : (left : Left) (p : Part) → (own : List Key) × (next : Left) × IsReadBy id v left p own next
  read_there left p = at (form_refusal p)
    where
      at : (o : Option ℤ) → (own : List Key) × (next : Left) × MatchOption o (IsFormedRead id v left p own next) (λ code. (own ≡ []) × (next ≡ None))
      at None = formed_there left p
      at (Some code) = ([], None, (refl, refl))

  pub keys_there : (ps : List Part) (left : Left) → (ks : List Key) × AreReadFrom id v left ps ks
  keys_there [] left = ([], refl)
  keys_there (p ∷ ps) left =
      let one = read_there left p in
      let rest = keys_there ps one.1 in
      (one.0 ++ rest.0, (one.0, one.1, rest.0, one.2, rest.1, refl))
