-- The change of a setData fits it.
use Rattle.std.proofs.Common.{◌^◌, ◌<◌, ◌≡◌, ℕ, ℤ, pos, ◌≤◌, true, false, cond, length, Some, None, refl, sym, ap, ◌∙◌, subst, ⊎_elim, arith}
use Rattle.std.specs.Ordering.{int_eq}
use Rattle.std.specs.FinMap.{get, insert}
use Rattle.std.proofs.lemmas.Int.{ints}
use Rattle.zx_base.specs.Maps.{Bytes, same}
use Rattle.zx_base.proofs.MapLaws.{either, same-true, apart-from_same, get-insert_same, get-insert_other}
use Rattle.zk_model.specs.declared.node.Node.{Node}
use Rattle.zk_model.specs.Limits.{max_frame, max_version}
use Rattle.zk_model.specs.Single.{with_content}
use Rattle.zk_model.specs.Znodes.{num_children, owned}
use Rattle.zk_service.specs.States.{State, session_at}
use Rattle.zk_service.proofs.Children.{num_children-change}
use Rattle.zn_layout.specs.Changes.{last}
use Rattle.zn_layout.specs.Fits.{KeyFits, ChangesFit}
use Rattle.zn_layout.specs.Keys.{Key, HeadKey, DataKey, CountsKey, SessionKey, LeaseKey}
use Rattle.zn_layout.specs.Records.{node_value, IsNodeRec}
use Rattle.zn_layout.specs.StandsFor.{data_record, is_counted_in, IsData}
use Rattle.zn_updates.specs.declared.seen.SeenData.{SeenData}
use Rattle.zn_updates.specs.Seen.{IsSeenData, IsDataWithin}
use Rattle.zn_updates.specs.Choices.{set_record, set_changes}
use Rattle.zn_updates.specs.Right.{with_tree}
use Rattle.zn_updates.proofs.Meanings.{data_along, counted_along, counts_along, counts_same, nodes_along, below_most, time_within}
use Rattle.zn_updates.proofs.OwnedLists.{owned-change}

-- the record that is put keeps its bounds
pub set_record-within : (x : SeenData) (content : Bytes) (now : ℕ) → IsDataWithin x → int_eq x.version max_version ≡ false → now < 2 ^ 62 → length content ≤ max_frame → IsNodeRec (set_record x content now)
set_record-within x content now within room time short =
    let least = within.version_least in
    record {
      czxid = within.czxid;
      version_least = omega (arith, ints);
      version_most = below_most x.version max_version within.version_most room;
      ctime = within.ctime;
      mtime = time_within now time;
      owner = within.owner;
      content = short;
    }

module _ (s : State) (p content : Bytes) (z : ℤ) (now : ℕ) (n : Node) (x : SeenData) (here : get s.tree p ≡ Some n) (seen : IsSeenData z x n)
    (room : int_eq x.version max_version ≡ false) (time : now < 2 ^ 62) (short : length content ≤ max_frame) where
  abbrev changed : Node
  changed = with_content n content z now

  abbrev new : State
  new = with_tree s (insert s.tree p changed)

  same_record : set_record x content now ≡ data_record changed x.czxid
  same_record = ap (λ (y : SeenData). set_record y content now) seen.is

  new_data : IsData (record { value = node_value (set_record x content now); revision = z; lease = pos 0 }) changed
  new_data = record {
    stored = x.czxid;
    fits = subst IsNodeRec same_record (set_record-within x content now seen.within room time short);
    value = ap node_value same_record;
    made = seen.czxid;
    changed = refl;
    free = refl;
  }

  data_fits : (r : Bytes) → KeyFits z (cond (same r p) (Some (Some (record { value = node_value (set_record x content now); lease = pos 0 }))) None) (DataKey r) s new
  data_fits r = elim (same r p) as (λ b. same r p ≡ b → KeyFits z (cond b (Some (Some (record { value = node_value (set_record x content now); lease = pos 0 }))) None) (DataKey r) s new) [
    | true ↦ λ h. data_along _ (Some changed) (get new.tree r) (ap (get new.tree) (same-true r p h) ∙ get-insert_same s.tree p changed) new_data
    | false ↦ λ h o was. data_along o (get s.tree r) (get new.tree r) (get-insert_other s.tree p r changed (apart-from_same r p h)) was
  ] refl

  counts_fit : (r : Bytes) → KeyFits z None (CountsKey r) s new
  counts_fit r o was =
      let count = num_children-change s.tree p changed n r here in ⊎_elim
      (λ e.
      let now_there : get new.tree r ≡ Some changed = ap (get new.tree) e ∙ get-insert_same s.tree p changed in
      let was_there : Some n ≡ get s.tree r = sym (ap (get s.tree) e ∙ here) in
      counts_along o (Some changed) (get new.tree r) (num_children s.tree r) (num_children new.tree r) (is_counted_in s (Some n)) (is_counted_in new (get new.tree r)) now_there count (counted_along s new.tree (Some changed) (get new.tree r) now_there)
      (counts_same o n changed (num_children s.tree r) (is_counted_in s (Some n)) refl refl refl
      (counts_along o (get s.tree r) (Some n) (num_children s.tree r) (num_children s.tree r) (is_counted_in s (get s.tree r)) (is_counted_in s (Some n)) was_there refl (ap (is_counted_in s) was_there) was)))
      (λ far.
      let same_there : get new.tree r ≡ get s.tree r = get-insert_other s.tree p r changed far in
      counts_along o (get s.tree r) (get new.tree r) (num_children s.tree r) (num_children new.tree r) (is_counted_in s (get s.tree r)) (is_counted_in new (get new.tree r)) same_there count (counted_along s new.tree (get s.tree r) (get new.tree r) same_there) was)
      (either r p)

  nodes_fit : (id : ℕ) → KeyFits z None (SessionKey id) s new
  nodes_fit id o was = nodes_along (session_at (pos id) s) (owned s.tree (pos id)) (owned new.tree (pos id)) o (λ y e. owned-change s.tree p changed n (pos id) here refl) was

  each_fits : (k : Key) → KeyFits z (last (set_changes p x content now) k) k s new
  each_fits HeadKey = λ o h. h
  each_fits (DataKey r) = data_fits r
  each_fits (CountsKey r) = counts_fit r
  each_fits (SessionKey id) = nodes_fit id
  each_fits (LeaseKey id) = λ o h. h

  pub set_data_fits : ChangesFit z (set_changes p x content now) s new
  set_data_fits = record { each = each_fits }
