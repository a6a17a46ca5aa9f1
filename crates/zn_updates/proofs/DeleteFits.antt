-- The changes of a delete fit it.
use Rattle.std.proofs.Common.{◌≡◌, ◌≢◌, ℕ, ℤ, pos, ◌-◌, Bool, true, false, cond, List, [], ◌∷◌, ◌++◌, Option, Some, None, refl, sym, ap, ◌∙◌, subst, ⊎_elim, arith}
use Rattle.std.specs.Prelude.{◌≤ℤ◌, nat_abs, nat_eq}
use Rattle.std.specs.Ordering.{int_eq}
use Rattle.std.specs.FinMap.{get}
use Rattle.std.proofs.lemmas.Int.{ints}
use Rattle.zx_base.specs.Maps.{Bytes, same}
use Rattle.zx_base.proofs.MapLaws.{either, same-true, apart-from_same}
use Rattle.zk_model.specs.declared.node.Node.{Node}
use Rattle.zk_model.specs.Paths.{parent}
use Rattle.zk_model.specs.Single.{without_child}
use Rattle.zk_model.specs.Znodes.{num_children, owned}
use Rattle.zk_service.specs.States.{State, Session, IsSound, session_at}
use Rattle.zk_service.proofs.Owned.{not_zero}
use Rattle.zn_layout.specs.declared.record.CountRec.{CountRec}
use Rattle.zn_layout.specs.declared.record.SessionRec.{SessionRec}
use Rattle.zn_layout.specs.Changes.{KeyChange, Put, last, put_or_else}
use Rattle.zn_layout.specs.Fits.{KeyFits, ChangesFit}
use Rattle.zn_layout.specs.Keys.{Key, HeadKey, DataKey, CountsKey, SessionKey, LeaseKey}
use Rattle.zn_layout.specs.Records.{counts_value, session_value, ArePaths, IsCountRec, IsSessionRec}
use Rattle.zn_layout.specs.StandsFor.{Stored, counts_record, is_counted_in, nodes_record, CountsMean, IsCounts, Means, NodesMean}
use Rattle.zn_updates.specs.declared.seen.SeenCounts.{SeenCounts}
use Rattle.zn_layout.specs.Counts.{one_less}
use Rattle.zn_layout.proofs.Counted.{plain-counted}
use Rattle.zn_updates.specs.Choices.{delete_changes, put_owned}
use Rattle.zn_updates.specs.OwnedLists.{without_node}
use Rattle.zn_updates.specs.Right.{with_tree}
use Rattle.zn_updates.specs.Seen.{IsSeenCounts}
use Rattle.zn_updates.proofs.Deleting.{delete_tree, delete_gone, delete_parent, delete_other, delete_count_parent, delete_count_other}
use Rattle.zn_updates.proofs.ListBounds.{without-within}
use Rattle.zn_updates.proofs.Meanings.{counted_along, counts_along, data_along, data_same, int_eq-apart, nodes_along, session_is, session_other, uncounted_none}
use Rattle.zn_updates.proofs.OwnedLists.{owned-delete, owned-delete_other}

pub one_less-within : (c : CountRec) → IsCountRec c → IsCountRec (one_less c)
one_less-within c within =
    let least = within.children in
    let fewer = within.fewer in
    record { children = omega (arith, ints); fewer = omega (arith, ints); creates = within.creates }

module _ (s : State) (p q : Bytes) (z : ℤ) (up node : Node) (above : SeenCounts) (sound : IsSound s) (below_q : parent p ≡ Some q)
    (there : get s.tree q ≡ Some up) (here : get s.tree p ≡ Some node) (plain : up.owner ≡ pos 0) (d : Bool) (seen : IsSeenCounts z above up (num_children s.tree q) d) where
  abbrev less : Node
  less = without_child up z

  abbrev new : State
  new = with_tree s (delete_tree s.tree q less p)

  gone_here : get new.tree p ≡ None
  gone_here = delete_gone s.tree p q up less node below_q there here

  parent_here : get new.tree q ≡ Some less
  parent_here = delete_parent s.tree p q up less node below_q there here

  other_here : (r : Bytes) → r ≢ p → r ≢ q → get new.tree r ≡ get s.tree r
  other_here = delete_other s.tree p q up less node below_q there here

  count_parent : num_children new.tree q ≡ num_children s.tree q - 1
  count_parent = delete_count_parent s.tree p q up less node below_q there here

  count_other : (r : Bytes) → r ≢ q → num_children new.tree r ≡ num_children s.tree r
  count_other = delete_count_other s.tree p q up less node below_q there here

  -- ---- the nodes' keys

  data_fits : (r : Bytes) → KeyFits z (cond (same r p) (Some None) None) (DataKey r) s new
  data_fits r = elim (same r p) as (λ b. same r p ≡ b → KeyFits z (cond b (Some None) None) (DataKey r) s new) [
    | true ↦ λ h. data_along None None (get new.tree r) (ap (get new.tree) (same-true r p h) ∙ gone_here) tt
    | false ↦ λ h o was. ⊎_elim
        (λ e. data_along o (Some less) (get new.tree r) (ap (get new.tree) e ∙ parent_here)
        (data_same o up less (λ c. refl) refl refl (data_along o (get s.tree r) (Some up) (sym (ap (get s.tree) e ∙ there)) was)))
        (λ n. data_along o (get s.tree r) (get new.tree r) (other_here r (apart-from_same r p h) n) was)
        (either r q)
  ] refl

  abbrev put_less : Option (Option Put)
  put_less = Some (Some (record { value = counts_value (one_less above.counts); lease = pos 0 }))

  abbrev stored_less : Stored
  stored_less = record { value = counts_value (one_less above.counts); revision = z; lease = pos 0 }

  same_counts : one_less above.counts ≡ counts_record less (num_children s.tree q - 1)
  same_counts = ap one_less seen.is

  less_counts : IsCounts stored_less less (num_children s.tree q - 1)
  less_counts = record {
    fits = subst IsCountRec same_counts (one_less-within above.counts seen.within);
    value = ap counts_value same_counts;
    pzxid = refl;
    free = refl;
  }

  -- the counts of the node at r, in the new tree
  abbrev NewCounts : Bytes → Option Stored → Type 0
  NewCounts r o = Means new (CountsKey r) o

  at_parent : (r : Bytes) → r ≡ q → NewCounts r (Some stored_less)
  at_parent r e =
      let there_now : get new.tree r ≡ Some less = ap (get new.tree) e ∙ parent_here in
      counts_along (Some stored_less) (Some less) (get new.tree r) (num_children s.tree q - 1) (num_children new.tree r) true (is_counted_in new (get new.tree r)) there_now (ap (num_children new.tree) e ∙ count_parent)
      (counted_along s new.tree (Some less) (get new.tree r) there_now ∙ plain-counted s less sound plain) less_counts

  at_gone : (r : Bytes) → r ≡ p → (o : Option Stored) → CountsMean None (num_children new.tree r) (is_counted_in new (get new.tree r)) o → NewCounts r o
  at_gone r e o means = counts_along o None (get new.tree r) (num_children new.tree r) (num_children new.tree r) (is_counted_in new (get new.tree r)) (is_counted_in new (get new.tree r)) (ap (get new.tree) e ∙ gone_here) refl refl means

  elsewhere : (r : Bytes) → r ≢ p → r ≢ q → (o : Option Stored) → Means s (CountsKey r) o → NewCounts r o
  elsewhere r np nq o was =
      let there_now : get new.tree r ≡ get s.tree r = other_here r np nq in
      counts_along o (get s.tree r) (get new.tree r) (num_children s.tree r) (num_children new.tree r) (is_counted_in s (get s.tree r)) (is_counted_in new (get new.tree r)) there_now (count_other r nq) (counted_along s new.tree (get s.tree r) (get new.tree r) there_now) was

  -- what was under the key of the node's counts, if they had no record: nothing
  was_uncounted : is_counted_in s (Some node) ≡ false → (r : Bytes) → r ≡ p → (o : Option Stored) → Means s (CountsKey r) o → CountsMean (Some node) (num_children s.tree r) false o
  was_uncounted c r e o was =
      let was_there : Some node ≡ get s.tree r = sym (ap (get s.tree) e ∙ here) in
      counts_along o (get s.tree r) (Some node) (num_children s.tree r) (num_children s.tree r) (is_counted_in s (get s.tree r)) false was_there refl (sym c ∙ ap (is_counted_in s) was_there) was

  counted_fit : (r : Bytes) → KeyFits z (put_or_else (put_or_else (cond (same r q) put_less None) (cond (same r p) (Some None) None)) None) (CountsKey r) s new
  counted_fit r = elim (same r q) as (λ b. same r q ≡ b → KeyFits z (put_or_else (put_or_else (cond b put_less None) (cond (same r p) (Some None) None)) None) (CountsKey r) s new) [
    | true ↦ λ h. at_parent r (same-true r q h)
    | false ↦ λ h. elim (same r p) as (λ b. same r p ≡ b → KeyFits z (put_or_else (put_or_else None (cond b (Some None) None)) None) (CountsKey r) s new) [
      | true ↦ λ g. at_gone r (same-true r p g) None tt
      | false ↦ λ g. elsewhere r (apart-from_same r p g) (apart-from_same r q h)
    ] refl
  ] refl

  uncounted_fit : is_counted_in s (Some node) ≡ false → (r : Bytes) → KeyFits z (put_or_else (cond (same r q) put_less None) None) (CountsKey r) s new
  uncounted_fit c r = elim (same r q) as (λ b. same r q ≡ b → KeyFits z (put_or_else (cond b put_less None) None) (CountsKey r) s new) [
    | true ↦ λ h. at_parent r (same-true r q h)
    | false ↦ λ h o was. ⊎_elim
        (λ e. at_gone r e o (uncounted_none o node (num_children s.tree r) (num_children new.tree r) (is_counted_in new (get new.tree r)) (was_uncounted c r e o was)))
        (λ n. elsewhere r n (apart-from_same r q h) o was)
        (either r p)
  ] refl

  -- ---- the sessions' keys

  plain_up : (id : ℤ) → pos 1 ≤ℤ id → int_eq up.owner id ≡ false
  plain_up id real = subst (λ (o : ℤ). int_eq o id ≡ false) (sym plain) (not_zero id real)

  nodes_kept : (id : ℕ) (y : Session) → session_at (pos id) s ≡ Some y → (node.owner ≡ pos id → ⊥) → owned new.tree (pos id) ≡ owned s.tree (pos id)
  nodes_kept id y opened foreign =
      let real = sound.numbered (pos id) y opened in
      owned-delete_other s.tree p q up less node below_q there here (pos id) (plain_up (pos id) real) (plain_up (pos id) real) (int_eq-apart node.owner (pos id) foreign)

  nodes_stay : (id : ℕ) → ((y : Session) → session_at (pos id) s ≡ Some y → node.owner ≡ pos id → ⊥) → KeyFits z None (SessionKey id) s new
  nodes_stay id foreign o was = nodes_along (session_at (pos id) s) (owned s.tree (pos id)) (owned new.tree (pos id)) o (λ y e. nodes_kept id y e (foreign y e)) was

  not_owned : node.owner ≡ pos 0 → (id : ℕ) (y : Session) → session_at (pos id) s ≡ Some y → node.owner ≡ pos id → ⊥
  not_owned free id y opened mine = let real = sound.numbered (pos id) y opened in omega (arith, ints)

  plain_each : (b : Bool) → is_counted_in s (Some node) ≡ b → node.owner ≡ pos 0 → (k : Key) → KeyFits z (last (delete_changes p q b above.counts) k) k s new
  plain_each true c free HeadKey = λ o h. h
  plain_each true c free (DataKey r) = data_fits r
  plain_each true c free (CountsKey r) = counted_fit r
  plain_each true c free (SessionKey id) = nodes_stay id (not_owned free id)
  plain_each true c free (LeaseKey id) = λ o h. h
  plain_each false c free HeadKey = λ o h. h
  plain_each false c free (DataKey r) = data_fits r
  plain_each false c free (CountsKey r) = uncounted_fit c r
  plain_each false c free (SessionKey id) = nodes_stay id (not_owned free id)
  plain_each false c free (LeaseKey id) = λ o h. h

  -- the delete of a node without an owner
  pub delete_fits : (b : Bool) → is_counted_in s (Some node) ≡ b → node.owner ≡ pos 0 → ChangesFit z (delete_changes p q b above.counts) s new
  delete_fits b c free = record { each = plain_each b c free }

  pub plain_headless : (b : Bool) → last (delete_changes p q b above.counts) HeadKey ≡ None
  plain_headless true = refl
  plain_headless false = refl

  -- the delete of a session's node
  module _ (session : Session) (opened : session_at node.owner s ≡ Some session) (listed : ArePaths (owned s.tree node.owner)) where
    real : pos 1 ≤ℤ node.owner
    real = sound.numbered node.owner session opened

    least : pos 0 ≤ℤ node.owner
    least = let h = real in omega (arith, ints, h)

    -- the nodes of the session before it
    abbrev nodes : SessionRec
    nodes = nodes_record session (owned s.tree node.owner)

    abbrev put_nodes : Option (Option Put)
    put_nodes = Some (Some (record { value = session_value (without_node p nodes); lease = pos 0 }))

    abbrev stored_nodes : Stored
    stored_nodes = record { value = session_value (without_node p nodes); revision = z; lease = pos 0 }

    same_nodes : without_node p nodes ≡ nodes_record session (owned new.tree node.owner)
    same_nodes = ap (nodes_record session) (sym (owned-delete s.tree p q up less node below_q there here node.owner (plain_up node.owner real) (plain_up node.owner real)))

    at_owner : NodesMean (Some session) (owned new.tree node.owner) (Some stored_nodes)
    at_owner = record { fits = subst IsSessionRec same_nodes (without-within p (owned s.tree node.owner) listed); value = ap session_value same_nodes; free = refl }

    owner_key : (id : ℕ) → pos id ≡ node.owner → NodesMean (session_at (pos id) s) (owned new.tree (pos id)) (Some stored_nodes)
    owner_key id e = subst (λ (n : ℤ). NodesMean (session_at n s) (owned new.tree n) (Some stored_nodes)) (sym e)
        (subst (λ (y : Option Session). NodesMean y (owned new.tree node.owner) (Some stored_nodes)) (sym opened) at_owner)

    nodes_fit : (id : ℕ) → KeyFits z (cond (nat_eq id (nat_abs node.owner)) put_nodes None) (SessionKey id) s new
    nodes_fit id = elim (nat_eq id (nat_abs node.owner)) as (λ b. nat_eq id (nat_abs node.owner) ≡ b → KeyFits z (cond b put_nodes None) (SessionKey id) s new) [
      | true ↦ λ h. owner_key id (session_is id node.owner least h)
      | false ↦ λ h. nodes_stay id (λ y e. session_other id node.owner h)
    ] refl

    -- an update's other changes do not write the list of nodes
    alone : (w : Option (Option Put)) → put_or_else w None ≡ w
    alone None = refl
    alone (Some x) = refl

    abbrev Changes : Bool → List KeyChange
    Changes b = delete_changes p q b above.counts ++ put_owned node.owner (without_node p nodes) ∷ []

    nodes_written : (b : Bool) (id : ℕ) → last (Changes b) (SessionKey id) ≡ cond (nat_eq id (nat_abs node.owner)) put_nodes None
    nodes_written true id = ap (λ (w : Option (Option Put)). put_or_else (put_or_else w None) None) (alone (cond (nat_eq id (nat_abs node.owner)) put_nodes None))
        ∙ ap (λ (w : Option (Option Put)). put_or_else w None) (alone (cond (nat_eq id (nat_abs node.owner)) put_nodes None)) ∙ alone (cond (nat_eq id (nat_abs node.owner)) put_nodes None)
    nodes_written false id = ap (λ (w : Option (Option Put)). put_or_else w None) (alone (cond (nat_eq id (nat_abs node.owner)) put_nodes None)) ∙ alone (cond (nat_eq id (nat_abs node.owner)) put_nodes None)

    owned_nodes : (b : Bool) (id : ℕ) → KeyFits z (last (Changes b) (SessionKey id)) (SessionKey id) s new
    owned_nodes b id = subst (λ (w : Option (Option Put)). KeyFits z w (SessionKey id) s new) (sym (nodes_written b id)) (nodes_fit id)

    owned_each : (b : Bool) → is_counted_in s (Some node) ≡ b → (k : Key) → KeyFits z (last (Changes b) k) k s new
    owned_each true c HeadKey = λ o h. h
    owned_each true c (DataKey r) = data_fits r
    owned_each true c (CountsKey r) = counted_fit r
    owned_each true c (SessionKey id) = owned_nodes true id
    owned_each true c (LeaseKey id) = λ o h. h
    owned_each false c HeadKey = λ o h. h
    owned_each false c (DataKey r) = data_fits r
    owned_each false c (CountsKey r) = uncounted_fit c r
    owned_each false c (SessionKey id) = owned_nodes false id
    owned_each false c (LeaseKey id) = λ o h. h

    pub delete_owned_fits : (b : Bool) → is_counted_in s (Some node) ≡ b → ChangesFit z (Changes b) s new
    delete_owned_fits b c = record { each = owned_each b c }

    -- the head is none of them
    pub owned_headless : (b : Bool) → last (Changes b) HeadKey ≡ None
    owned_headless true = refl
    owned_headless false = refl
