-- The changes of a create fit it.
use Rattle.std.proofs.Common.{◌≡◌, ◌≢◌, ℕ, ℤ, pos, ◌+◌, ◌-◌, ◌<◌, ◌≤◌, ◌^◌, Bool, true, false, cond, List, [], ◌∷◌, ◌++◌, length, Option, Some, None, refl, sym, ap, ◌∙◌, subst, ⊎_elim, arith}
use Rattle.std.specs.Prelude.{◌≤ℤ◌, nat_abs, nat_eq, IsTrue}
use Rattle.std.specs.Ordering.{int_eq}
use Rattle.std.specs.FinMap.{get}
use Rattle.std.proofs.lemmas.Int.{ints}
use Rattle.zx_base.specs.Maps.{Bytes, same}
use Rattle.zx_base.proofs.MapLaws.{either, same-true, apart-from_same}
use Rattle.zk_model.specs.declared.node.Node.{Node}
use Rattle.zk_model.specs.Limits.{max_creates, max_frame}
use Rattle.zk_model.specs.Paths.{parent, is_path}
use Rattle.zk_model.specs.Single.{with_child}
use Rattle.zk_model.specs.Znodes.{num_children, new_node, owned}
use Rattle.zk_service.specs.States.{State, Session, IsSound, session_at}
use Rattle.zk_model.proofs.Paths.{apart_from_parent}
use Rattle.zk_service.proofs.Children.{create_tree, create_new, create_parent, create_other, create_count_parent, create_count_other, no_orphans}
use Rattle.zk_service.proofs.Owned.{owned-create_other, not_zero}
use Rattle.zn_layout.specs.declared.record.CountRec.{CountRec}
use Rattle.zn_layout.specs.declared.record.SessionRec.{SessionRec}
use Rattle.zn_layout.specs.Begin.{new_record, first_counts}
use Rattle.zn_layout.specs.Changes.{KeyChange, Put, last, put_or_else}
use Rattle.zn_layout.specs.Fits.{KeyFits, ChangesFit}
use Rattle.zn_layout.specs.Keys.{Key, HeadKey, DataKey, CountsKey, SessionKey, LeaseKey}
use Rattle.zn_layout.specs.Records.{has_counts, node_value, counts_value, session_value, ArePaths, IsLongCount, IsNodeRec, IsCountRec, IsSessionRec}
use Rattle.zn_layout.specs.StandsFor.{Stored, counts_record, is_counted, is_counted_in, nodes_record, CountsMean, IsData, IsCounts, IsUncounted, Means, NodesMean}
use Rattle.zn_updates.specs.declared.seen.SeenCounts.{SeenCounts}
use Rattle.zn_layout.specs.Counts.{one_more}
use Rattle.zn_layout.proofs.Counted.{plain-counted}
use Rattle.zn_updates.specs.Choices.{create_changes, put_owned}
use Rattle.zn_updates.specs.OwnedLists.{with_node}
use Rattle.zn_updates.specs.Right.{with_tree}
use Rattle.zn_updates.specs.Seen.{IsSeenCounts}
use Rattle.zn_updates.proofs.ListBounds.{placed-within}
use Rattle.zn_updates.proofs.Meanings.{below_most, counted_along, counts_along, data_along, data_same, int_eq-apart, nodes_along, none_uncounted, session_is, session_other, time_within, zero_within}
use Rattle.zn_updates.proofs.OwnedLists.{owned-create}
use Rattle.zn_updates.proofs.Telling.{no_counts-within}
use Rattle.zx_base.proofs.Booleans.{same-int as int_eq-same}

pub one_more-within : (c : CountRec) → IsCountRec c → int_eq c.creates max_creates ≡ false → IsCountRec (one_more c)
one_more-within c within room =
    let least = within.children in
    let fewer = within.fewer in
    record { children = omega (arith, ints); fewer = omega (arith, ints); creates = below_most c.creates max_creates within.creates room }

pub new_record-within : (content : Bytes) (now : ℕ) (owner : ℤ) → now < 2 ^ 62 → length content ≤ max_frame → IsLongCount owner → IsNodeRec (new_record content now owner)
new_record-within content now owner time short owned = record {
  czxid = zero_within;
  version_least = omega (arith, ints);
  version_most = omega (arith, ints);
  ctime = time_within now time;
  mtime = time_within now time;
  owner = owned;
  content = short;
}

module _ (s : State) (p q content : Bytes) (z : ℤ) (now : ℕ) (up : Node) (above : SeenCounts) (owner : ℤ) (sound : IsSound s)
    (below_q : parent p ≡ Some q) (there : get s.tree q ≡ Some up) (none : get s.tree p ≡ None) (plain : up.owner ≡ pos 0)
    (d : Bool) (seen : IsSeenCounts z above up (num_children s.tree q) d) (room : int_eq above.counts.creates max_creates ≡ false)
    (time : now < 2 ^ 62) (short : length content ≤ max_frame) (owner_within : IsLongCount owner) where
  abbrev fresh : Node
  fresh = new_node content owner z now

  abbrev more : Node
  more = with_child up z

  abbrev new : State
  new = with_tree s (create_tree s.tree q more p fresh)

  new_here : get new.tree p ≡ Some fresh
  new_here = create_new s.tree p q up more fresh below_q there none

  parent_here : get new.tree q ≡ Some more
  parent_here = create_parent s.tree p q up more fresh below_q there none

  other_here : (r : Bytes) → r ≢ p → r ≢ q → get new.tree r ≡ get s.tree r
  other_here = create_other s.tree p q up more fresh below_q there none

  count_parent : num_children new.tree q ≡ num_children s.tree q + 1
  count_parent = create_count_parent s.tree p q up more fresh below_q there none

  count_other : (r : Bytes) → r ≢ q → num_children new.tree r ≡ num_children s.tree r
  count_other = create_count_other s.tree p q up more fresh below_q there none

  -- ---- the nodes' keys

  abbrev put_new : Option (Option Put)
  put_new = Some (Some (record { value = node_value (new_record content now owner); lease = pos 0 }))

  new_data : IsData (record { value = node_value (new_record content now owner); revision = z; lease = pos 0 }) fresh
  new_data = record { stored = pos 0; fits = new_record-within content now owner time short owner_within; value = refl; made = refl; changed = refl; free = refl }

  data_fits : (r : Bytes) → KeyFits z (cond (same r p) put_new None) (DataKey r) s new
  data_fits r = elim (same r p) as (λ b. same r p ≡ b → KeyFits z (cond b put_new None) (DataKey r) s new) [
    | true ↦ λ h. data_along _ (Some fresh) (get new.tree r) (ap (get new.tree) (same-true r p h) ∙ new_here) new_data
    | false ↦ λ h o was. ⊎_elim
        (λ e. data_along o (Some more) (get new.tree r) (ap (get new.tree) e ∙ parent_here)
        (data_same o up more (λ c. refl) refl refl (data_along o (get s.tree r) (Some up) (sym (ap (get s.tree) e ∙ there)) was)))
        (λ n. data_along o (get s.tree r) (get new.tree r) (other_here r (apart-from_same r p h) n) was)
        (either r q)
  ] refl

  no_children : num_children new.tree p ≡ 0
  no_children = count_other p (apart_from_parent p q below_q) ∙ no_orphans s p sound none

  new_counts : IsCounts (record { value = counts_value first_counts; revision = z; lease = pos 0 }) fresh 0
  new_counts = record { fits = no_counts-within; value = refl; pzxid = refl; free = refl }

  -- without a record of its counts, the new node means the same
  new_uncounted : IsUncounted fresh 0
  new_uncounted = record { creates = refl; childless = refl; pzxid = refl }

  same_counts : one_more above.counts ≡ counts_record more (num_children s.tree q + 1)
  same_counts = ap one_more seen.is

  abbrev stored_more : Stored
  stored_more = record { value = counts_value (one_more above.counts); revision = z; lease = pos 0 }

  more_counts : IsCounts stored_more more (num_children s.tree q + 1)
  more_counts = record {
    fits = subst IsCountRec same_counts (one_more-within above.counts seen.within room);
    value = ap counts_value same_counts;
    pzxid = refl;
    free = refl;
  }

  abbrev put_none : Option (Option Put)
  put_none = Some (Some (record { value = counts_value first_counts; lease = pos 0 }))

  abbrev put_more : Option (Option Put)
  put_more = Some (Some (record { value = counts_value (one_more above.counts); lease = pos 0 }))

  -- the counts of the node at r, in the new tree
  abbrev NewCounts : Bytes → Option Stored → Type 0
  NewCounts r o = Means new (CountsKey r) o

  at_parent : (r : Bytes) → r ≡ q → NewCounts r (Some stored_more)
  at_parent r e =
      let here : get new.tree r ≡ Some more = ap (get new.tree) e ∙ parent_here in
      counts_along (Some stored_more) (Some more) (get new.tree r) (num_children s.tree q + 1) (num_children new.tree r) true (is_counted_in new (get new.tree r)) here (ap (num_children new.tree) e ∙ count_parent)
      (counted_along s new.tree (Some more) (get new.tree r) here ∙ plain-counted s more sound plain) more_counts

  at_new : (b : Bool) → is_counted_in s (Some fresh) ≡ b → (r : Bytes) → r ≡ p → (o : Option Stored) → CountsMean (Some fresh) 0 b o → NewCounts r o
  at_new b c r e o means =
      let here : get new.tree r ≡ Some fresh = ap (get new.tree) e ∙ new_here in
      counts_along o (Some fresh) (get new.tree r) 0 (num_children new.tree r) b (is_counted_in new (get new.tree r)) here (ap (num_children new.tree) e ∙ no_children) (counted_along s new.tree (Some fresh) (get new.tree r) here ∙ c) means

  elsewhere : (r : Bytes) → r ≢ p → r ≢ q → (o : Option Stored) → Means s (CountsKey r) o → NewCounts r o
  elsewhere r np nq o was =
      let here : get new.tree r ≡ get s.tree r = other_here r np nq in
      counts_along o (get s.tree r) (get new.tree r) (num_children s.tree r) (num_children new.tree r) (is_counted_in s (get s.tree r)) (is_counted_in new (get new.tree r)) here (count_other r nq) (counted_along s new.tree (get s.tree r) (get new.tree r) here) was

  -- what was under the key of the new node's counts: nothing
  was_none : (r : Bytes) → r ≡ p → (o : Option Stored) → Means s (CountsKey r) o → CountsMean None (num_children s.tree r) (is_counted_in s (get s.tree r)) o
  was_none r e o was = subst (λ (x : Option Node). CountsMean x (num_children s.tree r) (is_counted_in s (get s.tree r)) o) (ap (get s.tree) e ∙ none) was

  counted_fit : is_counted_in s (Some fresh) ≡ true → (r : Bytes) → KeyFits z (put_or_else (put_or_else (cond (same r q) put_more None) (cond (same r p) put_none None)) None) (CountsKey r) s new
  counted_fit c r = elim (same r q) as (λ b. same r q ≡ b → KeyFits z (put_or_else (put_or_else (cond b put_more None) (cond (same r p) put_none None)) None) (CountsKey r) s new) [
    | true ↦ λ h. at_parent r (same-true r q h)
    | false ↦ λ h. elim (same r p) as (λ b. same r p ≡ b → KeyFits z (put_or_else (put_or_else None (cond b put_none None)) None) (CountsKey r) s new) [
      | true ↦ λ g. at_new true c r (same-true r p g) (Some (record { value = counts_value first_counts; revision = z; lease = pos 0 })) new_counts
      | false ↦ λ g. elsewhere r (apart-from_same r p g) (apart-from_same r q h)
    ] refl
  ] refl

  uncounted_fit : is_counted_in s (Some fresh) ≡ false → (r : Bytes) → KeyFits z (put_or_else (cond (same r q) put_more None) None) (CountsKey r) s new
  uncounted_fit c r = elim (same r q) as (λ b. same r q ≡ b → KeyFits z (put_or_else (cond b put_more None) None) (CountsKey r) s new) [
    | true ↦ λ h. at_parent r (same-true r q h)
    | false ↦ λ h o was. ⊎_elim
        (λ e. at_new false c r e o (none_uncounted o fresh (num_children s.tree r) 0 (is_counted_in s (get s.tree r)) new_uncounted (was_none r e o was)))
        (λ n. elsewhere r n (apart-from_same r q h) o was)
        (either r p)
  ] refl

  -- ---- the sessions' keys

  plain_up : (id : ℤ) → pos 1 ≤ℤ id → int_eq up.owner id ≡ false
  plain_up id real = subst (λ (o : ℤ). int_eq o id ≡ false) (sym plain) (not_zero id real)

  nodes_kept : (id : ℕ) (y : Session) → session_at (pos id) s ≡ Some y → (owner ≡ pos id → ⊥) → owned new.tree (pos id) ≡ owned s.tree (pos id)
  nodes_kept id y opened foreign =
      let real = sound.numbered (pos id) y opened in
      owned-create_other s.tree p q up more fresh below_q there none (pos id) (plain_up (pos id) real) (plain_up (pos id) real) (int_eq-apart owner (pos id) foreign)

  nodes_stay : (id : ℕ) → ((y : Session) → session_at (pos id) s ≡ Some y → owner ≡ pos id → ⊥) → KeyFits z None (SessionKey id) s new
  nodes_stay id foreign o was = nodes_along (session_at (pos id) s) (owned s.tree (pos id)) (owned new.tree (pos id)) o (λ y e. nodes_kept id y e (foreign y e)) was

  not_owned : owner ≡ pos 0 → (id : ℕ) (y : Session) → session_at (pos id) s ≡ Some y → owner ≡ pos id → ⊥
  not_owned free id y opened mine = let real = sound.numbered (pos id) y opened in omega (arith, ints)

  plain_each : owner ≡ pos 0 → (k : Key) → KeyFits z (last (create_changes p q content now owner true above.counts) k) k s new
  plain_each free HeadKey = λ o h. h
  plain_each free (DataKey r) = data_fits r
  plain_each free (CountsKey r) = counted_fit (plain-counted s fresh sound free) r
  plain_each free (SessionKey id) = nodes_stay id (not_owned free id)
  plain_each free (LeaseKey id) = λ o h. h

  -- the create of a node without an owner
  pub create_fits : owner ≡ pos 0 → ChangesFit z (create_changes p q content now owner true above.counts) s new
  create_fits free = record { each = plain_each free }

  -- the create of a session's node
  module _ (session : Session) (opened : session_at owner s ≡ Some session) (listed : ArePaths (owned s.tree owner)) (valid : IsTrue (is_path p)) (few : length (owned s.tree owner) < 2 ^ 31 - 1) where
    real : pos 1 ≤ℤ owner
    real = sound.numbered owner session opened

    least : pos 0 ≤ℤ owner
    least = let h = real in omega (arith, ints, h)

    -- the nodes of the session before and after it
    abbrev nodes : SessionRec
    nodes = nodes_record session (owned s.tree owner)

    abbrev put_nodes : Option (Option Put)
    put_nodes = Some (Some (record { value = session_value (with_node p nodes); lease = pos 0 }))

    abbrev stored_nodes : Stored
    stored_nodes = record { value = session_value (with_node p nodes); revision = z; lease = pos 0 }

    same_nodes : with_node p nodes ≡ nodes_record session (owned new.tree owner)
    same_nodes = ap (nodes_record session) (sym (owned-create s.tree p q up more fresh below_q there none owner (plain_up owner real) (plain_up owner real) (int_eq-same owner owner refl)))

    at_owner : NodesMean (Some session) (owned new.tree owner) (Some stored_nodes)
    at_owner = record { fits = subst IsSessionRec same_nodes (placed-within p (owned s.tree owner) valid few listed); value = ap session_value same_nodes; free = refl }

    owner_key : (id : ℕ) → pos id ≡ owner → NodesMean (session_at (pos id) s) (owned new.tree (pos id)) (Some stored_nodes)
    owner_key id e = subst (λ (n : ℤ). NodesMean (session_at n s) (owned new.tree n) (Some stored_nodes)) (sym e)
        (subst (λ (y : Option Session). NodesMean y (owned new.tree owner) (Some stored_nodes)) (sym opened) at_owner)

    nodes_fit : (id : ℕ) → KeyFits z (cond (nat_eq id (nat_abs owner)) put_nodes None) (SessionKey id) s new
    nodes_fit id = elim (nat_eq id (nat_abs owner)) as (λ b. nat_eq id (nat_abs owner) ≡ b → KeyFits z (cond b put_nodes None) (SessionKey id) s new) [
      | true ↦ λ h. owner_key id (session_is id owner least h)
      | false ↦ λ h. nodes_stay id (λ y e. session_other id owner h)
    ] refl

    -- an update's other changes do not write the list of nodes
    alone : (w : Option (Option Put)) → put_or_else w None ≡ w
    alone None = refl
    alone (Some x) = refl

    abbrev Changes : Bool → List KeyChange
    Changes b = create_changes p q content now owner b above.counts ++ put_owned owner (with_node p nodes) ∷ []

    nodes_written : (b : Bool) (id : ℕ) → last (Changes b) (SessionKey id) ≡ cond (nat_eq id (nat_abs owner)) put_nodes None
    nodes_written true id = ap (λ (w : Option (Option Put)). put_or_else (put_or_else w None) None) (alone (cond (nat_eq id (nat_abs owner)) put_nodes None)) ∙ ap (λ (w : Option (Option Put)). put_or_else w None) (alone (cond (nat_eq id (nat_abs owner)) put_nodes None)) ∙ alone (cond (nat_eq id (nat_abs owner)) put_nodes None)
    nodes_written false id = ap (λ (w : Option (Option Put)). put_or_else w None) (alone (cond (nat_eq id (nat_abs owner)) put_nodes None)) ∙ alone (cond (nat_eq id (nat_abs owner)) put_nodes None)

    owned_nodes : (b : Bool) (id : ℕ) → KeyFits z (last (Changes b) (SessionKey id)) (SessionKey id) s new
    owned_nodes b id = subst (λ (w : Option (Option Put)). KeyFits z w (SessionKey id) s new) (sym (nodes_written b id)) (nodes_fit id)

    owned_each : (b : Bool) → is_counted_in s (Some fresh) ≡ b → (k : Key) → KeyFits z (last (Changes b) k) k s new
    owned_each true c HeadKey = λ o h. h
    owned_each true c (DataKey r) = data_fits r
    owned_each true c (CountsKey r) = counted_fit c r
    owned_each true c (SessionKey id) = owned_nodes true id
    owned_each true c (LeaseKey id) = λ o h. h
    owned_each false c HeadKey = λ o h. h
    owned_each false c (DataKey r) = data_fits r
    owned_each false c (CountsKey r) = uncounted_fit c r
    owned_each false c (SessionKey id) = owned_nodes false id
    owned_each false c (LeaseKey id) = λ o h. h

    pub create_owned_fits : ChangesFit z (Changes (has_counts session.layout)) s new
    create_owned_fits = record { each = owned_each (has_counts session.layout) (ap is_counted opened) }

    -- the head is none of them
    pub owned_headless : (b : Bool) → last (Changes b) HeadKey ≡ None
    owned_headless true = refl
    owned_headless false = refl
