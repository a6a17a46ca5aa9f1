-- What the choice of a part looks at was looked up, where all that the parts read was.
use Rattle.std.proofs.Common.{◌≡◌, ℕ, ℤ, pos, ◌-◌, Bool, true, false, not, ◌&&◌, cond, length, List, [], ◌∷◌, ◌++◌, Option, Some, None, refl, sym, ap, ◌∙◌, subst, inl, inr, ⊎_elim}
use Rattle.std.proofs.lemmas.Bool.{true≢false}
use Rattle.std.specs.Prelude.{int_lt, is_some, nat_abs, option_map, ◌≤ℤ◌, if◌then◌else◌}
use Rattle.std.proofs.lemmas.Bool.{and_from, and_parts}
use Rattle.std.specs.FinMap.{get}
use Rattle.std.specs.Ordering.{int_eq}
use Rattle.std.proofs.lemmas.Bool.Decides.{Decides-int_eq}
use Rattle.ev_types.specs.declared.answer.Kv.{Kv}
use Rattle.zx_base.specs.Maps.{Bytes, same}
use Rattle.zx_base.proofs.MapLaws.{same-refl}
use Rattle.zx_base.proofs.Options.{none_some}
use Rattle.zk_model.specs.declared.node.Node.{Node}
use Rattle.zk_model.specs.declared.request.Acl.{Acl}
use Rattle.zk_model.specs.declared.request.Part.{Part}
use Rattle.zk_model.specs.declared.request.Part.TheVariants as part
use Rattle.zk_model.specs.Limits.{max_owned}
use Rattle.zk_model.specs.Multi.{touched_by, owner_list}
use Rattle.zk_model.specs.Paths.{is_path, parent, root, sequence_path}
use Rattle.zk_model.specs.Single.{form_refusal, is_ephemeral, is_sequential, made_path, named}
use Rattle.zk_model.specs.Znodes.{Tree, num_children, owned}
use Rattle.zk_service.specs.States.{State, Session, limit_of, session_at}
use Rattle.zn_layout.specs.declared.record.CountRec.{CountRec}
use Rattle.zn_layout.specs.declared.record.NodeRec.{NodeRec}
use Rattle.zn_layout.specs.declared.record.SessionRec.{SessionRec}
use Rattle.zn_layout.specs.Begin.{first_counts}
use Rattle.zn_layout.specs.Keys.{Key, HeadKey, DataKey, CountsKey, SessionKey, key_bytes}
use Rattle.zn_layout.specs.StandsFor.{CountsMean, DataMeans, NodesMean, counts_record, data_record, is_counted_in, nodes_record}
use Rattle.zn_layout.proofs.ListRecords.{session_value-injective}
use Rattle.zn_layout.proofs.Nodes.{counts_value-injective, node_value-injective}
use Rattle.zn_view.specs.Lookups.{HasSeen, sees}
use Rattle.zn_view.specs.declared.leaving.NodeNow.{NodeNow}
use Rattle.zn_view.specs.declared.leaving.TreeChange.{TreeChange}
use Rattle.zn_view.specs.Leaving.{are_seen, counts_after, create_change, is_owner_seen, delete_change, counted as counted_by, is_checked, node_after, node_now, node_path, owner_of, room_after, set_change, with_change, AreCountsNow, AreCountsShown, IsNodeNow, IsNodeShown, IsRoomFor, IsRoomNow, IsRoomShown, NodeLeaves}
use Rattle.zn_view.specs.Seen.{View, seen}
use Rattle.zn_view.specs.Views.{about_parent, about_path, counts_of_parent}
use Rattle.zn_view.proofs.Members.{In, in_left, in_right}
use Rattle.zn_updates.specs.declared.seen.SeenCounts.{SeenCounts}
use Rattle.zn_updates.specs.declared.seen.SeenData.{SeenData}
use Rattle.zn_updates.specs.Deciding.{IsOwnerLookedUp, path_for}
use Rattle.zn_updates.specs.KeysRead.{IsOwnerSeen, owner_nodes, plain_data, session_nodes}
use Rattle.zn_updates.specs.Layers.{Shows, layered, stored_own}
use Rattle.zn_updates.specs.Parts.{IsCreateSeen, IsDeleteSeen, IsNarrower, IsSeenFor}
use Rattle.zn_updates.specs.Right.{with_tree}
use Rattle.zn_updates.specs.Seen.{ShowsCounts, ShowsData}
use Rattle.zn_updates.proofs.DeleteClauses.{owner_in}
use Rattle.zn_updates.proofs.Forms.{delete_refusal}
use Rattle.zn_updates.proofs.Layered.{first_seen, seen_layered}
use Rattle.zn_updates.proofs.Meanings.{of_abs}
use Rattle.zn_updates.proofs.PartChoices.{near_is}
use Rattle.zn_updates.proofs.Showing.{counts-shown, data-shown}
use Rattle.zn_multi.specs.Reading.{sequence_data, AreCountsAbove, IsCreateLeft, IsCreateRead, IsDeleteRead, IsFormedRead, Left}
use Rattle.zn_multi.proofs.ReadKeys.{path_in}
use Rattle.zn_multi.proofs.Walking.{counts_at, counts_of, now_of, Finds, Walks}

-- ---- a view with keys laid over it sees what it saw

first_some : (a b : Option (Option Kv)) → first_seen a b ≡ None → b ≡ None
first_some None b e = e
first_some (Some x) b e = absurd (cc)

pub layered_seen : (over near : View) (k : Key) → HasSeen near k → HasSeen (layered over near) k
layered_seen over near k saw none = saw (first_some (seen over (key_bytes k)) (seen near (key_bytes k)) (sym (seen_layered over near (key_bytes k)) ∙ none))

narrower_first : (a b c : Option (Option Kv)) (o : Option Kv) → ((p : Option Kv) → b ≡ Some p → c ≡ Some p) → first_seen a b ≡ Some o → first_seen a c ≡ Some o
narrower_first None b c o h e = h o e
narrower_first (Some x) b c o h e = e

pub layered_narrower : (over near v : View) → IsNarrower near v → IsNarrower (layered over near) (layered over v)
layered_narrower over near v narrow k o e =
    seen_layered over v k ∙ narrower_first (seen over k) (seen near k) (seen v k) o (narrow k) (sym (seen_layered over near k) ∙ e)

-- ---- records show what the state has

node_shown : (z : ℤ) (n : Option Node) (o : Option Kv) (x : Option (Option NodeNow)) → IsNodeShown (Some o) x → DataMeans n (stored_own z o) → x ≡ Some (now_of n)
node_shown z None None x saw means = saw
node_shown z None (Some kv) x saw means = absurd means
node_shown z (Some n) None x saw means = absurd means
node_shown z (Some n) (Some kv) x saw means =
    saw.2 ∙ ap (λ (r : NodeRec). Some (Some (node_now r.version r.owner))) (node_value-injective saw.0 (data_record n means.stored) saw.1.0 means.fits (sym saw.1.1 ∙ means.value))

-- a node without a record of its counts has none
pub uncounted_is : (n : Node) (children : ℕ) → n.creates ≡ pos 0 → children ≡ 0 → first_counts ≡ counts_record n children
uncounted_is n children none childless = λ i. record { creates = sym none i; children = pos (sym childless i) }

counts_shown : (z : ℤ) (n : Option Node) (children : ℕ) (counted : Bool) (o : Option Kv) (m : Option (Option NodeNow)) (c : Option (Option CountRec)) → m ≡ Some (now_of n) → AreCountsShown (Some o) c → CountsMean n children counted (stored_own z o)
    → counted_by m c ≡ Some (counts_at n children)
counts_shown z None children counted None m c there saw means = λ i. counted_by (there i) (saw i)
counts_shown z None children counted (Some kv) m c there saw means = absurd means
counts_shown z (Some n) children true None m c there saw means = absurd means
counts_shown z (Some n) children true (Some kv) m c there saw means =
    ap (counted_by m) saw.2 ∙ ap (λ (r : CountRec). Some (Some r)) (counts_value-injective saw.0 (counts_record n children) saw.1.0 means.fits (sym saw.1.1 ∙ means.value))
counts_shown z (Some n) children false None m c there saw means =
    (λ i. counted_by (there i) (saw i)) ∙ ap (λ (r : CountRec). Some (Some r)) (uncounted_is n children means.creates means.childless)
counts_shown z (Some n) children false (Some kv) m c there saw means = absurd means

-- how many nodes more a session may own
abbrev pub room_in : Session → List Bytes → ℕ
room_in x ps = limit_of x - length ps

room_shown : (z : ℤ) (x : Session) (ps : List Bytes) (o : Option Kv) (n : Option ℕ) → IsRoomShown (Some o) n → NodesMean (Some x) ps (stored_own z o) → n ≡ Some (room_in x ps)
room_shown z x ps None n saw means = absurd means
room_shown z x ps (Some kv) n saw means =
    saw.2 ∙ ap (λ (r : SessionRec). Some (max_owned r.layout - length r.paths)) (session_value-injective saw.0 (nodes_record x ps) saw.1.0 means.fits (sym saw.1.1 ∙ means.value))

owner_shown : (z : ℤ) (n : Node) (o : Option Kv) (owner : ℤ) → IsOwnerSeen (Some o) owner → DataMeans (Some n) (stored_own z o) → owner ≡ n.owner
owner_shown z n None owner saw means = absurd means
owner_shown z n (Some kv) owner saw means =
    saw.2 ∙ ap (λ (r : NodeRec). r.owner) (node_value-injective saw.0 (data_record n means.stored) saw.1.0 means.fits (sym saw.1.1 ∙ means.value))

data_not_head : (p : Bytes) → DataKey p ≡ HeadKey → ⊥
data_not_head p e = cc

counts_not_head : (p : Bytes) → CountsKey p ≡ HeadKey → ⊥
counts_not_head p e = cc

nodes_not_head : (n : ℕ) → SessionKey n ≡ HeadKey → ⊥
nodes_not_head n e = cc

-- ---- what a narrower view saw

pub near_v : (near v : View) → IsNarrower near v → (k : Key) → HasSeen near k → HasSeen v k
near_v near v narrow k saw none = at (sees near k) refl
  where
    at : (o : Option (Option Kv)) → sees near k ≡ o → ⊥
    at None e = saw e
    at (Some o) e = let bad : None ≡ Some o = sym none ∙ narrow (key_bytes k) o e in cc

was_seen : (v : View) (k : Key) → HasSeen v k → is_some (sees v k) ≡ true
was_seen v k h = each (sees v k) refl
  where
    each : (o : Option (Option Kv)) → sees v k ≡ o → is_some o ≡ true
    each None e = absurd (h e)
    each (Some x) e = refl

module _ (z : ℤ) (v near : View) (narrow : IsNarrower near v) (s : State) (shown : Shows z near s) where
  first_node : (p : Bytes) → HasSeen near (DataKey p) → (x : Option (Option NodeNow)) → IsNodeShown (sees v (DataKey p)) x → x ≡ Some (now_of (get s.tree p))
  first_node p saw x is = at (sees near (DataKey p)) refl (near_is near v narrow (λ (o : Option (Option Kv)). IsNodeShown o x) (DataKey p) saw (λ _. is))
    where
      at : (o : Option (Option Kv)) → sees near (DataKey p) ≡ o → IsNodeShown o x → x ≡ Some (now_of (get s.tree p))
      at None e h = absurd (saw e)
      at (Some o) e h = node_shown z (get s.tree p) o x h (shown (DataKey p) (data_not_head p) o e).0

  counts_found : (p : Bytes) → HasSeen near (DataKey p) → HasSeen near (CountsKey p) → (m : Option (Option NodeNow)) → IsNodeShown (sees v (DataKey p)) m → (c : Option (Option CountRec)) → AreCountsShown (sees v (CountsKey p)) c
      → counted_by m c ≡ Some (counts_of s.tree p)
  counts_found p saw_node saw m node c is = at (sees near (CountsKey p)) refl (near_is near v narrow (λ (o : Option (Option Kv)). AreCountsShown o c) (CountsKey p) saw (λ _. is))
    where
      at : (o : Option (Option Kv)) → sees near (CountsKey p) ≡ o → AreCountsShown o c → counted_by m c ≡ Some (counts_of s.tree p)
      at None e h = absurd (saw e)
      at (Some o) e h = counts_shown z (get s.tree p) (num_children s.tree p) (is_counted_in s (get s.tree p)) o m c (first_node p saw_node m node) h (shown (CountsKey p) (counts_not_head p) o e).0

  first_room : (id : ℤ) (y : Session) → pos 0 ≤ℤ id → session_at id s ≡ Some y → HasSeen near (SessionKey (nat_abs id)) → (n : Option ℕ) → IsRoomShown (sees v (SessionKey (nat_abs id))) n → n ≡ Some (room_in y (owned s.tree id))
  first_room id y least opened saw n is = at (sees near (SessionKey (nat_abs id))) refl (near_is near v narrow (λ (o : Option (Option Kv)). IsRoomShown o n) (SessionKey (nat_abs id)) saw (λ _. is))
    where
      same_id : pos (nat_abs id) ≡ id
      same_id = of_abs id least

      at : (o : Option (Option Kv)) → sees near (SessionKey (nat_abs id)) ≡ o → IsRoomShown o n → n ≡ Some (room_in y (owned s.tree id))
      at None e h = absurd (saw e)
      at (Some o) e h = room_shown z y (owned s.tree id) o n h
          (subst (λ (w : Option Session × ℤ). NodesMean w.0 (owned s.tree w.1) (stored_own z o)) (λ i. ((ap (λ (j : ℤ). session_at j s) same_id ∙ opened) i, same_id i)) (shown (SessionKey (nat_abs id)) (nodes_not_head (nat_abs id)) o e).0)

  pub owner_found : (p : Bytes) → HasSeen near (DataKey p) → (owner : ℤ) → IsOwnerSeen (sees v (DataKey p)) owner → (n : Node) → get s.tree p ≡ Some n → owner ≡ n.owner
  owner_found p saw owner is n there = at (sees near (DataKey p)) refl (near_is near v narrow (λ (o : Option (Option Kv)). IsOwnerSeen o owner) (DataKey p) saw (λ _. is))
    where
      at : (o : Option (Option Kv)) → sees near (DataKey p) ≡ o → IsOwnerSeen o owner → owner ≡ n.owner
      at None e h = absurd (saw e)
      at (Some o) e h = owner_shown z n o owner h (subst (λ (x : Option Node). DataMeans x (stored_own z o)) there (shown (DataKey p) (data_not_head p) o e).0)

  -- ---- a part, on what the parts before it left

  -- the list of the session's nodes was looked up
  abbrev pub Known : ℤ → Type 0
  Known o = HasSeen near (SessionKey (nat_abs o))

  module _ (id : ℤ) (y : Session) (least : pos 0 ≤ℤ id) (opened : session_at id s ≡ Some y) (changes : List TreeChange) (t : Tree) (walks : Walks s.tree Known (limit_of y) id changes t) (over : View) (left : Shows z (layered over near) (with_tree s t)) where
    abbrev now_seen : View
    now_seen = layered over near

    node_is : (p : Bytes) (x : Option (Option NodeNow)) → IsNodeNow v changes p x → HasSeen near (DataKey p) → x ≡ Some (now_of (get t p))
    node_is p x (before, is, e) saw = e ∙ ap (node_after changes p) (first_node p saw before is) ∙ walks.nodes p

    counts_are : (p : Bytes) (c : Option (Option CountRec)) → AreCountsNow v changes p c → HasSeen near (DataKey p) → HasSeen near (CountsKey p) → c ≡ Some (counts_of t p)
    counts_are p c (m, before, node, is, e) saw_node saw = e ∙ ap (counts_after changes p) (counts_found p saw_node saw m node before is) ∙ walks.counts p

    abbrev room_now : ℕ
    room_now = room_in y (owned t id)

    room_is : (n : Option ℕ) → IsRoomNow v changes id n → Known id → n ≡ Some room_now
    room_is n (before, is, e) saw = e ∙ ap (option_map (room_after changes id)) (first_room id y least opened saw before is) ∙ ap Some walks.room

    for_is : (ephemeral : Bool) (n : Option ℕ) → IsRoomFor v changes ephemeral id n → (ephemeral ≡ true → Known id) → n ≡ Some (if ephemeral then room_now else 1)
    for_is true n is mine = room_is n is (mine refl)
    for_is false n is mine = is

    -- ---- create

    module _ (path d : Bytes) (a : List Acl) (f : ℤ) (own : List Key) (next : Left) (h : IsCreateRead id v (Some changes) path (is_sequential f) (is_ephemeral f) (parent (named f path)) own next) (saw : (k : Key) → In k own → HasSeen near k) where
      abbrev fixed : List Key
      fixed = about_parent (parent (named f path)) ++ plain_data (is_sequential f) path

      abbrev node : Option Bytes
      node = node_path (is_sequential f) path h.counts

      in_fixed : (k : Key) → In k (about_parent (parent (named f path))) → HasSeen near k
      in_fixed k i = saw k (subst (In k) (sym h.keys) (in_left k (fixed ++ session_nodes (is_ephemeral f) id) (sequence_data (is_sequential f) node) (in_left k fixed (session_nodes (is_ephemeral f) id) (in_left k (about_parent (parent (named f path))) (plain_data (is_sequential f) path) i))))

      up_seen : (q : Bytes) → parent (named f path) ≡ Some q → HasSeen near (DataKey q)
      up_seen q up = in_fixed (DataKey q) (subst (λ (o : Option Bytes). In (DataKey q) (about_parent o)) (sym up) (inl refl))

      counts_seen : (q : Bytes) → parent (named f path) ≡ Some q → HasSeen near (CountsKey q)
      counts_seen q up = in_fixed (CountsKey q) (subst (λ (o : Option Bytes). In (CountsKey q) (about_parent o)) (sym up) (inr (inl refl)))

      mine : is_ephemeral f ≡ true → Known id
      mine e = saw (SessionKey (nat_abs id)) (subst (In (SessionKey (nat_abs id))) (sym h.keys)
          (in_left (SessionKey (nat_abs id)) (fixed ++ session_nodes (is_ephemeral f) id) (sequence_data (is_sequential f) node)
          (in_right (SessionKey (nat_abs id)) fixed (session_nodes (is_ephemeral f) id) (subst (λ b. In (SessionKey (nat_abs id)) (session_nodes b id)) (sym e) (inl refl)))))

      counted : (q : Bytes) → parent (named f path) ≡ Some q → h.counts ≡ Some (counts_of t q)
      counted q below = counts_are q h.counts (subst (λ (o : Option Bytes). AreCountsAbove v (Some changes) o h.counts) below h.counts_are) (up_seen q below) (counts_seen q below)

      path_found : (b : Bool) (up : Node) (children : ℕ) → node_path b path (Some (counts_at (Some up) children)) ≡ Some (if b then sequence_path path (nat_abs up.creates) else path)
      path_found true up children = refl
      path_found false up children = refl

      found : (q : Bytes) (up : Node) → parent (named f path) ≡ Some q → get t q ≡ Some up → node ≡ Some (made_path f path up)
      found q up below there = ap (node_path (is_sequential f) path) (counted q below ∙ ap (λ (o : Option Node). Some (counts_at o (num_children t q))) there) ∙ path_found (is_sequential f) up (num_children t q)

      node_seen : (p : Bytes) → node ≡ Some p → HasSeen near (DataKey p)
      node_seen p e = saw (DataKey p) (subst (In (DataKey p)) (sym h.keys) (path_in id v (is_sequential f) path h.counts p e (about_parent (parent (named f path))) (session_nodes (is_ephemeral f) id)))

      same_path : (q : Bytes) (w : SeenCounts) (n : Option Node) (stored : Bool) → parent (named f path) ≡ Some q → get t q ≡ n → ShowsCounts z (Some w) n (num_children t q) stored → HasSeen near (DataKey (path_for (is_sequential f) path (Some w)))
      same_path q w None stored below there shows = absurd shows
      same_path q w (Some up) stored below there shows =
          let same : w.counts.creates ≡ up.creates = ap (λ (r : CountRec). r.creates) shows.is in
          node_seen (path_for (is_sequential f) path (Some w)) (found q up below there ∙ ap (λ (c : ℤ). Some (if is_sequential f then sequence_path path (nat_abs c) else path)) (sym same))

      create_seen : (q : Bytes) → parent (named f path) ≡ Some q → IsCreateSeen id now_seen path f q
      create_seen q below = record {
        up = layered_seen over near (DataKey q) (up_seen q below);
        counts = layered_seen over near (CountsKey q) (counts_seen q below);
        nodes = λ e. layered_seen over near (SessionKey (nat_abs id)) (mine e);
        own = λ u w node is. layered_seen over near (DataKey (path_for (is_sequential f) path (Some w))) (same_path q w (get t q) (is_counted_in (with_tree s t) (get t q)) below refl (counts-shown z now_seen (with_tree s t) left q u (Some w) node is));
      }

      node_leaves : (q p : Bytes) (up : Option (Option NodeNow)) → parent (named f path) ≡ Some q → node ≡ Some p → up ≡ Some (now_of (get t q)) → NodeLeaves v changes (is_ephemeral f) id up h.counts (Some p) next
          → next ≡ with_change changes (create_change p (owner_of (is_ephemeral f) id) (Some (now_of (get t q))) (Some (counts_of t q)) (Some (now_of (get t p))) (Some (if is_ephemeral f then room_now else 1)))
      node_leaves q p up below at up_is (there, n, there_is, n_is, is) =
          let here : there ≡ Some (now_of (get t p)) = node_is p there there_is (node_seen p at) in
          let owns : n ≡ Some (if is_ephemeral f then room_now else 1) = for_is (is_ephemeral f) n n_is mine in
          let counts : h.counts ≡ Some (counts_of t q) = counted q below in
          is ∙ (λ i. with_change changes (create_change p (owner_of (is_ephemeral f) id) (up_is i) (counts i) (here i) (owns i)))

      create_next : (q : Bytes) → parent (named f path) ≡ Some q → (up : Node) → get t q ≡ Some up
          → next ≡ with_change changes (create_change (made_path f path up) (owner_of (is_ephemeral f) id) (Some (now_of (get t q))) (Some (counts_of t q)) (Some (now_of (get t (made_path f path up)))) (Some (if is_ephemeral f then room_now else 1)))
      create_next q below up there =
          let at : node ≡ Some (made_path f path up) = found q up below there in
          let leaves : IsCreateLeft v (Some changes) (is_ephemeral f) id (Some q) h.counts (Some (made_path f path up)) next =
          subst (λ (x : Option Bytes × Option Bytes). IsCreateLeft v (Some changes) (is_ephemeral f) id x.0 h.counts x.1 next) (λ i. (below i, at i)) h.next_is in
          node_leaves q (made_path f path up) leaves.0 below at (node_is q leaves.0 leaves.1 (up_seen q below)) leaves.2

    -- ---- delete

    module _ (p : Bytes) (x : ℤ) (own : List Key) (next : Left) (h : IsDeleteRead v (Some changes) p x own next) (saw : (k : Key) → In k own → HasSeen near k) where
      fixed_seen : (k : Key) → In k (about_path p ++ counts_of_parent (parent p)) → HasSeen near k
      fixed_seen k i = saw k (subst (In k) (sym h.keys) (in_left k (about_path p ++ counts_of_parent (parent p)) (owner_nodes h.owner) i))

      -- the owner of the node that stands there now
      owner_known : (n : Node) → get t p ≡ Some n → (n.owner ≡ pos 0 → ⊥) → Known n.owner
      owner_known n there owns = ⊎_elim
          (λ (was : (o : Node) × (get s.tree p ≡ Some o) × (o.owner ≡ n.owner)).
          let same : h.owner ≡ n.owner = owner_found p (fixed_seen (DataKey p) (inl refl)) h.owner h.owner_is was.0 was.1 ∙ was.2 in
          subst Known same (saw (SessionKey (nat_abs h.owner)) (subst (In (SessionKey (nat_abs h.owner))) (sym h.keys)
          (in_right (SessionKey (nat_abs h.owner)) (about_path p ++ counts_of_parent (parent p)) (owner_nodes h.owner) (owner_in p (pos 0) h.owner (λ e. owns (sym same ∙ e)))))))
          (λ known. known)
          (walks.owned p n there owns)

      above_seen : (o : Option Bytes) → ((k : Key) → In k (counts_of_parent o) → HasSeen near k) → are_seen v (counts_of_parent o) ≡ true
      above_seen None all = refl
      above_seen (Some q) all = and_from _ _ (was_seen v (CountsKey q) (near_v near v narrow (CountsKey q) (all (CountsKey q) (inl refl)))) refl

      owner_seen : (owner : ℤ) → ((owner ≡ pos 0 → ⊥) → Known owner) → is_owner_seen v owner ≡ true
      owner_seen owner known = at (int_lt owner (pos 1)) refl
        where
          at : (b : Bool) → int_lt owner (pos 1) ≡ b → (if b then true else is_some (sees v (SessionKey (nat_abs owner)))) ≡ true
          at true e = refl
          at false e = was_seen v (SessionKey (nat_abs owner)) (near_v near v narrow (SessionKey (nat_abs owner)) (known (λ zero. true≢false (ap (λ (o : ℤ). int_lt o (pos 1)) (sym zero) ∙ e))))

      all_seen : (n : Node) → get t p ≡ Some n → (are_seen v (counts_of_parent (parent p)) && is_owner_seen v n.owner) ≡ true
      all_seen n there = and_from _ _ (above_seen (parent p) (λ k i. fixed_seen k (inr (inr i)))) (owner_seen n.owner (owner_known n there))

      not_root : form_refusal (part.Delete p x) ≡ None → p ≡ root → ⊥
      not_root form e = at (is_path p && not (same p root)) refl
        where
          at : (b : Bool) → (is_path p && not (same p root)) ≡ b → ⊥
          at false inner = none_some (sym form ∙ delete_refusal p x false inner)
          at true inner = true≢false (sym (and_parts _ _ inner).1 ∙ ap not (ap (λ (r : Bytes). same r root) e ∙ same-refl root))

      delete_next : next ≡ with_change changes (delete_change v p x (Some (now_of (get t p))) (Some (counts_of t p)))
      delete_next =
          let n : h.next_is.0 ≡ Some (now_of (get t p)) = node_is p h.next_is.0 h.next_is.2 (fixed_seen (DataKey p) (inl refl)) in
          let c : h.next_is.1 ≡ Some (counts_of t p) = counts_are p h.next_is.1 h.next_is.3 (fixed_seen (DataKey p) (inl refl)) (fixed_seen (CountsKey p) (inr (inl refl))) in
          h.next_is.4 ∙ (λ i. with_change changes (delete_change v p x (n i) (c i)))

      looked_up : (y : Option SeenData) (n : Option Node) → get t p ≡ n → ShowsData z y n → IsOwnerLookedUp now_seen y
      looked_up None n there shows = tt
      looked_up (Some y) None there shows = absurd shows
      looked_up (Some y) (Some n) there shows = λ owns.
          let same : y.owner ≡ n.owner = ap (λ (w : SeenData). w.owner) shows.is in
          layered_seen over near (SessionKey (nat_abs y.owner)) (subst Known (sym same) (owner_known n there (λ e. owns (same ∙ e))))

      delete_seen : IsDeleteSeen now_seen p
      delete_seen = record {
        node = layered_seen over near (DataKey p) (fixed_seen (DataKey p) (inl refl));
        counts = layered_seen over near (CountsKey p) (fixed_seen (CountsKey p) (inr (inl refl)));
        above = λ q e. layered_seen over near (CountsKey q) (fixed_seen (CountsKey q) (inr (inr (subst (λ (o : Option Bytes). In (CountsKey q) (counts_of_parent o)) (sym e) (inl refl)))));
        owner = λ y is. looked_up y (get t p) refl (data-shown z now_seen (with_tree s t) left p y is);
      }

    -- ---- each part

    pub looks : (p : Part) (own : List Key) (next : Left) → IsFormedRead id v (Some changes) p own next → ((k : Key) → In k own → HasSeen near k) → IsSeenFor id now_seen p
    looks (part.Create path d a f) own next h saw = λ q below. create_seen path d a f own next h saw q below
    looks (part.Delete path x) own next h saw = delete_seen path x own next h saw
    looks (part.SetData path d x) own next h saw = (
      layered_seen over near (DataKey path) (saw (DataKey path) (subst (In (DataKey path)) (sym h.0) (inl refl))),
      layered_seen over near (CountsKey path) (saw (CountsKey path) (subst (In (CountsKey path)) (sym h.0) (inr (inl refl)))),
    )
    looks (part.Check path x) own next h saw = layered_seen over near (DataKey path) (saw (DataKey path) (subst (In (DataKey path)) (sym h.0) (inl refl)))

    pub finds : (p : Part) (own : List Key) (next : Left) → form_refusal p ≡ None → IsFormedRead id v (Some changes) p own next → ((k : Key) → In k own → HasSeen near k) → Finds s.tree Known (limit_of y) id v changes t next p
    finds (part.Create path d a f) own next form h saw = (mine path d a f own next h saw, create_next path d a f own next h saw)
    finds (part.Delete path x) own next form h saw = (not_root path x own next h saw form, all_seen path x own next h saw, delete_next path x own next h saw)
    finds (part.SetData path d x) own next form h saw = (
      was_seen v (CountsKey path) (near_v near v narrow (CountsKey path) (saw (CountsKey path) (subst (In (CountsKey path)) (sym h.0) (inr (inl refl))))),
      h.1.2 ∙ ap (λ (n : Option (Option NodeNow)). with_change changes (set_change v path x n)) (node_is path h.1.0 h.1.1 (saw (DataKey path) (subst (In (DataKey path)) (sym h.0) (inl refl)))),
    )
    finds (part.Check path x) own next form h saw =
        h.1.2 ∙ ap (λ (n : Option (Option NodeNow)). if is_checked x n then Some changes else None) (node_is path h.1.0 h.1.1 (saw (DataKey path) (subst (In (DataKey path)) (sym h.0) (inl refl))))

    -- the sessions whose nodes it makes or removes
    listed : (o : ℤ) (n : Option Node) → ((x : Node) → n ≡ Some x → (x.owner ≡ pos 0 → ⊥) → Known x.owner) → In o (owner_list n) → Known o
    listed o None known = λ bad. absurd bad
    listed o (Some n) known = at (int_eq n.owner (pos 0)) refl
      where
        at : (b : Bool) → int_eq n.owner (pos 0) ≡ b → In o (cond b [] (n.owner ∷ [])) → Known o
        at true e bad = absurd bad
        at false e (inl same) = subst Known same (known n refl (λ z. true≢false (sym ((Decides-int_eq n.owner (pos 0)).1 z) ∙ e)))
        at false e (inr bad) = absurd bad

    pub touched_known : (p : Part) (own : List Key) (next : Left) → IsFormedRead id v (Some changes) p own next → ((k : Key) → In k own → HasSeen near k) → (o : ℤ) → In o (touched_by t id p) → Known o
    touched_known (part.Create path d a f) own next h saw o = at (is_ephemeral f) refl
      where
        at : (b : Bool) → is_ephemeral f ≡ b → In o (if b then id ∷ [] else []) → Known o
        at true e (inl same) = subst Known same (mine path d a f own next h saw e)
        at true e (inr bad) = absurd bad
        at false e bad = absurd bad
    touched_known (part.Delete path x) own next h saw o = λ i. listed o (get t path) (λ n there owns. owner_known path x own next h saw n there owns) i
    touched_known (part.SetData path d x) own next h saw o = λ bad. absurd bad
    touched_known (part.Check path x) own next h saw o = λ bad. absurd bad
