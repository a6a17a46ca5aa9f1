-- The decision of a delete is what is promised of it.
use Rattle.std.proofs.Common.{◌^◌, ◌<◌, ◌≡◌, ◌≢◌, ℕ, ◌≤◌, ℤ, pos, true, false, cond, List, [], ◌∷◌, ◌++◌, Option, Some, None, refl, sym, ap, ◌∙◌, subst, inl, inr, ⊎_elim, length, arith}
use Rattle.std.specs.Prelude.{◌≤ℤ◌, All, IfSome, not, nat_abs, map, IsTrue, ◌&&◌}
use Rattle.std.proofs.lemmas.List.Elements.{All-cons, All-nil}
use Rattle.std.specs.FinMap.{get}
use Rattle.std.specs.Ordering.{int_eq}
use Rattle.std.proofs.lemmas.Bool.{true≢false}
use Rattle.std.proofs.lemmas.Bool.Decides.{Decides-int_eq}
use Rattle.ev_types.specs.declared.answer.Kv.{Kv}
use Rattle.zx_base.specs.Maps.{Bytes, same}
use Rattle.zx_base.proofs.MapLaws.{same-refl}
use Rattle.zk_model.specs.declared.node.Node.{Node}
use Rattle.zk_model.specs.declared.node.Trigger.TheVariants.{Deleted, Children}
use Rattle.zk_model.specs.declared.request.Part.TheVariants.{Delete}
use Rattle.zk_model.specs.declared.request.Request.TheVariants as req
use Rattle.zk_model.specs.Codes.{bad_arguments, no_node}
use Rattle.zk_model.specs.Limits.{max_owned}
use Rattle.zk_model.specs.Paths.{is_path, parent, root}
use Rattle.zk_model.specs.Single.{Refused, form_refusal, single, effect, delete, unless_refused, matches}
use Rattle.zk_model.specs.Watches.{no_watches}
use Rattle.zk_model.specs.Znodes.{num_children, owned}
use Rattle.zk_model.proofs.ValidPaths.{parent-valid}
use Rattle.zk_service.specs.Answers.{plain_request, told_refusal, tree_reply}
use Rattle.zk_service.specs.States.{State, Session, IsSound, commit, limit_of, session_at}
use Rattle.zn_layout.specs.declared.record.NodeRec.{NodeRec}
use Rattle.zn_layout.specs.declared.record.SessionRec.{SessionRec}
use Rattle.zn_layout.specs.Keys.{Key, HeadKey, DataKey, CountsKey, SessionKey, LeaseKey, key_bytes}
use Rattle.zn_layout.specs.Reading.{IsValueOf}
use Rattle.zn_layout.specs.Records.{node_value, IsNodeRec, IsHeadRec}
use Rattle.zn_layout.specs.Records.{IsSessionRec}
use Rattle.zn_layout.proofs.Nodes.{node_value-injective}
use Rattle.zn_layout.proofs.Paths.{path_short}
use Rattle.zn_layout.proofs.Counted.{plain-counted}
use Rattle.zn_view.specs.declared.plan.Decision.{Decision}
use Rattle.zn_view.specs.declared.plan.Who.{Who}
use Rattle.zn_view.specs.declared.want.Want.{Want}
use Rattle.zn_view.specs.Lookups.{HasSeen, sees}
use Rattle.zn_view.specs.Needs.{AreNeeds, FollowsOwner, IsRead, key_want, IsWhole}
use Rattle.zn_view.specs.Lacking.{lacking}
use Rattle.zn_view.specs.Seen.{View, seen}
use Rattle.zn_view.specs.Views.{reads, about_path, counts_of_parent}
use Rattle.zn_view.proofs.AsSeen.{agrees-as_seen}
use Rattle.zn_view.proofs.Members.{In, contains_in, in_contains, in_left, in_right, in_either}
use Rattle.zn_view.proofs.Sizes.{counts-size, data-size, head-size, life-size, session-size}
use Rattle.zn_view.proofs.Wanted.{are-needs}
use Rattle.zn_updates.specs.declared.seen.SeenData.{SeenData}
use Rattle.zn_updates.specs.declared.seen.SeenCounts.{SeenCounts}
use Rattle.zn_updates.specs.Choices.{Choice, Refuse, delete_choice, delete_here, delete_owned}
use Rattle.zn_updates.proofs.Plans.{choice-by_tree}
use Rattle.zn_view.specs.Deciding.{IfPlanned, IsToldByForm, is_by_tree}
use Rattle.zn_updates.specs.Deciding.{decision_of, IfMakes, IsBounded, IsBySound, IsDelete, IsGuarded, IsOwnerLookedUp, AreOwnerNodes, on_keys, owner_seen}
use Rattle.zn_updates.specs.KeysRead.{owner_nodes, delete_keys, IsOwnerSeen}
use Rattle.zn_updates.specs.Making.{IsDataSeen, IsCountsSeen, IsNodesSeen}
use Rattle.zn_updates.specs.Right.{IsRight}
use Rattle.zn_updates.specs.Seen.{ShowsCounts, ShowsData, ShowsOwned}
use Rattle.zn_updates.proofs.Clauses.{AreKeys, IsShortKey, makes_cond, by_form, by_sound, near_sees, planned, refused_plans}
use Rattle.zn_updates.specs.Layers.{IsChosen, Shows}
use Rattle.zn_updates.proofs.Deciding.{IsPart}
use Rattle.zn_updates.proofs.DeleteRight.{delete_right, plain_parent}
use Rattle.zn_updates.proofs.Forms.{delete_refusal}
use Rattle.zn_updates.proofs.NewKeys.{delete-new}
use Rattle.zn_updates.proofs.WellMade.{delete-made, nodes-within, two_triggers}
use Rattle.zn_updates.proofs.Meanings.{int_eq-apart, of_abs}
use Rattle.zn_updates.proofs.Showing.{data-shown, counts-shown, nodes-shown, parent-shown}
use Rattle.zn_updates.proofs.Telling.{shows, told}
use Rattle.zx_base.proofs.Booleans.{and-split}

not_root : (p : Bytes) → not (same p root) ≡ true → p ≢ root
not_root p h e = let t : same p root ≡ true = ap (λ (x : Bytes). same x root) e ∙ same-refl root in let f : not true ≡ true = sym (ap not t) ∙ h in cc

-- the owner's nodes that were seen are those of its session
module _ (v : View) (s : State) (sound : IsSound s) (z : ℤ) (shown : Shows z v s) where
  by_session : (id : ℤ) → pos 0 ≤ℤ id → (nodes : Option SessionRec) → IsNodesSeen (sees v (SessionKey (nat_abs id))) nodes → (x : Session) → session_at id s ≡ Some x → ShowsOwned nodes x (owned s.tree id)
  by_session id least nodes seen_nodes x opened = subst (λ (o : ℤ). ShowsOwned nodes x (owned s.tree o)) (of_abs id least)
      (nodes-shown z v s shown (nat_abs id) x nodes (ap (λ (o : ℤ). session_at o s) (of_abs id least) ∙ opened) seen_nodes)

-- and no more than it may own
few_owned : (v : View) (s : State) → IsSound s → Shows (pos 0) v s → (p : Bytes) (y : SeenData) (r : SessionRec) (n : Option Node) → get s.tree p ≡ n → ShowsData (pos 0) (Some y) n → (y.owner ≡ pos 0 → ⊥)
    → IsNodesSeen (sees v (SessionKey (nat_abs y.owner))) (Some r) → length r.paths ≤ max_owned r.layout
few_owned v s sound shown p y r None there shows owns seen_nodes = absurd shows
few_owned v s sound shown p y r (Some n) there shows owns seen_nodes =
    let same_owner : y.owner ≡ n.owner = ap (λ (w : SeenData). w.owner) shows.is in
    let session = sound.owners p n there (λ e. owns (same_owner ∙ e)) in
    let opened : session_at y.owner s ≡ Some session.0 = ap (λ (o : ℤ). session_at o s) same_owner ∙ session.1 in
    let listed = by_session v s sound (pos 0) shown y.owner shows.within.owner.least (Some r) seen_nodes session.0 opened in
    subst (λ (k : SessionRec). length k.paths ≤ max_owned k.layout) (sym listed.is) (sound.limited y.owner session.0 opened)

module _ (p : Bytes) (version : ℤ) where
  pub delete_plain : plain_request no_watches (req.Delete p version) ≡ told_refusal no_watches (form_refusal (Delete p version))
  unfolding plain_request
  delete_plain = refl

  pub delete_valid : (is_path p && not (same p root)) ≡ true → plain_request no_watches (req.Delete p version) ≡ None
  delete_valid valid = delete_plain ∙ ap (told_refusal no_watches) (delete_refusal p version true valid)

  pub delete_invalid : (is_path p && not (same p root)) ≡ false → plain_request no_watches (req.Delete p version) ≡ told_refusal no_watches (Some bad_arguments)
  delete_invalid invalid = delete_plain ∙ ap (told_refusal no_watches) (delete_refusal p version false invalid)

  pub delete_part : IsPart (req.Delete p version) (Delete p version)
  unfolding tree_reply commit
  delete_part = record { told = λ t limit session. refl; done = λ s z session now. refl; after = λ s z session now. refl }

  effect_is : (s : State) (limit : ℕ) (session z : ℤ) (now : ℕ) → (is_path p && not (same p root)) ≡ true → single s.tree limit session (Delete p version) z now ≡ delete s.tree p version z (get s.tree p)
  unfolding single effect
  effect_is s limit session z now valid = ap (λ (o : Option ℤ). unless_refused o (delete s.tree p version z (get s.tree p))) (delete_refusal p version true valid)

  pub delete_bounds : (q : Bytes) (x : Option SeenData) (c a : Option SeenCounts) (nodes : Option SessionRec) → IsTrue (is_path p) → IsTrue (is_path q) → IfMakes IsHeadRec (delete_choice p q version x c a nodes)
  unfolding delete_choice
  delete_bounds q None c a nodes valid also = tt
  delete_bounds q (Some x) None a nodes valid also = tt
  delete_bounds q (Some x) (Some c) a nodes valid also = makes_cond IsHeadRec (not (matches version x.version)) _ _ tt (makes_cond IsHeadRec (not (int_eq c.counts.children (pos 0))) _ _ tt (here a))
    where
      owned_by : (o : Option SessionRec) (above : SeenCounts) → IfMakes IsHeadRec (delete_owned p q c.is_stored above.counts x.owner o)
      owned_by None above = tt
      owned_by (Some r) above = two_triggers (Deleted p) (Children q) valid also

      here : (o : Option SeenCounts) → IfMakes IsHeadRec (delete_here p q x c.is_stored o nodes)
      here None = tt
      here (Some above) = makes_cond IsHeadRec (int_eq x.owner (pos 0)) _ _ (two_triggers (Deleted p) (Children q) valid also) (owned_by nodes above)

  -- the parent of a node that is there has a record of its counts; where the node is not there, the parent's counts do not matter
  above_shown : (s : State) (z : ℤ) (v : View) (q : Bytes) (a : Option SeenCounts) → IsSound s → Shows z v s → parent p ≡ Some q → IsCountsSeen None (sees v (CountsKey q)) a → (n : Option Node) → get s.tree p ≡ n
      → IfSome n (λ _. ShowsCounts z a (get s.tree q) (num_children s.tree q) true)
  above_shown s z v q a sound shown below seen_above None there = tt
  above_shown s z v q a sound shown below seen_above (Some n) there =
      let up = plain_parent s p q n sound below there in
      subst (λ (u : Option Node). ShowsCounts z a u (num_children s.tree q) true) (sym up.there)
      (parent-shown z v s shown q up.node a up.there (plain-counted s up.node sound up.plain) seen_above)

  pub delete_chosen : (who : Who) (v : View) (q : Bytes) (x : Option SeenData) (c a : Option SeenCounts) (nodes : Option SessionRec) → (is_path p && not (same p root)) ≡ true → parent p ≡ Some q
      → IsDataSeen (sees v (DataKey p)) x → IsCountsSeen x (sees v (CountsKey p)) c → IsCountsSeen None (sees v (CountsKey q)) a → AreOwnerNodes v x nodes
      → IsChosen (Delete p version) who v (λ now. delete_choice p q version x c a nodes)
  delete_chosen who v q x c a nodes valid below data_seen counts_seen above_seen owner_seen = record {
    right = λ s z now time sound shown y opened.
        subst (IsRight z s (delete_choice p q version x c a nodes)) (sym (effect_is s (limit_of y) who.session z now valid))
        (delete_right s p q version z sound below x c a nodes (get s.tree p) refl (data-shown z v s shown p x data_seen) (counts-shown z v s shown p x c data_seen counts_seen)
        (above_shown s z v q a sound shown below above_seen (get s.tree p) refl)
        (λ w e owns session opened_by.
        let data_shown : ShowsData z (Some w) (get s.tree p) = data-shown z v s shown p (Some w) (subst (IsDataSeen (sees v (DataKey p))) e data_seen) in
        by_session v s sound z shown w.owner (owner_least z w (get s.tree p) data_shown) nodes (subst (λ (o : Option SeenData). AreOwnerNodes v o nodes) e owner_seen owns) session opened_by));
    same_code = λ now. refl;
  }
    where
      owner_least : (z : ℤ) (w : SeenData) (n : Option Node) → ShowsData z (Some w) n → pos 0 ≤ℤ w.owner
      owner_least z w None shows = absurd shows
      owner_least z w (Some n) shows = shows.within.owner.least

  -- at a path without a parent there is no node but the root
  no_parent : (s : State) (z : ℤ) → IsSound s → p ≢ root → parent p ≡ None → (n : Option Node) → get s.tree p ≡ n → delete s.tree p version z n ≡ Refused no_node
  no_parent s z sound inner none None there = refl
  no_parent s z sound inner none (Some n) there = let up = sound.parents p n there inner in let bad : None ≡ Some up.path = sym none ∙ up.is in absurd (cc)

  pub orphan_chosen : (who : Who) (v : View) → (is_path p && not (same p root)) ≡ true → parent p ≡ None → IsChosen (Delete p version) who v (λ now. Refuse no_node)
  orphan_chosen who v valid none = record {
    right = λ s z now time sound shown y opened. effect_is s (limit_of y) who.session z now valid ∙ no_parent s z sound (not_root p (and-split _ _ valid).1) none (get s.tree p) refl;
    same_code = λ now. refl;
  }

  -- ---- what it reads

  abbrev fixed : List Key
  fixed = about_path p ++ counts_of_parent (parent p)

  reads_are : (id : ℤ) → reads (req.Delete p version) id ≡ fixed
  unfolding reads
  reads_are id = refl

  -- the node's record that a view saw
  record IsNodeSeen (v : View) (r : NodeRec) : Type 0 where
    kv : Kv
    there : seen v (key_bytes (DataKey p)) ≡ Some (Some kv)
    is : IsValueOf node_value IsNodeRec kv.value r

  owner_node : (v : View) (owner : ℤ) → IsOwnerSeen (sees v (DataKey p)) owner → (owner ≡ pos 0 → ⊥) → (r : NodeRec) × IsNodeSeen v r × (owner ≡ r.owner)
  owner_node v owner is owns = elim (sees v (DataKey p)) as (λ o. sees v (DataKey p) ≡ o → IsOwnerSeen o owner → (r : NodeRec) × IsNodeSeen v r × (owner ≡ r.owner)) [
    | None ↦ λ e h. absurd (owns h)
    | Some None ↦ λ e h. absurd (owns h)
    | Some (Some kv) ↦ λ e h. (h.0, record { kv = kv; there = e; is = h.1 }, h.2)
  ] refl is

  same_node : (v : View) (owner : ℤ) → IsOwnerSeen (sees v (DataKey p)) owner → (r : NodeRec) → IsNodeSeen v r → owner ≡ r.owner
  same_node v owner is r node =
      let at : IsOwnerSeen (Some (Some node.kv)) owner = subst (λ (o : Option (Option Kv)). IsOwnerSeen o owner) node.there is in
      at.2 ∙ ap (λ (x : NodeRec). x.owner) (node_value-injective at.0 r at.1.0 node.is.0 (sym at.1.1 ∙ node.is.1))

  in_owner : (owner : ℤ) (k : Key) → In k (owner_nodes owner) → (owner ≡ pos 0 → ⊥) × (k ≡ SessionKey (nat_abs owner))
  in_owner owner k = elim (int_eq owner (pos 0)) as (λ b. int_eq owner (pos 0) ≡ b → In k (cond b [] (SessionKey (nat_abs owner) ∷ [])) → (owner ≡ pos 0 → ⊥) × (k ≡ SessionKey (nat_abs owner))) [
    | true ↦ λ e h. absurd h
    | false ↦ λ e h. ⊎_elim (λ is. (λ z. true≢false (sym ((Decides-int_eq owner (pos 0)).1 z) ∙ e), sym is)) (λ bad. absurd bad) h
  ] refl

  pub owner_in : (owner : ℤ) → (owner ≡ pos 0 → ⊥) → In (SessionKey (nat_abs owner)) (owner_nodes owner)
  owner_in owner owns = subst (λ b. In (SessionKey (nat_abs owner)) (cond b [] (SessionKey (nat_abs owner) ∷ []))) (sym (int_eq-apart owner (pos 0) owns)) (inl refl)

  pub owner_follows : (v : View) (owner : ℤ) → IsOwnerSeen (sees v (DataKey p)) owner → (k : Key) → In k (owner_nodes owner) → FollowsOwner v p (key_want k)
  owner_follows v owner is k h =
      let at = in_owner owner k h in
      let node = owner_node v owner is at.0 in
      (node.0, (node.1.is.0, (node.1.kv, node.1.there, node.1.is.1)), (λ e. at.0 (node.2 ∙ e)), ap key_want (at.1 ∙ ap (λ (o : ℤ). SessionKey (nat_abs o)) node.2))

  pub owner_to : (v : View) (owner : ℤ) → IsOwnerSeen (sees v (DataKey p)) owner → (w : Want) → FollowsOwner v p w → (k : Key) × In k (owner_nodes owner) × (w ≡ key_want k)
  owner_to v owner is w h =
      let node : IsNodeSeen v h.0 = record { kv = h.1.1.0; there = h.1.1.1; is = (h.1.0, h.1.1.2) } in
      let same_owner = same_node v owner is h.0 node in
      (SessionKey (nat_abs owner), owner_in owner (λ e. h.2 (sym same_owner ∙ e)), h.3 ∙ ap (λ (o : ℤ). key_want (SessionKey (nat_abs o))) (sym same_owner))

  reads_from : (who : Who) (v : View) (owner : ℤ) → IsOwnerSeen (sees v (DataKey p)) owner → (k : Key) → In k (delete_keys p (parent p) who.session owner) → IsRead (req.Delete p version) who v (key_want k)
  reads_from who v owner is k (inl e) = inl (ap key_want (sym e))
  reads_from who v owner is k (inr (inl e)) = inr (inl (ap key_want (sym e)))
  reads_from who v owner is k (inr (inr h)) = ⊎_elim
      (λ a. inr (inr (inl (k, in_contains k _ (subst (In k) (sym (reads_are who.session)) a), refl))))
      (λ b. inr (inr (inr (owner_follows v owner is k b))))
      (in_either k fixed (owner_nodes owner) h)

  reads_to : (who : Who) (v : View) (owner : ℤ) → IsOwnerSeen (sees v (DataKey p)) owner → (w : Want) → IsRead (req.Delete p version) who v w → (k : Key) × In k (delete_keys p (parent p) who.session owner) × (w ≡ key_want k)
  reads_to who v owner is w (inl e) = (HeadKey, inl refl, e)
  reads_to who v owner is w (inr (inl e)) = (LeaseKey (nat_abs who.session), inr (inl refl), e)
  reads_to who v owner is w (inr (inr (inl h))) = (h.0, inr (inr (in_left h.0 fixed (owner_nodes owner) (subst (In h.0) (reads_are who.session) (contains_in h.0 _ h.1)))), h.2)
  reads_to who v owner is w (inr (inr (inr h))) =
      let k = owner_to v owner is w h in
      (k.0, inr (inr (in_right _ fixed (owner_nodes owner) k.1)), k.2)

  pub delete_needs : (who : Who) (v : View) (ws : List Want) (q : Option Bytes) (owner : ℤ) → (is_path p && not (same p root)) ≡ true → q ≡ parent p → IsOwnerSeen (sees v (DataKey p)) owner → ws ≡ lacking v (map key_bytes (delete_keys p q who.session owner)) → AreNeeds (req.Delete p version) who v ws
  delete_needs who v ws q owner valid up is e =
      are-needs (req.Delete p version) who v (delete_keys p (parent p) who.session owner) ws (e ∙ ap (λ (o : Option Bytes). lacking v (map key_bytes (delete_keys p o who.session owner))) up) (delete_valid valid) (reads_from who v owner is) (reads_to who v owner is)

  pub delete_seen : (who : Who) (v : View) (k : Key) → (is_path p && not (same p root)) ≡ true → IsWhole (req.Delete p version) who v → In k fixed → HasSeen v k
  delete_seen who v k valid whole inside none = whole (delete_valid valid) (key_want k) (inr (inr (inl (k, in_contains k _ (subst (In k) (sym (reads_are who.session)) inside), refl)))) none

  pub above_seen : (who : Who) (v : View) → (is_path p && not (same p root)) ≡ true → IsWhole (req.Delete p version) who v → (q : Bytes) → parent p ≡ Some q → HasSeen v (CountsKey q)
  above_seen who v valid whole q below = delete_seen who v (CountsKey q) valid whole (inr (inr (subst (λ (o : Option Bytes). In (CountsKey q) (counts_of_parent o)) (sym below) (inl refl))))

  pub owner_looked_up : (who : Who) (v : View) → (is_path p && not (same p root)) ≡ true → IsWhole (req.Delete p version) who v → (x : Option SeenData) → IsDataSeen (sees v (DataKey p)) x → IsOwnerLookedUp v x
  owner_looked_up who v valid whole None is = tt
  owner_looked_up who v valid whole (Some x) is = λ owns none.
      whole (delete_valid valid) (key_want (SessionKey (nat_abs x.owner))) (inr (inr (inr (nodes_follow x is owns)))) none
    where
      nodes_follow : (y : SeenData) → IsDataSeen (sees v (DataKey p)) (Some y) → (y.owner ≡ pos 0 → ⊥) → FollowsOwner v p (key_want (SessionKey (nat_abs y.owner)))
      nodes_follow y h owns = elim (sees v (DataKey p)) as (λ o. sees v (DataKey p) ≡ o → IsDataSeen o (Some y) → FollowsOwner v p (key_want (SessionKey (nat_abs y.owner)))) [
        | None ↦ λ e bad. absurd bad
        | Some None ↦ λ e bad. absurd bad
        | Some (Some kv) ↦ λ e g.
            let same_owner : y.owner ≡ g.0.owner = ap (λ (w : SeenData). w.owner) g.2 in
            (g.0, (g.1.0, (kv, e, g.1.1)), (λ z. owns (same_owner ∙ z)), ap (λ (o : ℤ). key_want (SessionKey (nat_abs o))) same_owner)
      ] refl h

  -- ---- the keys that a plan guards

  pub owner_few : (owner : ℤ) → length (owner_nodes owner) ≤ 1
  owner_few owner = elim (int_eq owner (pos 0)) as (λ b. length (cond b [] (SessionKey (nat_abs owner) ∷ [])) ≤ 1) [ true ↦ omega arith | false ↦ omega arith ]

  pub owner_short : (owner : ℤ) → All IsShortKey (owner_nodes owner)
  owner_short owner = elim (int_eq owner (pos 0)) as (λ b. All IsShortKey (cond b [] (SessionKey (nat_abs owner) ∷ []))) [
    | true ↦ All-nil IsShortKey
    | false ↦ All-cons IsShortKey (SessionKey (nat_abs owner)) [] (omega (arith, session-size (nat_abs owner))) (All-nil IsShortKey)
  ]

  -- the owner that the view saw
  owner_is : (o : Option (Option Kv)) (x : Option SeenData) → IsDataSeen o x → IsOwnerSeen o (owner_seen x)
  owner_is None x h = absurd h
  owner_is (Some None) None h = refl
  owner_is (Some None) (Some x) h = absurd h
  owner_is (Some (Some kv)) None h = absurd h
  owner_is (Some (Some kv)) (Some x) h = (h.0, h.1, ap (λ (w : SeenData). w.owner) h.2)

  plan_keys : (who : Who) (v : View) (q : Bytes) (x : Option SeenData) → is_path p ≡ true → parent p ≡ Some q → IsDataSeen (sees v (DataKey p)) x → AreKeys (req.Delete p version) who v (delete_keys p (Some q) who.session (owner_seen x))
  plan_keys who v q x path below data_seen =
      let owner : ℤ = owner_seen x in
      let is = owner_is (sees v (DataKey p)) x data_seen in
      let few = owner_few owner in
      let own = path_short p path in
      let up = path_short q (parent-valid p q path below).0 in
      record {
        few = omega (arith, few);
        short = All-cons IsShortKey HeadKey (LeaseKey (nat_abs who.session) ∷ DataKey p ∷ CountsKey p ∷ CountsKey q ∷ owner_nodes owner) (omega (arith, head-size))
            (All-cons IsShortKey (LeaseKey (nat_abs who.session)) (DataKey p ∷ CountsKey p ∷ CountsKey q ∷ owner_nodes owner) (omega (arith, life-size (nat_abs who.session)))
            (All-cons IsShortKey (DataKey p) (CountsKey p ∷ CountsKey q ∷ owner_nodes owner) (omega (arith, data-size p, own))
            (All-cons IsShortKey (CountsKey p) (CountsKey q ∷ owner_nodes owner) (omega (arith, counts-size p, own))
            (All-cons IsShortKey (CountsKey q) (owner_nodes owner) (omega (arith, counts-size q, up)) (owner_short owner)))));
        life = inr (inl refl);
        from = λ k h. reads_from who v owner is k (subst (λ (o : Option Bytes). In k (delete_keys p o who.session owner)) (sym below) h);
        to = λ w reads. let k = reads_to who v owner is w reads in (k.0, subst (λ (o : Option Bytes). In k.0 (delete_keys p o who.session owner)) below k.1, k.2);
      }

  -- ---- what is promised

  not_owned : (owner : ℤ) → int_eq owner (pos 0) ≡ false → owner ≡ pos 0 → ⊥
  not_owned owner e is = true≢false (sym ((Decides-int_eq owner (pos 0)).1 is) ∙ e)

  module _ (who : Who) (v : View) (now : ℕ) (valid : (is_path p && not (same p root)) ≡ true) (time : now < 2 ^ 62) (real : pos 1 ≤ℤ who.session) (whole : IsWhole (req.Delete p version) who v) (d : Decision) where
    module _ (q : Bytes) (below : parent p ≡ Some q) (is : IsDelete v p version who.session (Some q) d) where
      path : is_path p ≡ true
      path = (and-split _ _ valid).0

      abbrev keys : List Key
      keys = delete_keys p (Some q) who.session (owner_seen is.0)

      abbrev choice : ℕ → Choice
      choice at_time = delete_choice p q version is.0 is.1 is.2 is.3

      chosen : IsChosen (Delete p version) who v choice
      chosen = delete_chosen who v q is.0 is.1 is.2 is.3 valid below is.4 is.5 is.6 is.7

      near_owner : (x : Option SeenData) → is.0 ≡ x → AreOwnerNodes v x is.3 → AreOwnerNodes (on_keys v keys) x is.3
      near_owner None e h = tt
      near_owner (Some x) e h = λ owns. subst (λ (o : Option (Option Kv)). IsNodesSeen o is.3)
          (sym (near_sees v keys (SessionKey (nat_abs x.owner)) (subst (λ (o : Option SeenData). In (SessionKey (nat_abs x.owner)) (delete_keys p (Some q) who.session (owner_seen o))) (sym e)
          (inr (inr (in_right (SessionKey (nat_abs x.owner)) (DataKey p ∷ CountsKey p ∷ CountsKey q ∷ []) (owner_nodes x.owner) (owner_in x.owner owns))))))) (h owns)

      near : IsChosen (Delete p version) who (on_keys v keys) choice
      near = delete_chosen who (on_keys v keys) q is.0 is.1 is.2 is.3 valid below
          (subst (λ (o : Option (Option Kv)). IsDataSeen o is.0) (sym (near_sees v keys (DataKey p) (inr (inr (inl refl))))) is.4)
          (subst (λ (o : Option (Option Kv)). IsCountsSeen is.0 o is.1) (sym (near_sees v keys (CountsKey p) (inr (inr (inr (inl refl)))))) is.5)
          (subst (λ (o : Option (Option Kv)). IsCountsSeen None o is.2) (sym (near_sees v keys (CountsKey q) (inr (inr (inr (inr (inl refl))))))) is.6)
          (near_owner is.0 refl is.7)

      few_nodes : (y : SeenData) (r : SessionRec) → is.0 ≡ Some y → int_eq y.owner (pos 0) ≡ false → is.3 ≡ Some r → IsSessionRec r × (IsBounded (req.Delete p version) v → length r.paths ≤ max_owned r.layout)
      few_nodes y r e owns es =
          let apart = not_owned y.owner owns in
          let seen_nodes : IsNodesSeen (sees v (SessionKey (nat_abs y.owner))) (Some r) =
          subst (λ (o : Option SessionRec). IsNodesSeen (sees v (SessionKey (nat_abs y.owner))) o) es (subst (λ (o : Option SeenData). AreOwnerNodes v o is.3) e is.7 apart) in
          let data_seen : IsDataSeen (sees v (DataKey p)) (Some y) = subst (IsDataSeen (sees v (DataKey p))) e is.4 in (
            nodes-within (sees v (SessionKey (nat_abs y.owner))) r seen_nodes,
            λ bounded.
                let s = bounded.0 in
                let of = bounded.2 in
                let shown = shows (pos 0) v of.0 s of.1 (told v of.0 (agrees-as_seen v of.0 of.2)) in
                few_owned v s bounded.1 shown p y r (get s.tree p) refl (data-shown (pos 0) v s shown p (Some y) data_seen) apart seen_nodes,
          )

      below_promised : IsToldByForm (req.Delete p version) d × IsBySound (req.Delete p version) who v d × IfPlanned (IsGuarded (req.Delete p version) who now v) d
      below_promised = (
        by_form (req.Delete p version) (Delete p version) who v keys choice now delete_part chosen time real (delete_valid valid) d is.8,
        by_sound (req.Delete p version) (Delete p version) who v keys choice now delete_part chosen time real (delete_valid valid) d is.8,
        planned (req.Delete p version) (Delete p version) who v keys choice now delete_part chosen time real (delete_valid valid) d is.8 near (plan_keys who v q is.0 path below is.4) whole
            (delete-made p q path below (IsBounded (req.Delete p version) v) version is.0 is.1 is.2 is.3 few_nodes) (delete-new v p q who.session version is.0 is.1 is.2 is.3),
      )

    orphan_promised : parent p ≡ None → d ≡ decision_of v (Refuse no_node) → IsToldByForm (req.Delete p version) d × IsBySound (req.Delete p version) who v d × IfPlanned (IsGuarded (req.Delete p version) who now v) d
    orphan_promised none is =
        let chosen = orphan_chosen who v valid none in
        let choice : ℕ → Choice = λ _. Refuse no_node in (
          by_form (req.Delete p version) (Delete p version) who v [] choice now delete_part chosen time real (delete_valid valid) d is,
          by_sound (req.Delete p version) (Delete p version) who v [] choice now delete_part chosen time real (delete_valid valid) d is,
          refused_plans (req.Delete p version) who v v now no_node d is,
        )

    pub all_promised : (q : Option Bytes) → parent p ≡ q → IsDelete v p version who.session q d → IsToldByForm (req.Delete p version) d × IsBySound (req.Delete p version) who v d × IfPlanned (IsGuarded (req.Delete p version) who now v) d
    all_promised None none is = orphan_promised none is
    all_promised (Some q) below is = below_promised q below is

pub delete-by_tree : (v : View) (p : Bytes) (version session : ℤ) (q : Option Bytes) (d : Decision) → IsDelete v p version session q d → is_by_tree d ≡ true
delete-by_tree v p version session None d is = choice-by_tree v (Refuse no_node) d is
delete-by_tree v p version session (Some q) d is = choice-by_tree (on_keys v (delete_keys p (Some q) session (owner_seen is.0))) (delete_choice p q version is.0 is.1 is.2 is.3) d is.8
