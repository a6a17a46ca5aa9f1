-- What the end of a session reads, what a view lacks of it, and a plan that guards it.
use Rattle.std.proofs.Common.{◌≡◌, zero, ℤ, true, false, Bool, ◌||◌, List, [], ◌∷◌, Option, Some, None, refl, sym, ap, ◌∙◌, subst, inl, inr, arith}
use Rattle.std.specs.Prelude.{nat_abs, map, Contains}
use Rattle.std.specs.List.{list_any}
use Rattle.std.proofs.lemmas.List.Elements.{All-weaker, All-contains_itself}
use Rattle.ev_types.specs.declared.answer.Kv.{Kv}
use Rattle.zx_base.specs.Maps.{Bytes}
use Rattle.zx_base.proofs.Options.{none_some}
use Rattle.zk_model.specs.declared.request.Request.TheVariants as req
use Rattle.zk_model.specs.Paths.{parent, is_child}
use Rattle.zk_model.specs.Watches.{no_watches}
use Rattle.zk_model.proofs.Paths.{is_child-yes, parent-from_child}
use Rattle.zk_service.specs.Answers.{plain_request}
use Rattle.zn_layout.specs.declared.record.SessionRec.{SessionRec}
use Rattle.zn_layout.specs.Keys.{Key, HeadKey, CountsKey, SessionKey, LeaseKey, key_bytes}
use Rattle.zn_layout.proofs.ListRecords.{session_value-injective}
use Rattle.zn_view.specs.declared.plan.Plan.{Plan}
use Rattle.zn_view.specs.declared.plan.Who.{Who}
use Rattle.zn_view.specs.declared.want.Want.{Want}
use Rattle.zn_view.specs.declared.want.Want.TheVariants as want
use Rattle.zn_view.specs.Asks.{again_of, guards_of, picked}
use Rattle.zn_view.specs.Lacking.{lacking}
use Rattle.zn_view.specs.Lookups.{sees, HasSeen, IsNodesIn}
use Rattle.zn_view.specs.Needs.{key_want, IsRead, IsWhole, AreNeeds, GuardsReads, SawNodes}
use Rattle.zn_view.specs.Seen.{View}
use Rattle.zn_view.specs.Views.{reads}
use Rattle.zn_view.proofs.Elements.{contains-map, mapped-contained}
pub use Rattle.zn_view.proofs.Members.{In, in_contains}
use Rattle.zn_view.proofs.Members.{contains_in}
use Rattle.zn_view.proofs.Wanted.{are-needs}
use Rattle.zs_close.specs.Ending.{parents}
use Rattle.zs_close.specs.Wanting.{end_keys, read_keys, IsNodesSeen, AreParentsSeen}
use Rattle.zs_close.proofs.Members.{any-member}
use Rattle.zs_close.proofs.Membership.{any-contained, contained-any}
use Rattle.zs_close.proofs.ParentPaths.{parents-any}

-- ---- the parents of nodes

pub in_counts : (q : Bytes) (qs : List Bytes) → In q qs → In (CountsKey q) (map CountsKey qs)
in_counts q [] h = absurd h
in_counts q (r ∷ qs) (inl e) = inl (ap CountsKey e)
in_counts q (r ∷ qs) (inr h) = inr (in_counts q qs h)

pub record IsCounts (k : Key) (qs : List Bytes) : Type 0 where
  pub path : Bytes
  pub inside : In path qs
  pub is : k ≡ CountsKey path

pub counts_in : (k : Key) (qs : List Bytes) → In k (map CountsKey qs) → IsCounts k qs
counts_in k [] h = absurd h
counts_in k (q ∷ qs) (inl e) = record { path = q; inside = inl refl; is = sym e }
counts_in k (q ∷ qs) (inr h) = let c = counts_in k qs h in record { path = c.path; inside = inr c.inside; is = c.is }

-- each is the parent of one of the nodes
record IsParent (ps : List Bytes) (q : Bytes) : Type 0 where
  path : Bytes
  inside : Contains ps path
  is : parent path ≡ Some q

parent_of : (ps : List Bytes) (q : Bytes) → Contains (parents ps) q → IsParent ps q
parent_of ps q c =
    let m = any-member (is_child q) ps (sym (parents-any ps q) ∙ any-contained q (parents ps) c) in
    record { path = m.path; inside = contained-any m.path ps m.inside; is = parent-from_child m.path q m.passes }

child_any : (q : Bytes) (ps : List Bytes) (p : Bytes) → is_child q p ≡ true → In p ps → list_any (is_child q) ps ≡ true
child_any q [] p e h = absurd h
child_any q (r ∷ ps) p e (inl is) = ap (λ b. b || list_any (is_child q) ps) (ap (is_child q) is ∙ e)
child_any q (r ∷ ps) p e (inr h) = or_right (is_child q r) (list_any (is_child q) ps) (child_any q ps p e h)
  where
    or_right : (a b : Bool) → b ≡ true → (a || b) ≡ true
    or_right true b h = refl
    or_right false b h = h

of_parent : (ps : List Bytes) (p q : Bytes) → Contains ps p → parent p ≡ Some q → In q (parents ps)
of_parent ps p q c e = contains_in q (parents ps) (contained-any q (parents ps) (parents-any ps q ∙ child_any q ps p (is_child-yes p q e) (contains_in p ps c)))

-- ---- what a close reads

reads_close : (id : ℤ) → reads req.Close id ≡ SessionKey (nat_abs id) ∷ []
unfolding reads
reads_close id = refl

pub plain : plain_request no_watches req.Close ≡ None
unfolding plain_request
plain = refl

saw_nodes : (v : View) (id : ℤ) (kv : Kv) (r : SessionRec) → sees v (SessionKey (nat_abs id)) ≡ Some (Some kv) → IsNodesIn kv r → SawNodes v id r
saw_nodes v id kv r saw found = (found.0, (kv, saw, found.1))

nil_absurd : {X : Type 0} (x : X) (xs : List X) → xs ≡ [] → In x xs → ⊥
nil_absurd x xs e h = subst (In x) e h

none_parents : (ps : List Bytes) (q : Bytes) → ps ≡ [] → Contains (parents ps) q → ⊥
none_parents ps q e c = let p = parent_of ps q c in nil_absurd p.path ps e (contains_in p.path ps p.inside)

module _ (v : View) (who : Who) (ps : List Bytes) where
  abbrev pub id : ℤ
  id = who.session

  from_parent : (o : Option (Option Kv)) (q : Bytes) → sees v (SessionKey (nat_abs id)) ≡ o → IsNodesSeen o ps → In q (parents ps) → IsRead req.Close who v (key_want (CountsKey q))
  from_parent None q saw e h = absurd (none_parents ps q e (in_contains q (parents ps) h))
  from_parent (Some None) q saw e h = absurd (none_parents ps q e (in_contains q (parents ps) h))
  from_parent (Some (Some kv)) q saw nodes h =
      let p = parent_of ps q (in_contains q (parents ps) h) in
      inr (inr (inr (nodes.0, p.path, q, saw_nodes v id kv nodes.0 saw nodes.1, subst (λ (l : List Bytes). Contains l p.path) nodes.2 p.inside, p.is, refl)))

  from_counts : IsNodesSeen (sees v (SessionKey (nat_abs id))) ps → (k : Key) → In k (map CountsKey (parents ps)) → IsRead req.Close who v (key_want k)
  from_counts nodes k h =
      let c = counts_in k (parents ps) h in
      subst (λ (x : Key). IsRead req.Close who v (key_want x)) (sym c.is) (from_parent (sees v (SessionKey (nat_abs id))) c.path refl nodes c.inside)

  read_from : IsNodesSeen (sees v (SessionKey (nat_abs id))) ps → (k : Key) → In k (end_keys id ps) → IsRead req.Close who v (key_want k)
  read_from nodes k (inl e) = inl (ap key_want (sym e))
  read_from nodes k (inr (inl e)) = inr (inl (ap key_want (sym e)))
  read_from nodes k (inr (inr (inl e))) = inr (inr (inl (SessionKey (nat_abs id), subst (λ ks. Contains ks (SessionKey (nat_abs id))) (sym (reads_close id)) (zero, omega arith, refl), ap key_want (sym e))))
  read_from nodes k (inr (inr (inr h))) = from_counts nodes k h

  same_nodes : (o : Option (Option Kv)) (r : SessionRec) → sees v (SessionKey (nat_abs id)) ≡ o → IsNodesSeen o ps → SawNodes v id r → ps ≡ r.paths
  same_nodes None r saw nodes seen = absurd (none_some (sym saw ∙ seen.1.1))
  same_nodes (Some None) r saw nodes seen = absurd (absent_some (sym saw ∙ seen.1.1))
    where
      absent_some : {X : Type 0} {x : X} → Some None ≡ Some (Some x) → ⊥
      absent_some e = cc
  same_nodes (Some (Some kv)) r saw nodes seen =
      let is : Some (Some kv) ≡ Some (Some seen.1.0) = sym saw ∙ seen.1.1 in
      let one : kv ≡ seen.1.0 = cc in
      nodes.2 ∙ ap (λ (k : SessionRec). k.paths) (session_value-injective nodes.0 r nodes.1.0 seen.0 (sym nodes.1.1 ∙ ap (λ (x : Kv). x.value) one ∙ seen.1.2))

  abbrev pub IsKept : Want → Type 0
  IsKept w = (k : Key) × In k (end_keys id ps) × (w ≡ key_want k)

  pub read_to : IsNodesSeen (sees v (SessionKey (nat_abs id))) ps → (w : Want) → IsRead req.Close who v w → IsKept w
  read_to nodes w (inl e) = (HeadKey, inl refl, e)
  read_to nodes w (inr (inl e)) = (LeaseKey (nat_abs id), inr (inl refl), e)
  read_to nodes w (inr (inr (inl h))) = (h.0, own_in h.0 (contains_in h.0 (SessionKey (nat_abs id) ∷ []) (subst (λ ks. Contains ks h.0) (reads_close id) h.1)), h.2)
    where
      own_in : (k : Key) → In k (SessionKey (nat_abs id) ∷ []) → In k (end_keys id ps)
      own_in k (inl e) = inr (inr (inl e))
      own_in k (inr bad) = absurd bad
  read_to nodes w (inr (inr (inr (r, p, q, saw, c, e, is)))) =
      let one = same_nodes (sees v (SessionKey (nat_abs id))) r refl nodes saw in
      (CountsKey q, inr (inr (inr (in_counts q (parents ps) (of_parent ps p q (subst (λ (l : List Bytes). Contains l p) (sym one) c) e)))), is)

  pub close-needs : (ws : List Want) → IsNodesSeen (sees v (SessionKey (nat_abs id))) ps → ws ≡ lacking v (read_keys id ps) → AreNeeds req.Close who v ws
  close-needs ws nodes is = are-needs req.Close who v (end_keys id ps) ws is plain (read_from nodes) (read_to nodes)

  -- ---- a plan that guards what is read

  abbrev key_in : Want → Bytes
  key_in (want.Key k) = k
  key_in (want.Children q) = q

  key_read : IsNodesSeen (sees v (SessionKey (nat_abs id))) ps → (k : Bytes) → Contains (read_keys id ps) k → IsRead req.Close who v (want.Key k)
  key_read nodes k has =
      let key = mapped-contained key_bytes (end_keys id ps) k has in
      subst (λ (b : Bytes). IsRead req.Close who v (want.Key b)) (sym key.2) (read_from nodes key.0 (contains_in key.0 (end_keys id ps) key.1))

  read_key : IsNodesSeen (sees v (SessionKey (nat_abs id))) ps → (k : Bytes) → IsRead req.Close who v (want.Key k) → Contains (read_keys id ps) k
  read_key nodes k reads =
      let key = read_to nodes (want.Key k) reads in
      subst (Contains (read_keys id ps)) (sym (ap key_in key.2)) (contains-map key_bytes (end_keys id ps) key.0 (in_contains key.0 (end_keys id ps) key.1))

  pub end-reads : (p : Plan) → IsNodesSeen (sees v (SessionKey (nat_abs id))) ps → p.guards ≡ guards_of (picked v (read_keys id ps)) → p.again ≡ again_of (picked v (read_keys id ps)) → GuardsReads req.Close who v p
  end-reads p nodes guards again = record { keys = read_keys id ps; guards = guards; again = again; all = read_key nodes; only = key_read nodes }

-- ---- a view that lacks nothing

module _ (who : Who) (v : View) (whole : IsWhole req.Close who v) where
  pub whole-life : HasSeen v (LeaseKey (nat_abs who.session))
  whole-life none = whole plain (key_want (LeaseKey (nat_abs who.session))) (inr (inl refl)) none

  pub whole-session : HasSeen v (SessionKey (nat_abs who.session))
  whole-session none = whole plain (key_want (SessionKey (nat_abs who.session)))
      (inr (inr (inl (SessionKey (nat_abs who.session), subst (λ ks. Contains ks (SessionKey (nat_abs who.session))) (sym (reads_close who.session)) (zero, omega arith, refl), refl)))) none

  pub whole-parents : AreParentsSeen who.session v
  whole-parents kv r saw found = All-weaker (Contains (parents r.paths)) (λ q. HasSeen v (CountsKey q)) (λ q c none.
      let p = parent_of r.paths q c in
      whole plain (key_want (CountsKey q)) (inr (inr (inr (r, p.path, q, saw_nodes v who.session kv r saw found, p.inside, p.is, refl)))) none)
      (parents r.paths) (All-contains_itself (parents r.paths))
