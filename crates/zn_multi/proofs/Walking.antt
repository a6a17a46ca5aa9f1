-- What the parts of a multi leave is so in the trees that they make, one after the other.
use Rattle.std.proofs.Common.{◌≡◌, ◌≢◌, ℕ, ℤ, pos, ◌+ℤ◌, ◌+◌, ◌-◌, ◌≤◌, Bool, true, false, not, ◌&&◌, ◌||◌, length, List, [], ◌∷◌, ◌++◌, Option, Some, None, refl, sym, ap, ◌∙◌, subst, ◌⊎◌, inl, inr, ⊎_elim, arith}
use Rattle.std.specs.Prelude.{fold, is_some, nat_abs, nat_le, nat_lt, option_map, if◌then◌else◌, ◌==◌}
use Rattle.std.specs.Ordering.{int_eq}
use Rattle.std.specs.FinMap.{get, insert, len, remove}
use Rattle.std.proofs.lemmas.Bool.{and_from, true≢false}
use Rattle.std.proofs.lemmas.Bool.Decides.{nat_tests}
use Rattle.std.proofs.lemmas.Int.{ints}
use Rattle.zx_base.specs.Maps.{Bytes}
use Rattle.zx_base.proofs.MapLaws.{either, ext, same-refl, same-false, get-insert_same, get-insert_other, get-remove_other, get-remove_same, len-remove_there, remove-absent}
use Rattle.zk_model.specs.declared.node.Node.{Node}
use Rattle.zk_model.specs.declared.request.Part.{Part}
use Rattle.zk_model.specs.declared.request.Part.TheVariants.{Create, Delete, SetData, Check}
use Rattle.zk_model.specs.Limits.{max_creates, max_version}
use Rattle.zk_model.specs.Paths.{is_child, parent, root, sequence_path}
use Rattle.zk_model.specs.Single.{Outcome, Refused, at_parent, check, create_at, create_node, create_under, delete, effect, form_refusal, is_ephemeral, is_full, is_sequential, made_path, matches, named, removed_under, set_data, single, unless_refused, with_child, with_content, without_child}
use Rattle.zk_model.specs.Znodes.{Tree, new_node, num_children, owned, owned_by}
use Rattle.zk_model.proofs.Paths.{apart_from_parent, is_child-no, is_child-yes}
use Rattle.zk_model.proofs.SequenceParents.{parent-sequence}
use Rattle.zk_service.proofs.Children.{create_count_other, create_count_parent, create_new, create_other, create_parent, create_tree, no_children-absent, num_children-change, AreParented}
use Rattle.zk_service.proofs.Owned.{get-owned_as, num_owned, num_owned-change, num_owned-new, num_owned-new_other, owned_by-gone}
use Rattle.zk_service.proofs.SoundEffects.{Leads}
use Rattle.zk_service.proofs.SoundTrees.{Each, each-gone, each-put}
use Rattle.zn_layout.specs.declared.record.CountRec.{CountRec}
use Rattle.zn_layout.specs.Begin.{first_counts}
use Rattle.zn_layout.specs.Counts.{one_less, one_more}
use Rattle.zn_layout.specs.Keys.{CountsKey, key_bytes}
use Rattle.zn_layout.specs.StandsFor.{counts_record}
use Rattle.zn_updates.proofs.Deleting.{delete_count_other, delete_count_parent, delete_gone, delete_other, delete_parent, delete_tree}
use Rattle.zn_view.specs.declared.leaving.NodeNow.{NodeNow}
use Rattle.zn_view.specs.declared.leaving.TreeChange.{TreeChange}
use Rattle.zn_view.specs.declared.leaving.TreeChange.TheVariants.{Created, Deleted, DataSet}
use Rattle.zn_view.specs.Leaving.{are_seen, counts_after, counts_with, create_change, delete_change, is_checked, is_owner_seen, node_after, node_now, node_with, owner_of, room_after, room_with, set_change, set_once, with_change}
use Rattle.zn_view.specs.Seen.{View, seen}
use Rattle.zn_view.specs.Views.{counts_of_parent}
use Rattle.zn_multi.specs.Reading.{Left}
use Rattle.zx_base.proofs.Booleans.{not_false}

pub unless : (P : Tree → Type 0) (b : Bool) (code : ℤ) (o : Outcome) → Leads P o → Leads P (if b then Refused code else o)
unless P true code o leads = tt
unless P false code o leads = leads

-- by a test that refuses
tested : (P : Tree → Type 0) (b : Bool) (code : ℤ) (o : Outcome) → (b ≡ false → Leads P o) → Leads P (if b then Refused code else o)
tested P true code o leads = tt
tested P false code o leads = leads refl

pub leads_of : (P : Tree → Type 0) (refusal : Option ℤ) (o : Outcome) → (refusal ≡ None → Leads P o) → Leads P (unless_refused refusal o)
leads_of P (Some code) o leads = tt
leads_of P None o leads = leads refl

-- a new node stands below the parent that was tested
pub made_below : (flags : ℤ) (path q : Bytes) (up : Node) → parent (named flags path) ≡ Some q → parent (made_path flags path up) ≡ Some q
made_below flags path q up = by_mode (is_sequential flags)
  where
    by_mode : (b : Bool) → parent (if b then path ++ 49 ∷ [] else path) ≡ Some q → parent (if b then sequence_path path (nat_abs up.creates) else path) ≡ Some q
    by_mode true e = parent-sequence path (nat_abs up.creates) ∙ e
    by_mode false e = e

-- ---- what there is in a tree

abbrev pub now_of : Option Node → Option NodeNow
now_of None = None
now_of (Some n) = Some (node_now n.version n.owner)

abbrev pub counts_at : Option Node → ℕ → Option CountRec
counts_at None children = None
counts_at (Some n) children = Some (counts_record n children)

abbrev pub counts_of : Tree → Bytes → Option CountRec
counts_of t p = counts_at (get t p) (num_children t p)

abbrev counted : ℤ → ℤ → CountRec
counted creates children = record { creates = creates; children = children }

counts_are : (t : Tree) (p : Bytes) (o : Option Node) (children : ℕ) → get t p ≡ o → num_children t p ≡ children → counts_of t p ≡ counts_at o children
counts_are t p o children e f = λ i. counts_at (e i) (f i)

counts_same : (t u : Tree) (p : Bytes) → get u p ≡ get t p → num_children u p ≡ num_children t p → counts_of t p ≡ counts_of u p
counts_same t u p e f = λ i. counts_at (sym e i) (sym f i)

after_one : {A B : Type 0} (f : A → B → A) (x : A) (xs : List B) (y : B) → fold f x (xs ++ y ∷ []) ≡ f (fold f x xs) y
after_one f x [] y = refl
after_one f x (b ∷ xs) y = after_one f (f x b) xs y

-- the nodes that a session owns once one is gone
owned_gone : (t : Tree) (k : Bytes) (v : Node) (id : ℤ) → get t k ≡ Some v → length (owned (remove t k) id) ≡ (if int_eq v.owner id then length (owned t id) - 1 else length (owned t id))
owned_gone t k v id there = num_owned (remove t k) id ∙ ap len (owned_by-gone t k id) ∙ by_owner (int_eq v.owner id) refl
  where
    at_k : (b : Bool) → int_eq v.owner id ≡ b → get (owned_by t id) k ≡ (if b then Some v else None)
    at_k b e = get-owned_as t id k (Some v) there ∙ ap (λ c. if c then Some v else None) e

    by_owner : (b : Bool) → int_eq v.owner id ≡ b → len (remove (owned_by t id) k) ≡ (if b then length (owned t id) - 1 else length (owned t id))
    by_owner true e = len-remove_there (owned_by t id) k v (at_k true e) ∙ ap (λ n. n - 1) (sym (num_owned t id))
    by_owner false e = ap len (remove-absent (owned_by t id) k (at_k false e)) ∙ sym (num_owned t id)

-- a session that owns a node owns one at least
owned_some : (t : Tree) (k : Bytes) (v : Node) (id : ℤ) → get t k ≡ Some v → int_eq v.owner id ≡ true → 1 ≤ length (owned t id)
owned_some t k v id there mine = subst (λ n. 1 ≤ n) (sym same) (omega arith)
  where
    put_back : insert (remove t k) k v ≡ t
    put_back = ext (insert (remove t k) k v) t (λ r. ⊎_elim
        (λ (e : r ≡ k). subst (λ (x : Bytes). get (insert (remove t k) k v) x ≡ get t x) (sym e) (get-insert_same (remove t k) k v ∙ sym there))
        (λ (n : r ≢ k). get-insert_other (remove t k) k r v n ∙ get-remove_other t k r n)
        (either r k))

    same : length (owned t id) ≡ length (owned (remove t k) id) + 1
    same = ap (λ (u : Tree). length (owned u id)) (sym put_back) ∙ num_owned-new (remove t k) k v id (get-remove_same t k) mine

pos_more : (n : ℕ) → pos n +ℤ pos 1 ≡ pos (n + 1)
pos_more n = omega (arith, ints)

module _ (first : Tree) (Known : ℤ → Type 0) (limit : ℕ) (id : ℤ) where
  abbrev pub IsOwned : Bytes → Node → Type 0
  IsOwned p n = (n.owner ≡ pos 0 → ⊥) → ((o : Node) × (get first p ≡ Some o) × (o.owner ≡ n.owner)) ⊎ Known n.owner

  -- how many nodes more the session may own
  abbrev pub room_of : Tree → ℕ
  room_of t = limit - length (owned t id)

  -- These changes lead from the first tree to this one. A node's owner owned it in the first tree, or is known.
  pub record Walks (changes : List TreeChange) (t : Tree) : Type 0 where
    pub nodes : (p : Bytes) → node_after changes p (Some (now_of (get first p))) ≡ Some (now_of (get t p))
    pub counts : (p : Bytes) → counts_after changes p (Some (counts_of first p)) ≡ Some (counts_of t p)
    pub room : room_after changes id (room_of first) ≡ room_of t
    pub owned : Each IsOwned t

  pub walks_start : Walks [] first
  walks_start = record { nodes = λ p. refl; counts = λ p. refl; room = refl; owned = λ p n is owns. inl (n, is, refl) }

  walks_on : (changes : List TreeChange) (t u : Tree) (c : TreeChange) → Walks changes t
      → ((p : Bytes) → node_with p (Some (now_of (get t p))) c ≡ Some (now_of (get u p))) → ((p : Bytes) → counts_with p (Some (counts_of t p)) c ≡ Some (counts_of u p)) → room_with id (room_of t) c ≡ room_of u → Each IsOwned u
      → Walks (changes ++ c ∷ []) u
  walks_on changes t u c w nodes counts room owners = record {
    nodes = λ p. after_one (node_with p) (Some (now_of (get first p))) changes c ∙ ap (λ (n : Option (Option NodeNow)). node_with p n c) (w.nodes p) ∙ nodes p;
    counts = λ p. after_one (counts_with p) (Some (counts_of first p)) changes c ∙ ap (λ (n : Option (Option CountRec)). counts_with p n c) (w.counts p) ∙ counts p;
    room = after_one (room_with id) (room_of first) changes c ∙ ap (λ (n : ℕ). room_with id n c) w.room ∙ room;
    owned = owners;
  }

  -- ---- a create of p below q

  module _ (changes : List TreeChange) (t : Tree) (w : Walks changes t) (p q : Bytes) (up : Node) (content : Bytes) (owner z : ℤ) (now : ℕ) (below : parent p ≡ Some q) (there : get t q ≡ Some up) (none : get t p ≡ None)
      (orphan : num_children t p ≡ 0) (known : (owner ≡ pos 0 → ⊥) → Known owner) where
    abbrev node : Node
    node = new_node content owner z now

    abbrev grown : Tree
    grown = create_tree t q (with_child up z) p node

    p_not_q : p ≢ q
    p_not_q = apart_from_parent p q below

    new_nodes : (r : Bytes) → node_with r (Some (now_of (get t r))) (Created p owner) ≡ Some (now_of (get grown r))
    new_nodes r = ⊎_elim
        (λ (e : r ≡ p). subst (λ (x : Bytes). node_with x (Some (now_of (get t x))) (Created p owner) ≡ Some (now_of (get grown x))) (sym e)
        (ap (λ b. if b then Some (Some (node_now (pos 0) owner)) else Some (now_of (get t p))) (same-refl p) ∙ sym (ap (λ (o : Option Node). Some (now_of o)) (create_new t p q up (with_child up z) node below there none))))
        (λ (np : r ≢ p). ap (λ b. if b then Some (Some (node_now (pos 0) owner)) else Some (now_of (get t r))) (same-false p r (λ e. np (sym e))) ∙ ⊎_elim
        (λ (e : r ≡ q). subst (λ (x : Bytes). Some (now_of (get t x)) ≡ Some (now_of (get grown x))) (sym e) (ap (λ (o : Option Node). Some (now_of o)) there ∙ sym (ap (λ (o : Option Node). Some (now_of o)) (create_parent t p q up (with_child up z) node below there none))))
        (λ (nq : r ≢ q). ap (λ (o : Option Node). Some (now_of o)) (sym (create_other t p q up (with_child up z) node below there none r np nq)))
        (either r q))
        (either r p)

    new_counts : (r : Bytes) → counts_with r (Some (counts_of t r)) (Created p owner) ≡ Some (counts_of grown r)
    new_counts r = ⊎_elim
        (λ (e : r ≡ p). subst (λ (x : Bytes). counts_with x (Some (counts_of t x)) (Created p owner) ≡ Some (counts_of grown x)) (sym e)
        (ap (λ b. if b then Some (Some first_counts) else (if is_child p p then Some (option_map one_more (counts_of t p)) else Some (counts_of t p))) (same-refl p)
        ∙ ap Some (sym (counts_are grown p (Some node) 0 (create_new t p q up (with_child up z) node below there none) (create_count_other t p q up (with_child up z) node below there none p p_not_q ∙ orphan)))))
        (λ (np : r ≢ p). ap (λ b. if b then Some (Some first_counts) else (if is_child r p then Some (option_map one_more (counts_of t r)) else Some (counts_of t r))) (same-false p r (λ e. np (sym e))) ∙ ⊎_elim
        (λ (e : r ≡ q). subst (λ (x : Bytes). (if is_child x p then Some (option_map one_more (counts_of t x)) else Some (counts_of t x)) ≡ Some (counts_of grown x)) (sym e)
        (ap (λ b. if b then Some (option_map one_more (counts_of t q)) else Some (counts_of t q)) (is_child-yes p q below)
        ∙ ap (λ (o : Option CountRec). Some (option_map one_more o)) (counts_are t q (Some up) (num_children t q) there refl)
        ∙ ap (λ (c : ℤ). Some (Some (counted (up.creates +ℤ pos 1) c))) (pos_more (num_children t q))
        ∙ ap Some (sym (counts_are grown q (Some (with_child up z)) (num_children t q + 1) (create_parent t p q up (with_child up z) node below there none) (create_count_parent t p q up (with_child up z) node below there none)))))
        (λ (nq : r ≢ q). ap (λ b. if b then Some (option_map one_more (counts_of t r)) else Some (counts_of t r)) (is_child-no p r q below (λ e. nq (sym e)))
        ∙ ap Some (counts_same t grown r (create_other t p q up (with_child up z) node below there none r np nq) (create_count_other t p q up (with_child up z) node below there none r nq)))
        (either r q))
        (either r p)

    still_none : get (insert t q (with_child up z)) p ≡ None
    still_none = get-insert_other t q p (with_child up z) p_not_q ∙ none

    new_room : room_with id (room_of t) (Created p owner) ≡ room_of grown
    new_room = by_owner (int_eq owner id) refl
      where
        more : (n m : ℕ) → m ≡ n + 1 → (limit - n) - 1 ≡ limit - m
        more n m e = omega (arith, e)

        by_owner : (b : Bool) → int_eq owner id ≡ b → (if b then room_of t - 1 else room_of t) ≡ room_of grown
        by_owner true e = more (length (owned t id)) (length (owned grown id)) (num_owned-new (insert t q (with_child up z)) p node id still_none e ∙ ap (λ n. n + 1) (num_owned-change t q (with_child up z) up id there refl))
        by_owner false e = ap (λ n. limit - n) (sym (num_owned-new_other (insert t q (with_child up z)) p node id still_none e ∙ num_owned-change t q (with_child up z) up id there refl))

    pub walks_created : Walks (changes ++ Created p owner ∷ []) grown
    walks_created = walks_on changes t grown (Created p owner) w new_nodes new_counts new_room
        (each-put IsOwned (insert t q (with_child up z)) p node (each-put IsOwned t q (with_child up z) w.owned (w.owned q up there)) (λ owns. inr (known owns)))

  -- ---- a delete of p below q

  module _ (changes : List TreeChange) (t : Tree) (w : Walks changes t) (p q : Bytes) (up node : Node) (z : ℤ) (below : parent p ≡ Some q) (there : get t q ≡ Some up) (here : get t p ≡ Some node) (few : length (owned t id) ≤ limit) where
    abbrev less : Tree
    less = delete_tree t q (without_child up z) p

    gone_nodes : (r : Bytes) → node_with r (Some (now_of (get t r))) (Deleted p node.owner) ≡ Some (now_of (get less r))
    gone_nodes r = ⊎_elim
        (λ (e : r ≡ p). subst (λ (x : Bytes). node_with x (Some (now_of (get t x))) (Deleted p node.owner) ≡ Some (now_of (get less x))) (sym e)
        (ap (λ b. if b then Some None else Some (now_of (get t p))) (same-refl p) ∙ sym (ap (λ (o : Option Node). Some (now_of o)) (delete_gone t p q up (without_child up z) node below there here))))
        (λ (np : r ≢ p). ap (λ b. if b then Some None else Some (now_of (get t r))) (same-false p r (λ e. np (sym e))) ∙ ⊎_elim
        (λ (e : r ≡ q). subst (λ (x : Bytes). Some (now_of (get t x)) ≡ Some (now_of (get less x))) (sym e) (ap (λ (o : Option Node). Some (now_of o)) there ∙ sym (ap (λ (o : Option Node). Some (now_of o)) (delete_parent t p q up (without_child up z) node below there here))))
        (λ (nq : r ≢ q). ap (λ (o : Option Node). Some (now_of o)) (sym (delete_other t p q up (without_child up z) node below there here r np nq)))
        (either r q))
        (either r p)

    gone_counts : (r : Bytes) → counts_with r (Some (counts_of t r)) (Deleted p node.owner) ≡ Some (counts_of less r)
    gone_counts r = ⊎_elim
        (λ (e : r ≡ p). subst (λ (x : Bytes). counts_with x (Some (counts_of t x)) (Deleted p node.owner) ≡ Some (counts_of less x)) (sym e)
        (ap (λ b. if b then Some None else (if is_child p p then Some (option_map one_less (counts_of t p)) else Some (counts_of t p))) (same-refl p)
        ∙ ap Some (sym (counts_are less p None (num_children less p) (delete_gone t p q up (without_child up z) node below there here) refl))))
        (λ (np : r ≢ p). ap (λ b. if b then Some None else (if is_child r p then Some (option_map one_less (counts_of t r)) else Some (counts_of t r))) (same-false p r (λ e. np (sym e))) ∙ ⊎_elim
        (λ (e : r ≡ q). subst (λ (x : Bytes). (if is_child x p then Some (option_map one_less (counts_of t x)) else Some (counts_of t x)) ≡ Some (counts_of less x)) (sym e)
        (ap (λ b. if b then Some (option_map one_less (counts_of t q)) else Some (counts_of t q)) (is_child-yes p q below)
        ∙ ap (λ (o : Option CountRec). Some (option_map one_less o)) (counts_are t q (Some up) (num_children t q) there refl)
        ∙ ap Some (sym (counts_are less q (Some (without_child up z)) (num_children t q - 1) (delete_parent t p q up (without_child up z) node below there here) (delete_count_parent t p q up (without_child up z) node below there here)))))
        (λ (nq : r ≢ q). ap (λ b. if b then Some (option_map one_less (counts_of t r)) else Some (counts_of t r)) (is_child-no p r q below (λ e. nq (sym e)))
        ∙ ap Some (counts_same t less r (delete_other t p q up (without_child up z) node below there here r np nq) (delete_count_other t p q up (without_child up z) node below there here r nq)))
        (either r q))
        (either r p)

    still_there : get (remove t p) q ≡ Some up
    still_there = get-remove_other t p q (λ e. apart_from_parent p q below (sym e)) ∙ there

    gone_room : room_with id (room_of t) (Deleted p node.owner) ≡ room_of less
    gone_room = by_owner (int_eq node.owner id) refl
      where
        left : length (owned less id) ≡ (if int_eq node.owner id then length (owned t id) - 1 else length (owned t id))
        left = num_owned-change (remove t p) q (without_child up z) up id still_there refl ∙ owned_gone t p node id here

        fewer : (n m : ℕ) → m ≡ n - 1 → 1 ≤ n → n ≤ limit → (limit - n) + 1 ≡ limit - m
        fewer n m e some most = omega (arith, e, some, most)

        by_owner : (b : Bool) → int_eq node.owner id ≡ b → (if b then room_of t + 1 else room_of t) ≡ room_of less
        by_owner true e = fewer (length (owned t id)) (length (owned less id)) (left ∙ ap (λ b. if b then length (owned t id) - 1 else length (owned t id)) e) (owned_some t p node id here e) few
        by_owner false e = ap (λ n. limit - n) (sym (left ∙ ap (λ b. if b then length (owned t id) - 1 else length (owned t id)) e))

    pub walks_deleted : Walks (changes ++ Deleted p node.owner ∷ []) less
    walks_deleted = walks_on changes t less (Deleted p node.owner) w gone_nodes gone_counts gone_room
        (each-put IsOwned (remove t p) q (without_child up z) (each-gone IsOwned t p w.owned) (w.owned q up there))

  -- ---- a setData

  module _ (changes : List TreeChange) (t : Tree) (w : Walks changes t) (p : Bytes) (node : Node) (content : Bytes) (z : ℤ) (now : ℕ) (here : get t p ≡ Some node) where
    abbrev after : Node
    after = with_content node content z now

    abbrev changed : Tree
    changed = insert t p after

    set_nodes : (r : Bytes) → node_with r (Some (now_of (get t r))) (DataSet p) ≡ Some (now_of (get changed r))
    set_nodes r = ⊎_elim
        (λ (e : r ≡ p). subst (λ (x : Bytes). node_with x (Some (now_of (get t x))) (DataSet p) ≡ Some (now_of (get changed x))) (sym e)
        (ap (λ b. if b then Some (option_map set_once (now_of (get t p))) else Some (now_of (get t p))) (same-refl p) ∙ ap (λ (o : Option Node). Some (option_map set_once (now_of o))) here ∙ sym (ap (λ (o : Option Node). Some (now_of o)) (get-insert_same t p after))))
        (λ (np : r ≢ p). ap (λ b. if b then Some (option_map set_once (now_of (get t r))) else Some (now_of (get t r))) (same-false p r (λ e. np (sym e))) ∙ ap (λ (o : Option Node). Some (now_of o)) (sym (get-insert_other t p r after np)))
        (either r p)

    set_counts : (r : Bytes) → counts_with r (Some (counts_of t r)) (DataSet p) ≡ Some (counts_of changed r)
    set_counts r = ⊎_elim
        (λ (e : r ≡ p). subst (λ (x : Bytes). Some (counts_of t x) ≡ Some (counts_of changed x)) (sym e)
        (ap Some (counts_are t p (Some node) (num_children t p) here refl ∙ sym (counts_are changed p (Some after) (num_children t p) (get-insert_same t p after) (num_children-change t p after node p here)))))
        (λ (np : r ≢ p). ap Some (counts_same t changed r (get-insert_other t p r after np) (num_children-change t p after node r here)))
        (either r p)

    pub walks_set : Walks (changes ++ DataSet p ∷ []) changed
    walks_set = walks_on changes t changed (DataSet p) w set_nodes set_counts (ap (λ n. limit - n) (sym (num_owned-change t p after node id here refl))) (each-put IsOwned t p after w.owned (w.owned p node here))

  -- ---- each part

  -- the parts go on, with what they left
  pub record Goes (next : Left) (t : Tree) : Type 0 where
    pub changes : List TreeChange
    pub is : next ≡ Some changes
    pub walks : Walks changes t

  -- what a part leaves, by what is there in the tree
  abbrev pub Finds : View → List TreeChange → Tree → Left → Part → Type 0
  Finds v changes t next (Create path content acl flags) = (is_ephemeral flags ≡ true → Known id)
      × ((q : Bytes) → parent (named flags path) ≡ Some q → (up : Node) → get t q ≡ Some up → next ≡ with_change changes (create_change (made_path flags path up) (owner_of (is_ephemeral flags) id) (Some (now_of (get t q))) (Some (counts_of t q)) (Some (now_of (get t (made_path flags path up)))) (Some (if is_ephemeral flags then room_of t else 1))))
  Finds v changes t next (Delete path version) = (path ≢ root) × ((n : Node) → get t path ≡ Some n → (are_seen v (counts_of_parent (parent path)) && is_owner_seen v n.owner) ≡ true)
      × (next ≡ with_change changes (delete_change v path version (Some (now_of (get t path))) (Some (counts_of t path))))
  Finds v changes t next (SetData path content version) = (is_some (seen v (key_bytes (CountsKey path))) ≡ true) × (next ≡ with_change changes (set_change v path version (Some (now_of (get t path)))))
  Finds v changes t next (Check path version) = next ≡ (if is_checked version (Some (now_of (get t path))) then Some changes else None)

  module _ (v : View) (changes : List TreeChange) (t : Tree) (w : Walks changes t) (parents : AreParented t) (few : length (owned t id) ≤ limit) (z : ℤ) (now : ℕ) (next : Left) where
    module _ (flags : ℤ) (content path : Bytes) (mine : is_ephemeral flags ≡ true → Known id) where
      abbrev owner : ℤ
      owner = owner_of (is_ephemeral flags) id

      abbrev room_for : ℕ
      room_for = if is_ephemeral flags then room_of t else 1

      abbrev change_for : Bytes → Node → Bytes → Option TreeChange
      change_for q up p = create_change p owner (Some (now_of (get t q))) (Some (counts_of t q)) (Some (now_of (get t p))) (Some room_for)

      owner_known : (owner ≡ pos 0 → ⊥) → Known owner
      owner_known = by_mode (is_ephemeral flags) mine
        where
          by_mode : (b : Bool) → (b ≡ true → Known id) → ((if b then id else pos 0) ≡ pos 0 → ⊥) → Known (if b then id else pos 0)
          by_mode true h owns = h refl
          by_mode false h owns = absurd (owns refl)

      -- where the session may own one node more
      room : (b : Bool) (n : ℕ) → (b && nat_le limit n) ≡ false → nat_lt 0 (if b then limit - n else 1) ≡ true
      room true n e = grind (arith, nat_tests)
      room false n e = refl

      apart : (a b : Bool) → (a || b) ≡ false → (not a ≡ true) × (b ≡ false)
      apart true b e = absurd (true≢false e)
      apart false b e = (refl, e)

      passes : (q : Bytes) (up : Node) (p : Bytes) → get t q ≡ Some up → get t p ≡ None → not (int_eq up.owner (pos 0)) ≡ false → is_full t limit id flags up ≡ false → change_for q up p ≡ Some (Created p owner)
      passes q up p there none plain full =
          let both = apart (int_eq up.creates max_creates) (is_ephemeral flags && nat_le limit (length (owned t id))) full in
          (λ i. create_change p owner (Some (now_of (there i))) (Some (counts_at (there i) (num_children t q))) (Some (now_of (none i))) (Some room_for))
          ∙ ap (λ b. if b then Some (Created p owner) else None) (and_from _ _ (not_false _ plain) (and_from _ _ both.0 (room (is_ephemeral flags) (length (owned t id)) both.1)))

      node_goes : (q : Bytes) (up : Node) (o : Option Node) → parent (named flags path) ≡ Some q → get t q ≡ Some up → get t (made_path flags path up) ≡ o → next ≡ with_change changes (change_for q up (made_path flags path up))
          → Leads (Goes next) (create_node t limit id flags content z now q up (made_path flags path up) o)
      node_goes q up (Some old) below there at is = tt
      node_goes q up None below there none is =
          tested (Goes next) (not (int_eq up.owner (pos 0))) _ _ (λ plain.
          tested (Goes next) (is_full t limit id flags up) _ _ (λ full. record {
            changes = changes ++ Created (made_path flags path up) owner ∷ [];
            is = is ∙ ap (with_change changes) (passes q up (made_path flags path up) there none plain full);
            walks = walks_created changes t w (made_path flags path up) q up content owner z now (made_below flags path q up below) there none (no_children-absent t (made_path flags path up) parents none) owner_known;
          }))

      under_goes : (q : Bytes) (o : Option Node) → parent (named flags path) ≡ Some q → get t q ≡ o → ((up : Node) → get t q ≡ Some up → next ≡ with_change changes (change_for q up (made_path flags path up))) → Leads (Goes next) (create_under t limit id flags content z now path q o)
      under_goes q None below is found = tt
      under_goes q (Some up) below is found = node_goes q up (get t (made_path flags path up)) below is refl (found up is)

      create_goes : (o : Option Bytes) → parent (named flags path) ≡ o → ((q : Bytes) → parent (named flags path) ≡ Some q → (up : Node) → get t q ≡ Some up → next ≡ with_change changes (change_for q up (made_path flags path up))) → Leads (Goes next) (create_at t limit id flags content z now path o)
      create_goes None is found = tt
      create_goes (Some q) is found = under_goes q (get t q) is refl (found q is)

    -- ---- delete, setData and check

    zero_pos : (n : ℕ) → not (n == 0) ≡ false → int_eq (pos n) (pos 0) ≡ true
    zero_pos n e = grind (arith, nat_tests, ints)

    without_goes : (p : Bytes) (node : Node) → get t p ≡ Some node → p ≢ root → next ≡ Some (changes ++ Deleted p node.owner ∷ []) → Goes next (removed_under t p z (parent p) (at_parent t (parent p)))
    without_goes p node here inner is =
        let up = parents p node here inner in
        let there : at_parent t (parent p) ≡ Some up.has.node = ap (at_parent t) up.is ∙ up.has.there in
        subst (λ (x : Option Bytes × Option Node). Goes next (removed_under t p z x.0 x.1)) (λ i. (sym up.is i, sym there i))
        (record { changes = changes ++ Deleted p node.owner ∷ []; is = is; walks = walks_deleted changes t w p up.path up.has.node node z up.is up.has.there here few })

    delete_goes : (p : Bytes) (version : ℤ) (o : Option Node) → get t p ≡ o → p ≢ root → ((n : Node) → get t p ≡ Some n → (are_seen v (counts_of_parent (parent p)) && is_owner_seen v n.owner) ≡ true)
        → next ≡ with_change changes (delete_change v p version (Some (now_of (get t p))) (Some (counts_of t p))) → Leads (Goes next) (delete t p version z o)
    delete_goes p version None here inner all is = tt
    delete_goes p version (Some n) here inner all is =
        tested (Goes next) (not (matches version n.version)) _ _ (λ fits.
        tested (Goes next) (not (num_children t p == 0)) _ _ (λ none.
        without_goes p n here inner (is ∙ ap (with_change changes)
        ((λ i. delete_change v p version (Some (now_of (here i))) (Some (counts_at (here i) (num_children t p))))
        ∙ ap (λ b. if b then Some (Deleted p n.owner) else None) (and_from _ _ (and_from _ _ (not_false _ fits) (zero_pos (num_children t p) none)) (all n here))))))

    set_goes : (p content : Bytes) (version : ℤ) (o : Option Node) → get t p ≡ o → is_some (seen v (key_bytes (CountsKey p))) ≡ true → next ≡ with_change changes (set_change v p version (Some (now_of (get t p)))) → Leads (Goes next) (set_data t p content version z now o)
    set_goes p content version None here looked is = tt
    set_goes p content version (Some n) here looked is =
        tested (Goes next) (not (matches version n.version)) _ _ (λ fits.
        tested (Goes next) (int_eq n.version max_version) _ _ (λ below. record {
          changes = changes ++ DataSet p ∷ [];
          is = is ∙ ap (with_change changes) (ap (λ (o : Option Node). set_change v p version (Some (now_of o))) here
              ∙ ap (λ b. if b then Some (DataSet p) else None) (and_from _ _ (and_from _ _ (not_false _ fits) (ap (λ b. not b) below)) looked));
          walks = walks_set changes t w p n content z now here;
        }))

    check_goes : (p : Bytes) (version : ℤ) (o : Option Node) → get t p ≡ o → next ≡ (if is_checked version (Some (now_of (get t p))) then Some changes else None) → Leads (Goes next) (check t version o)
    check_goes p version None here is = tt
    check_goes p version (Some n) here is = tested (Goes next) (not (matches version n.version)) _ _ (λ fits. record {
      changes = changes;
      is = is ∙ ap (λ (o : Option Node). if is_checked version (Some (now_of o)) then Some changes else None) here ∙ ap (λ b. if b then Some changes else None) (not_false _ fits);
      walks = w;
    })

    effect_goes : (p : Part) → Finds v changes t next p → Leads (Goes next) (effect t limit id p z now)
    unfolding effect
    effect_goes (Create path content acl flags) (mine, found) = create_goes flags content path mine (parent (named flags path)) refl found
    effect_goes (Delete path version) (inner, all, is) = delete_goes path version (get t path) refl inner all is
    effect_goes (SetData path content version) (looked, is) = set_goes path content version (get t path) refl looked is
    effect_goes (Check path version) is = check_goes path version (get t path) refl is

    pub single_goes : (p : Part) → (form_refusal p ≡ None → Finds v changes t next p) → Leads (Goes next) (single t limit id p z now)
    unfolding single
    single_goes p finds = leads_of (Goes next) (form_refusal p) (effect t limit id p z now) (λ form. effect_goes p (finds form))
