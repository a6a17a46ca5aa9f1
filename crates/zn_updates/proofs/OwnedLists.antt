-- A session's list of nodes after a create and after a delete.
use Rattle.std.proofs.Common.{◌≡◌, ◌≢◌, ℤ, Bool, true, false, cond, not, List, [], ◌∷◌, Option, Some, None, refl, sym, ap, ◌∙◌, subst, ⊎_elim}
use Rattle.std.specs.Prelude.{filter}
use Rattle.std.specs.Ordering.{int_eq, nat_cmp}
use Rattle.std.specs.declared.cmp.Ordering.{Ordering}
use Rattle.std.specs.declared.cmp.Ordering.TheVariants.{Less, Equal, Greater}
use Rattle.std.specs.Cmp.Lexicographic.{slice_cmp, nat_list_cmp_total}
use Rattle.std.proofs.lemmas.Map.Lookups.{exact_bytes}
use Rattle.std.specs.Map.{keys_of}
use Rattle.std.specs.FinMap.{get, insert, remove, keys, entries, retain_keys, entries_sorted, get-entries, entries-insert}
use Rattle.std.specs.FinMap.Entries.{by_order, put, where_key, same_entries, is_sorted-where_key, find-where_key}
use Rattle.zx_base.specs.Maps.{Bytes, Map, same}
use Rattle.zx_base.proofs.MapLaws.{either, ext, same-refl, same-false, get-insert_same, get-insert_other, get-remove_same, get-remove_other, get-retain}
use Rattle.zk_model.specs.declared.node.Node.{Node}
use Rattle.zk_model.specs.Paths.{parent}
use Rattle.zk_model.specs.Znodes.{Tree, is_owner, owned_by, owned}
use Rattle.zk_service.proofs.Children.{create_tree, create_new, create_parent, create_other}
use Rattle.zk_service.proofs.Owned.{get-owned_as}
use Rattle.zn_updates.specs.OwnedLists.{placed, without}
use Rattle.zn_updates.proofs.Deleting.{delete_tree, delete_gone, delete_parent, delete_other}

abbrev order : Bytes → Bytes → Ordering
order = slice_cmp nat_cmp

module _ {X : Type 0} where
  -- the entries that a test of the keys keeps
  entries-retain : (m : Map X) (f : Bytes → Bool) → entries (retain_keys m f) ≡ where_key order f (entries m)
  entries-retain m f = same_entries order nat_list_cmp_total exact_bytes _ _ (entries_sorted (retain_keys m f)) (is_sorted-where_key order f (entries m) (entries_sorted m))
      (λ q. sym (get-entries (retain_keys m f) q) ∙ get-retain m f q ∙ ap (λ x. cond (f q) x None) (get-entries m q)
      ∙ sym (find-where_key order f q (λ x h. ap f (sym (exact_bytes q x h))) (entries m)))

  keys-where : (f : Bytes → Bool) (es : List (Bytes × X)) → keys_of (where_key order f es) ≡ filter f (keys_of es)
  keys-where f [] = refl
  keys-where f (e ∷ es) = elim (f e.0) as (λ b. keys_of (cond b (e ∷ where_key order f es) (where_key order f es)) ≡ cond b (e.0 ∷ filter f (keys_of es)) (filter f (keys_of es))) [
    | true ↦ ap (λ (r : List Bytes). e.0 ∷ r) (keys-where f es)
    | false ↦ keys-where f es
  ]

  keys-retain : (m : Map X) (f : Bytes → Bool) → keys (retain_keys m f) ≡ filter f (keys m)
  keys-retain m f = ap keys_of (entries-retain m f) ∙ keys-where f (entries m)

  keys-put : (k : Bytes) (v : X) (es : List (Bytes × X)) → keys_of (put order k v es) ≡ placed k (keys_of es)
  keys-put k v [] = refl
  keys-put k v (e ∷ es) = elim (order k e.0) as (λ o. keys_of (by_order o ((k, v) ∷ e ∷ es) ((e.0, v) ∷ es) (e ∷ put order k v es)) ≡ by_order o (k ∷ e.0 ∷ keys_of es) (e.0 ∷ keys_of es) (e.0 ∷ placed k (keys_of es))) [
    | Less ↦ refl
    | Equal ↦ refl
    | Greater ↦ ap (λ (r : List Bytes). e.0 ∷ r) (keys-put k v es)
  ]

  keys-insert : (m : Map X) (k : Bytes) (v : X) → keys (insert m k v) ≡ placed k (keys m)
  keys-insert m k v = ap keys_of (entries-insert nat_list_cmp_total m k v) ∙ keys-put k v (entries m)

  keys-remove : (m : Map X) (k : Bytes) → keys (remove m k) ≡ without k (keys m)
  keys-remove m k = ap keys (ext (remove m k) (retain_keys m (λ q. not (same k q))) (λ q.
      ⊎_elim (λ e. subst (λ (x : Bytes). get (remove m k) x ≡ get (retain_keys m (λ q. not (same k q))) x) (sym e)
      (get-remove_same m k ∙ sym (get-retain m (λ q. not (same k q)) k ∙ ap (λ b. cond (not b) (get m k) None) (same-refl k))))
      (λ n. get-remove_other m k q n ∙ sym (get-retain m (λ q. not (same k q)) q ∙ ap (λ b. cond (not b) (get m q) None) (same-false k q (λ e. n (sym e)))))
      (either q k)))
      ∙ keys-retain m (λ q. not (same k q))

abbrev if_owned : ℤ → Option Node → Option Node
if_owned id o = cond (is_owner id o) o None

-- what stands at r is seen alike in both trees
owned_alike : (t u : Tree) (id : ℤ) (r : Bytes) (a b : Option Node) → get u r ≡ b → get t r ≡ a → if_owned id b ≡ if_owned id a → get (owned_by u id) r ≡ get (owned_by t id) r
owned_alike t u id r a b e f h = get-owned_as u id r b e ∙ h ∙ sym (get-owned_as t id r a f)

not_mine : (id : ℤ) (x : Node) → int_eq x.owner id ≡ false → if_owned id (Some x) ≡ None
not_mine id x h = ap (λ b. cond b (Some x) None) h

-- a create below a node that this session doesn't own
module _ (t : Tree) (p q : Bytes) (old above node : Node) (below_q : parent p ≡ Some q) (there : get t q ≡ Some old) (none : get t p ≡ None) (id : ℤ)
    (old_plain : int_eq old.owner id ≡ false) (plain : int_eq above.owner id ≡ false) (mine : int_eq node.owner id ≡ true) where
  abbrev grown : Tree
  grown = create_tree t q above p node

  grown_other : (r : Bytes) → r ≢ p → get (owned_by grown id) r ≡ get (owned_by t id) r
  grown_other r np = ⊎_elim
      (λ e. subst (λ (x : Bytes). get (owned_by grown id) x ≡ get (owned_by t id) x) (sym e)
      (owned_alike t grown id q (Some old) (Some above) (create_parent t p q old above node below_q there none) there (not_mine id above plain ∙ sym (not_mine id old old_plain))))
      (λ nq. owned_alike t grown id r (get t r) (get t r) (create_other t p q old above node below_q there none r np nq) refl refl)
      (either r q)

  pub owned-create : owned grown id ≡ placed p (owned t id)
  owned-create = ap keys (ext (owned_by grown id) (insert (owned_by t id) p node) (λ r.
      ⊎_elim
      (λ e. subst (λ (x : Bytes). get (owned_by grown id) x ≡ get (insert (owned_by t id) p node) x) (sym e)
      (get-owned_as grown id p (Some node) (create_new t p q old above node below_q there none) ∙ ap (λ b. cond b (Some node) None) mine ∙ sym (get-insert_same (owned_by t id) p node)))
      (λ np. grown_other r np ∙ sym (get-insert_other (owned_by t id) p r node np))
      (either r p)))
      ∙ keys-insert (owned_by t id) p node

-- a delete, whoever owns the node
module _ (t : Tree) (p q : Bytes) (old above node : Node) (below_q : parent p ≡ Some q) (there : get t q ≡ Some old) (here : get t p ≡ Some node) (id : ℤ)
    (old_plain : int_eq old.owner id ≡ false) (plain : int_eq above.owner id ≡ false) where
  abbrev left : Tree
  left = delete_tree t q above p

  left_other : (r : Bytes) → r ≢ p → get (owned_by left id) r ≡ get (owned_by t id) r
  left_other r np = ⊎_elim
      (λ e. subst (λ (x : Bytes). get (owned_by left id) x ≡ get (owned_by t id) x) (sym e)
      (owned_alike t left id q (Some old) (Some above) (delete_parent t p q old above node below_q there here) there (not_mine id above plain ∙ sym (not_mine id old old_plain))))
      (λ nq. owned_alike t left id r (get t r) (get t r) (delete_other t p q old above node below_q there here r np nq) refl refl)
      (either r q)

  pub owned-delete : owned left id ≡ without p (owned t id)
  owned-delete = ap keys (ext (owned_by left id) (remove (owned_by t id) p) (λ r.
      ⊎_elim
      (λ e. subst (λ (x : Bytes). get (owned_by left id) x ≡ get (remove (owned_by t id) p) x) (sym e)
      (get-owned_as left id p None (delete_gone t p q old above node below_q there here) ∙ sym (get-remove_same (owned_by t id) p)))
      (λ np. left_other r np ∙ sym (get-remove_other (owned_by t id) p r np))
      (either r p)))
      ∙ keys-remove (owned_by t id) p

  -- the list of a session that doesn't own the node
  pub owned-delete_other : int_eq node.owner id ≡ false → owned left id ≡ owned t id
  owned-delete_other foreign = ap keys (ext (owned_by left id) (owned_by t id) (λ r.
      ⊎_elim
      (λ e. subst (λ (x : Bytes). get (owned_by left id) x ≡ get (owned_by t id) x) (sym e)
      (owned_alike t left id p (Some node) None (delete_gone t p q old above node below_q there here) here (sym (not_mine id node foreign))))
      (left_other r)
      (either r p)))

-- a node that changes and keeps its owner
module _ (t : Tree) (p : Bytes) (v old : Node) (id : ℤ) (there : get t p ≡ Some old) (same_owner : v.owner ≡ old.owner) where
  abbrev changed : Tree
  changed = insert t p v

  at_p : (b : Bool) → int_eq v.owner id ≡ b → get (owned_by changed id) p ≡ cond b (Some v) None
  at_p b e = get-owned_as changed id p (Some v) (get-insert_same t p v) ∙ ap (λ c. cond c (Some v) None) e

  was_at_p : (b : Bool) → int_eq v.owner id ≡ b → get (owned_by t id) p ≡ cond b (Some old) None
  was_at_p b e = get-owned_as t id p (Some old) there ∙ ap (λ c. cond c (Some old) None) (ap (λ (o : ℤ). int_eq o id) (sym same_owner) ∙ e)

  elsewhere : (r : Bytes) → r ≢ p → get (owned_by changed id) r ≡ get (owned_by t id) r
  elsewhere r np = owned_alike t changed id r (get t r) (get t r) (get-insert_other t p r v np) refl refl

  -- to put what a map has under a key changes nothing
  put_again : (m : Tree) (w : Node) → get m p ≡ Some w → m ≡ insert m p w
  put_again m w e = ext m (insert m p w) (λ r.
      ⊎_elim
      (λ is. subst (λ (x : Bytes). get m x ≡ get (insert m p w) x) (sym is) (e ∙ sym (get-insert_same m p w)))
      (λ np. sym (get-insert_other m p r w np))
      (either r p))

  by_owner : (b : Bool) → int_eq v.owner id ≡ b → owned changed id ≡ owned t id
  by_owner true e =
      ap keys (ext (owned_by changed id) (insert (owned_by t id) p v) (λ r.
      ⊎_elim
      (λ is. subst (λ (x : Bytes). get (owned_by changed id) x ≡ get (insert (owned_by t id) p v) x) (sym is) (at_p true e ∙ sym (get-insert_same (owned_by t id) p v)))
      (λ np. elsewhere r np ∙ sym (get-insert_other (owned_by t id) p r v np))
      (either r p)))
      ∙ keys-insert (owned_by t id) p v
      ∙ sym (ap keys (put_again (owned_by t id) old (was_at_p true e)) ∙ keys-insert (owned_by t id) p old)
  by_owner false e = ap keys (ext (owned_by changed id) (owned_by t id) (λ r.
      ⊎_elim
      (λ is. subst (λ (x : Bytes). get (owned_by changed id) x ≡ get (owned_by t id) x) (sym is) (at_p false e ∙ sym (was_at_p false e)))
      (elsewhere r)
      (either r p)))

  pub owned-change : owned changed id ≡ owned t id
  owned-change = by_owner (int_eq v.owner id) refl
