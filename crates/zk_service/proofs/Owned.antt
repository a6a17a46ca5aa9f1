-- How many nodes sessions own after changes of the tree.
use Rattle.std.proofs.Common.{◌≡◌, ◌≢◌, ◌+◌, ◌≤◌, length, ℤ, pos, Bool, true, false, cond, Option, Some, None, refl, sym, ap, ◌∙◌, subst, ⊎_elim, arith}
use Rattle.std.specs.Prelude.{◌≤ℤ◌}
use Rattle.std.specs.Ordering.{int_eq}
use Rattle.std.specs.Cmp.Lexicographic.{nat_list_cmp_total}
use Rattle.std.specs.FinMap.{get, insert, remove, contains_key, keys, entries, len, len-entries, len-remove}
use Rattle.std.proofs.lemmas.List.{length-map}
use Rattle.std.proofs.lemmas.Bool.Decides.{nat_tests}
use Rattle.std.proofs.lemmas.Int.{ints}
use Rattle.zx_base.specs.Maps.{Bytes}
use Rattle.zx_base.proofs.MapLaws.{either, ext, get-retain, get-insert_same, get-insert_other, get-remove_same, get-remove_other, len-insert_new, len-insert_there}
use Rattle.zk_model.specs.declared.node.Node.{Node}
use Rattle.zk_model.specs.Paths.{parent}
use Rattle.zk_model.specs.Znodes.{Tree, is_owner, owned_by, owned}
use Rattle.zk_service.proofs.Children.{fewer, create_tree, create_new, create_parent, create_other}

-- a session is not number 0
pub not_zero : (id : ℤ) → pos 1 ≤ℤ id → int_eq (pos 0) id ≡ false
not_zero id h = grind (arith, nat_tests, ints)

pub get-owned : (t : Tree) (id : ℤ) (q : Bytes) → get (owned_by t id) q ≡ cond (is_owner id (get t q)) (get t q) None
get-owned t id q = get-retain t (λ p. is_owner id (get t p)) q

not_owned : (id : ℤ) (o : Option Node) (x : Node) → o ≡ Some x → int_eq x.owner id ≡ false → cond (is_owner id o) o None ≡ None
not_owned id o x e h = subst (λ (w : Option Node). cond (is_owner id w) w None ≡ None) (sym e) (ap (λ b. cond b (Some x) None) h)

-- a create of a node of another session, or of none, below a plain node
module _ (t : Tree) (p q : Bytes) (old above node : Node) (below_q : parent p ≡ Some q) (there : get t q ≡ Some old) (none : get t p ≡ None) (id : ℤ)
    (old_plain : int_eq old.owner id ≡ false) (plain : int_eq above.owner id ≡ false) (foreign : int_eq node.owner id ≡ false) where
  abbrev made : Tree
  made = create_tree t q above p node

  other : (r : Bytes) → r ≢ p → cond (is_owner id (get made r)) (get made r) None ≡ cond (is_owner id (get t r)) (get t r) None
  other r np = ⊎_elim
      (λ e. subst (λ (x : Bytes). cond (is_owner id (get made x)) (get made x) None ≡ cond (is_owner id (get t x)) (get t x) None) (sym e)
      (not_owned id _ above (create_parent t p q old above node below_q there none) plain ∙ sym (not_owned id _ old there old_plain)))
      (λ nq. ap (λ (o : Option Node). cond (is_owner id o) o None) (create_other t p q old above node below_q there none r np nq))
      (either r q)

  pub owned-create_other : owned made id ≡ owned t id
  owned-create_other = ap keys (ext (owned_by made id) (owned_by t id) (λ r.
      ⊎_elim
      (λ e. subst (λ (x : Bytes). get (owned_by made id) x ≡ get (owned_by t id) x) (sym e)
      (get-owned made id p ∙ not_owned id _ node (create_new t p q old above node below_q there none) foreign
      ∙ sym (get-owned t id p ∙ ap (λ (o : Option Node). cond (is_owner id o) o None) none)))
      (λ np. get-owned made id r ∙ other r np ∙ sym (get-owned t id r))
      (either r p)))

-- ---- how many

-- a node where the session owns it
abbrev pub if_owned : ℤ → Option Node → Option Node
if_owned id o = cond (is_owner id o) o None

pub num_owned : (t : Tree) (id : ℤ) → length (owned t id) ≡ len (owned_by t id)
num_owned t id = length-map (entries (owned_by t id)) (λ e. e.0) ∙ sym (len-entries (owned_by t id))

pub get-owned_as : (t : Tree) (id : ℤ) (q : Bytes) (o : Option Node) → get t q ≡ o → get (owned_by t id) q ≡ if_owned id o
get-owned_as t id q o e = get-owned t id q ∙ ap (if_owned id) e

-- a node that is put owns nothing, or is the session's
own-put_out : (t : Tree) (k : Bytes) (v : Node) (id : ℤ) → int_eq v.owner id ≡ false → get (owned_by t id) k ≡ None → owned_by (insert t k v) id ≡ owned_by t id
own-put_out t k v id out none = ext (owned_by (insert t k v) id) (owned_by t id) (λ r.
    ⊎_elim
    (λ e. subst (λ (x : Bytes). get (owned_by (insert t k v) id) x ≡ get (owned_by t id) x) (sym e)
    (get-owned_as (insert t k v) id k (Some v) (get-insert_same t k v) ∙ ap (λ b. cond b (Some v) None) out ∙ sym none))
    (λ n. get-owned_as (insert t k v) id r (get t r) (get-insert_other t k r v n) ∙ sym (get-owned t id r))
    (either r k))

own-put_in : (t : Tree) (k : Bytes) (v : Node) (id : ℤ) → int_eq v.owner id ≡ true → owned_by (insert t k v) id ≡ insert (owned_by t id) k v
own-put_in t k v id inside = ext (owned_by (insert t k v) id) (insert (owned_by t id) k v) (λ r.
    ⊎_elim
    (λ e. subst (λ (x : Bytes). get (owned_by (insert t k v) id) x ≡ get (insert (owned_by t id) k v) x) (sym e)
    (get-owned_as (insert t k v) id k (Some v) (get-insert_same t k v) ∙ ap (λ b. cond b (Some v) None) inside ∙ sym (get-insert_same (owned_by t id) k v)))
    (λ n. get-owned_as (insert t k v) id r (get t r) (get-insert_other t k r v n) ∙ sym (get-owned t id r) ∙ sym (get-insert_other (owned_by t id) k r v n))
    (either r k))

own-gone : (t : Tree) (k : Bytes) (id : ℤ) → owned_by (remove t k) id ≡ remove (owned_by t id) k
own-gone t k id = ext (owned_by (remove t k) id) (remove (owned_by t id) k) (λ r.
    ⊎_elim
    (λ e. subst (λ (x : Bytes). get (owned_by (remove t k) id) x ≡ get (remove (owned_by t id) k) x) (sym e)
    (get-owned_as (remove t k) id k None (get-remove_same t k) ∙ sym (get-remove_same (owned_by t id) k)))
    (λ n. get-owned_as (remove t k) id r (get t r) (get-remove_other t k r n) ∙ sym (get-owned t id r) ∙ sym (get-remove_other (owned_by t id) k r n))
    (either r k))

-- a node that changes, and stays whose it was
pub num_owned-change : (t : Tree) (k : Bytes) (v old : Node) (id : ℤ) → get t k ≡ Some old → v.owner ≡ old.owner → length (owned (insert t k v) id) ≡ length (owned t id)
num_owned-change t k v old id there same = num_owned (insert t k v) id ∙ by_owner (int_eq v.owner id) refl ∙ sym (num_owned t id)
  where
    old_is : (b : Bool) → int_eq v.owner id ≡ b → get (owned_by t id) k ≡ cond b (Some old) None
    old_is b e = get-owned_as t id k (Some old) there ∙ ap (λ c. cond c (Some old) None) (ap (λ (o : ℤ). int_eq o id) (sym same) ∙ e)

    by_owner : (b : Bool) → int_eq v.owner id ≡ b → len (owned_by (insert t k v) id) ≡ len (owned_by t id)
    by_owner true e = ap len (own-put_in t k v id e) ∙ len-insert_there (owned_by t id) k v old (old_is true e)
    by_owner false e = ap len (own-put_out t k v id e (old_is false e))

none_owned : (t : Tree) (k : Bytes) (id : ℤ) → get t k ≡ None → get (owned_by t id) k ≡ None
none_owned t k id none = get-owned_as t id k None none

-- a node that is new, of another session or of none
pub num_owned-new_other : (t : Tree) (k : Bytes) (v : Node) (id : ℤ) → get t k ≡ None → int_eq v.owner id ≡ false → length (owned (insert t k v) id) ≡ length (owned t id)
num_owned-new_other t k v id none out = num_owned (insert t k v) id ∙ ap len (own-put_out t k v id out (none_owned t k id none)) ∙ sym (num_owned t id)

-- a node that is new, of the session
pub num_owned-new : (t : Tree) (k : Bytes) (v : Node) (id : ℤ) → get t k ≡ None → int_eq v.owner id ≡ true → length (owned (insert t k v) id) ≡ length (owned t id) + 1
num_owned-new t k v id none inside =
    num_owned (insert t k v) id ∙ ap len (own-put_in t k v id inside) ∙ len-insert_new (owned_by t id) k v (none_owned t k id none) ∙ ap (λ n. n + 1) (sym (num_owned t id))

-- a node that goes
pub num_owned-gone : (t : Tree) (k : Bytes) (id : ℤ) → length (owned (remove t k) id) ≤ length (owned t id)
num_owned-gone t k id =
    let is = num_owned (remove t k) id ∙ ap len (own-gone t k id) ∙ len-remove nat_list_cmp_total (owned_by t id) k in
    let was = num_owned t id in
    omega (arith, is, was, fewer (contains_key (owned_by t id) k) (len (owned_by t id)))

pub owned_by-gone : (t : Tree) (q : Bytes) (id : ℤ) → owned_by (remove t q) id ≡ remove (owned_by t id) q
owned_by-gone t q id = ext _ _ (λ r. ⊎_elim
    (λ (e : r ≡ q). subst (λ (x : Bytes). get (owned_by (remove t q) id) x ≡ get (remove (owned_by t id) q) x) (sym e)
    (get-owned_as (remove t q) id q None (get-remove_same t q) ∙ sym (get-remove_same (owned_by t id) q)))
    (λ (a : r ≢ q). get-owned_as (remove t q) id r (get t r) (get-remove_other t q r a) ∙ sym (get-owned t id r) ∙ sym (get-remove_other (owned_by t id) q r a))
    (either r q))
