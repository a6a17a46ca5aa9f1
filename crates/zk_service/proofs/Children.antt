-- The children of a node, and how many they are, after changes of the tree.
use Rattle.std.proofs.Common.{◌≡◌, ◌≢◌, ℕ, ◌+◌, ◌-◌, ◌≤◌, Bool, true, false, cond, Option, Some, None, refl, sym, ap, ◌∙◌, subst, ◌⊎◌, ⊎_elim, inl, inr, arith}
use Rattle.std.specs.FinMap.{get, insert, remove, contains_key, len, empty, len-empty, len-remove, get-empty}
use Rattle.std.specs.Cmp.Lexicographic.{slice_cmp, nat_list_cmp_total}
use Rattle.std.specs.Ordering.{nat_cmp}
use Rattle.zx_base.specs.Maps.{Bytes}
use Rattle.zx_base.proofs.MapLaws.{ext, get-insert_same, get-insert_other, get-retain, retain-insert_out, retain-insert_in, retain-remove, len-insert_new, len-insert_there, get-none_from_len}
use Rattle.zk_model.specs.declared.node.Node.{Node}
use Rattle.zk_model.specs.Paths.{root, parent, is_child}
use Rattle.zk_model.specs.Znodes.{Tree, below, num_children}
use Rattle.zk_service.specs.States.{State, IsSound, HasParent}
use Rattle.zk_model.proofs.Paths.{is_child-yes, is_child-no, parent-from_child, apart_from_parent, parent-root}

pub get-below_child : (t : Tree) (p q : Bytes) → is_child p q ≡ true → get (below t p) q ≡ get t q
get-below_child t p q h = get-retain t (is_child p) q ∙ ap (λ b. cond b (get t q) None) h

get-below_other : (t : Tree) (p q : Bytes) → is_child p q ≡ false → get (below t p) q ≡ None
get-below_other t p q h = get-retain t (is_child p) q ∙ ap (λ b. cond b (get t q) None) h

-- a node that changes
pub num_children-change : (t : Tree) (q : Bytes) (node old : Node) (p : Bytes) → get t q ≡ Some old → num_children (insert t q node) p ≡ num_children t p
num_children-change t q node old p there =
    elim (is_child p q) as (λ b. is_child p q ≡ b → num_children (insert t q node) p ≡ num_children t p) [
      | true ↦ λ h. ap len (retain-insert_in t (is_child p) q node h) ∙ len-insert_there (below t p) q node old (get-below_child t p q h ∙ there)
      | false ↦ λ h. ap len (retain-insert_out t (is_child p) q node h)
    ] refl

-- a node that is new
pub num_children-new : (t : Tree) (q : Bytes) (node : Node) (p : Bytes) → get t q ≡ None → parent q ≡ Some p → num_children (insert t q node) p ≡ num_children t p + 1
num_children-new t q node p none h =
    let c = is_child-yes q p h in
    ap len (retain-insert_in t (is_child p) q node c) ∙ len-insert_new (below t p) q node (get-below_child t p q c ∙ none)

pub num_children-new_other : (t : Tree) (q : Bytes) (node : Node) (p : Bytes) → is_child p q ≡ false → num_children (insert t q node) p ≡ num_children t p
num_children-new_other t q node p h = ap len (retain-insert_out t (is_child p) q node h)

none_below : (t : Tree) (p q : Bytes) → ((r : Bytes) → parent r ≡ Some p → get t r ≡ None) → get (below t p) q ≡ None
none_below t p q h = elim (is_child p q) as (λ b. is_child p q ≡ b → get (below t p) q ≡ None) [
  | true ↦ λ c. get-below_child t p q c ∙ h q (parent-from_child q p c)
  | false ↦ λ c. get-below_other t p q c
] refl

pub no_children : (t : Tree) (p : Bytes) → ((r : Bytes) → parent r ≡ Some p → get t r ≡ None) → num_children t p ≡ 0
no_children t p h = ap len (ext (below t p) empty (λ q. none_below t p q h ∙ sym (get-empty (slice_cmp nat_cmp) q))) ∙ len-empty (slice_cmp nat_cmp) Node

pub some_or_none : {X : Type 0} (o : Option X) → (o ≡ None) ⊎ ((x : X) × (o ≡ Some x))
some_or_none None = inl refl
some_or_none (Some x) = inr (x, refl)

parent_is : (t : Tree) (r p : Bytes) → HasParent t r → parent r ≡ Some p → get t p ≢ None
parent_is t r p has h none =
    let e : Some has.path ≡ Some p = sym has.is ∙ h in
    let e2 : has.path ≡ p = cc in
    let there : get t p ≡ Some has.has.node = subst (λ (x : Bytes). get t x ≡ Some has.has.node) e2 has.has.there in
    let bad : Some has.has.node ≡ None = sym there ∙ none in cc

pub not_root : (r p : Bytes) → parent r ≡ Some p → r ≢ root
not_root r p h e = let bad : None ≡ Some p = sym parent-root ∙ subst (λ (x : Bytes). parent x ≡ Some p) e h in cc

-- the parent of each path but the root is there, and is no ephemeral node
abbrev pub AreParented : Tree → Type 0
AreParented t = (p : Bytes) (n : Node) → get t p ≡ Some n → (p ≡ root → ⊥) → HasParent t p

-- a path that is not there has no children
pub no_children-absent : (t : Tree) (p : Bytes) → AreParented t → get t p ≡ None → num_children t p ≡ 0
no_children-absent t p parents none = no_children t p (λ r h.
    ⊎_elim (λ e. e) (λ w. absurd (parent_is t r p (parents r w.0 w.1 (not_root r p h)) h none)) (some_or_none (get t r)))

pub no_orphans : (s : State) (p : Bytes) → IsSound s → get s.tree p ≡ None → num_children s.tree p ≡ 0
no_orphans s p sound none = no_children-absent s.tree p sound.parents none

-- nothing below a node without children
pub none-from_count : (t : Tree) (p r : Bytes) → num_children t p ≡ 0 → parent r ≡ Some p → get t r ≡ None
none-from_count t p r none h = sym (get-below_child t p r (is_child-yes r p h)) ∙ get-none_from_len (below t p) r none

pub fewer : (b : Bool) (n : ℕ) → cond b (n - 1) n ≤ n
fewer true n = omega arith
fewer false n = omega arith

-- a node that goes
pub num_children-gone : (t : Tree) (q p : Bytes) → num_children (remove t q) p ≤ num_children t p
num_children-gone t q p =
    subst (λ (k : ℕ). k ≤ num_children t p) (sym (ap len (retain-remove t (is_child p) q) ∙ len-remove nat_list_cmp_total (below t p) q)) (fewer (contains_key (below t p) q) (num_children t p))

-- the tree after a create of p below q, which is `above` from then on
abbrev pub create_tree : Tree → Bytes → Node → Bytes → Node → Tree
create_tree t q above p node = insert (insert t q above) p node

-- a create of p below q
module _ (t : Tree) (p q : Bytes) (old above node : Node) (below_q : parent p ≡ Some q) (there : get t q ≡ Some old) (none : get t p ≡ None) where
  p_not_q : p ≢ q
  p_not_q = apart_from_parent p q below_q

  q_not_p : q ≢ p
  q_not_p e = apart_from_parent p q below_q (sym e)

  still_none : get (insert t q above) p ≡ None
  still_none = get-insert_other t q p above p_not_q ∙ none

  pub create_new : get (create_tree t q above p node) p ≡ Some node
  create_new = get-insert_same (insert t q above) p node

  pub create_parent : get (create_tree t q above p node) q ≡ Some above
  create_parent = get-insert_other (insert t q above) p q node q_not_p ∙ get-insert_same t q above

  pub create_other : (r : Bytes) → r ≢ p → r ≢ q → get (create_tree t q above p node) r ≡ get t r
  create_other r np nq = get-insert_other (insert t q above) p r node np ∙ get-insert_other t q r above nq

  pub create_count_parent : num_children (create_tree t q above p node) q ≡ num_children t q + 1
  create_count_parent = num_children-new (insert t q above) p node q still_none below_q ∙ ap (λ n. n + 1) (num_children-change t q above old q there)

  pub create_count_other : (r : Bytes) → r ≢ q → num_children (create_tree t q above p node) r ≡ num_children t r
  create_count_other r nq = num_children-new_other (insert t q above) p node r (is_child-no p r q below_q (λ e. nq (sym e))) ∙ num_children-change t q above old r there
