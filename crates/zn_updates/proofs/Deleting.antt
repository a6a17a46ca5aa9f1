-- The tree after the delete of p below q, which is `above` from then on.
use Rattle.std.proofs.Common.{◌≡◌, ◌≢◌, ◌-◌, false, cond, Some, None, sym, ap, ◌∙◌}
use Rattle.std.specs.FinMap.{get, insert, remove, len}
use Rattle.zx_base.specs.Maps.{Bytes}
use Rattle.zx_base.proofs.MapLaws.{get-insert_same, get-insert_other, get-remove_same, get-remove_other, get-retain, retain-remove, remove-absent, len-remove_there}
use Rattle.zk_model.specs.declared.node.Node.{Node}
use Rattle.zk_model.specs.Paths.{parent, is_child}
use Rattle.zk_model.specs.Znodes.{Tree, below, num_children}
use Rattle.zk_model.proofs.Paths.{is_child-yes, is_child-no, apart_from_parent}
use Rattle.zk_service.proofs.Children.{get-below_child, num_children-change}

num_children-less : (t : Tree) (q : Bytes) (old : Node) (p : Bytes) → get t q ≡ Some old → parent q ≡ Some p → num_children (remove t q) p ≡ num_children t p - 1
num_children-less t q old p there h =
    ap len (retain-remove t (is_child p) q) ∙ len-remove_there (below t p) q old (get-below_child t p q (is_child-yes q p h) ∙ there)

get-below_none : (t : Tree) (p q : Bytes) → is_child p q ≡ false → get (below t p) q ≡ None
get-below_none t p q h = get-retain t (is_child p) q ∙ ap (λ b. cond b (get t q) None) h

num_children-other : (t : Tree) (q p : Bytes) → is_child p q ≡ false → num_children (remove t q) p ≡ num_children t p
num_children-other t q p h = ap len (retain-remove t (is_child p) q ∙ remove-absent (below t p) q (get-below_none t p q h))

abbrev pub delete_tree : Tree → Bytes → Node → Bytes → Tree
delete_tree t q above p = insert (remove t p) q above

module _ (t : Tree) (p q : Bytes) (old above node : Node) (below_q : parent p ≡ Some q) (there : get t q ≡ Some old) (here : get t p ≡ Some node) where
  pub delete_gone : get (delete_tree t q above p) p ≡ None
  delete_gone = get-insert_other (remove t p) q p above (apart_from_parent p q below_q) ∙ get-remove_same t p

  pub delete_parent : get (delete_tree t q above p) q ≡ Some above
  delete_parent = get-insert_same (remove t p) q above

  pub delete_other : (r : Bytes) → r ≢ p → r ≢ q → get (delete_tree t q above p) r ≡ get t r
  delete_other r np nq = get-insert_other (remove t p) q r above nq ∙ get-remove_other t p r np

  still : get (remove t p) q ≡ Some old
  still = get-remove_other t p q (λ e. apart_from_parent p q below_q (sym e)) ∙ there

  pub delete_count_parent : num_children (delete_tree t q above p) q ≡ num_children t q - 1
  delete_count_parent = num_children-change (remove t p) q above old q still ∙ num_children-less t p node q here below_q

  pub delete_count_other : (r : Bytes) → r ≢ q → num_children (delete_tree t q above p) r ≡ num_children t r
  delete_count_other r nq = num_children-change (remove t p) q above old r still ∙ num_children-other t p r (is_child-no p r q below_q (λ e. nq (sym e)))
