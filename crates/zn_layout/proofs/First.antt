-- The first state: the root alone.
use Rattle.std.proofs.Common.{◌≡◌, ◌≢◌, ℕ, pos, Bool, false, cond, [], Some, None, refl, sym, ap, ◌∙◌}
use Rattle.std.specs.Ordering.{nat_cmp}
use Rattle.std.specs.Cmp.Lexicographic.{slice_cmp}
use Rattle.std.specs.FinMap.{get, insert, retain_keys, empty, len, get-empty, len-empty}
use Rattle.zk_model.specs.declared.node.Node.{Node}
use Rattle.zk_model.specs.Paths.{root, parent, at_last_slash, is_child}
use Rattle.zk_model.specs.Znodes.{Tree, num_children, new_node}
use Rattle.zx_base.specs.Maps.{Bytes}
use Rattle.zx_base.proofs.MapLaws.{get-insert_same, get-insert_other, get-retain, retain-insert_out, ext}
use Rattle.zx_base.proofs.Options.{cond-none}

-- ---- the tree

abbrev pub first_tree : ℕ → Tree
first_tree now = insert empty root (new_node [] (pos 0) (pos 2) now)

pub first_there : (now : ℕ) → get (first_tree now) root ≡ Some (new_node [] (pos 0) (pos 2) now)
first_there now = get-insert_same empty root _

pub first_other : (now : ℕ) (p : Bytes) → p ≢ root → get (first_tree now) p ≡ None
first_other now p n = get-insert_other empty root p _ n ∙ get-empty (slice_cmp nat_cmp) p

-- ---- its parts

no_part : {X : Type 0} (f : Bytes → Bool) → retain_keys (empty {X = X} {R = slice_cmp nat_cmp}) f ≡ empty
no_part f = ext _ _ (λ q. get-retain empty f q ∙ ap (λ o. cond (f q) o None) (get-empty (slice_cmp nat_cmp) q) ∙ cond-none (f q) ∙ sym (get-empty (slice_cmp nat_cmp) q))

root-no_child : (p : Bytes) → is_child p root ≡ false
unfolding is_child parent at_last_slash
root-no_child p = refl

pub first_childless : (now : ℕ) (p : Bytes) → num_children (first_tree now) p ≡ 0
first_childless now p = ap len (retain-insert_out empty (is_child p) root _ (root-no_child p) ∙ no_part (is_child p)) ∙ len-empty (slice_cmp nat_cmp) Node
