-- A tree after nodes were removed, one after another: who is left, and how many children each node has.
use Rattle.std.proofs.Common.{◌≡◌, ◌≢◌, ℤ, ◌+◌, ◌-◌, Bool, true, false, cond, ◌||◌, List, [], ◌∷◌, Option, Some, None, refl, sym, ap, ◌∙◌, arith, add-zero}
use Rattle.std.specs.Prelude.{option_map}
use Rattle.std.specs.List.{list_any, count_by}
use Rattle.std.specs.FinMap.{get, insert, remove, len}
use Rattle.std.proofs.lemmas.Bool.{both_ways, or_left, or_right}
use Rattle.std.proofs.lemmas.List.Sums.{sum_by-cons}
use Rattle.zx_base.specs.Maps.{Bytes, same}
use Rattle.zx_base.proofs.MapLaws.{same-refl, same-true, same-false, apart-from_same, get-insert_same, get-insert_other, get-remove_same, get-remove_other, retain-remove, remove-absent, len-remove_there, get-none_from_len, get-retain}
use Rattle.zx_base.proofs.Options.{some_is, some_none}
use Rattle.zk_model.specs.declared.node.Node.{Node}
use Rattle.zk_model.specs.Paths.{parent, is_child, is_at_path}
use Rattle.zk_model.specs.Single.{removed, removed_under, at_parent, without_child}
use Rattle.zk_model.specs.Znodes.{Tree, below, num_children}
use Rattle.zk_model.proofs.Paths.{is_child-yes, parent-from_child, apart_from_parent}
use Rattle.zk_service.specs.States.{removed_all}
use Rattle.zk_service.proofs.Children.{get-below_child, num_children-change}

-- ---- who is left

-- what is left of a node: nothing where it goes, and the node with another pzxid where a child of it goes
abbrev pub left_over : Bool → Bool → ℤ → Option Node → Option Node
left_over true child z o = None
left_over false true z o = option_map (λ n. without_child n z) o
left_over false false z o = o

left_over-twice : (a b c d : Bool) (z : ℤ) (o : Option Node) → left_over c d z (left_over a b z o) ≡ left_over (a || c) (b || d) z o
left_over-twice true b true d z o = refl
left_over-twice true b false true z o = refl
left_over-twice true b false false z o = refl
left_over-twice false b true d z o = refl
left_over-twice false true false true z None = refl
left_over-twice false true false true z (Some n) = refl
left_over-twice false true false false z o = refl
left_over-twice false false false true z o = refl
left_over-twice false false false false z o = refl

no_child : (p r : Bytes) → parent p ≡ None → is_child r p ≡ false
unfolding is_child
no_child p r e = ap (λ (o : Option Bytes). is_at_path o r) e

parent_apart : (p r : Bytes) → is_child r p ≡ true → r ≢ p
parent_apart p r h e = apart_from_parent p r (parent-from_child p r h) (sym e)

module _ (t : Tree) (p : Bytes) (z : ℤ) (r : Bytes) where
  gone_alone : is_child r p ≡ false → get (remove t p) r ≡ left_over (same r p) (is_child r p) z (get t r)
  gone_alone h = elim (same r p) as (λ b. same r p ≡ b → get (remove t p) r ≡ left_over b (is_child r p) z (get t r)) [
    | true ↦ λ e. ap (get (remove t p)) (same-true r p e) ∙ get-remove_same t p
    | false ↦ λ e. get-remove_other t p r (apart-from_same r p e) ∙ sym (ap (λ c. left_over false c z (get t r)) h)
  ] refl

  left_parent : (o : Option Node) → is_child r p ≡ true → get t r ≡ o → left_over (same r p) (is_child r p) z (get t r) ≡ option_map (λ n. without_child n z) o
  left_parent o h is = (λ i. left_over (same-false r p (parent_apart p r h) i) (h i) z (is i))

  by_child : (u : Tree) → (is_child r p ≡ true → get u r ≡ left_over (same r p) (is_child r p) z (get t r)) → (is_child r p ≡ false → get u r ≡ left_over (same r p) (is_child r p) z (get t r)) → get u r ≡ left_over (same r p) (is_child r p) z (get t r)
  by_child u where_child where_not = elim (is_child r p) as (λ b. is_child r p ≡ b → get u r ≡ left_over (same r p) (is_child r p) z (get t r)) [ true ↦ where_child | false ↦ where_not ] refl

  is_parent : (q : Bytes) → parent p ≡ Some q → is_child r p ≡ true → q ≡ r
  is_parent q below h = some_is (sym below ∙ parent-from_child p r h)

  gone_below_none : (q : Bytes) → parent p ≡ Some q → get t q ≡ None → get (remove t p) r ≡ left_over (same r p) (is_child r p) z (get t r)
  gone_below_none q below none = by_child (remove t p)
      (λ h. let is : get t r ≡ None = sym (ap (get t) (is_parent q below h)) ∙ none in
      get-remove_other t p r (parent_apart p r h) ∙ is ∙ sym (left_parent None h is))
      gone_alone

  gone_below : (q : Bytes) (up : Node) → parent p ≡ Some q → get t q ≡ Some up → get (insert (remove t p) q (without_child up z)) r ≡ left_over (same r p) (is_child r p) z (get t r)
  gone_below q up below there = by_child (insert (remove t p) q (without_child up z))
      (λ h. let here : q ≡ r = is_parent q below h in
      sym (ap (get (insert (remove t p) q (without_child up z))) here) ∙ get-insert_same (remove t p) q (without_child up z) ∙ sym (left_parent (Some up) h (sym (ap (get t) here) ∙ there)))
      (λ h. get-insert_other (remove t p) q r (without_child up z) (λ e. both_ways _ h (is_child-yes p r (below ∙ ap Some (sym e)))) ∙ gone_alone h)

  pub removed-is : get (removed t p z) r ≡ left_over (same r p) (is_child r p) z (get t r)
  removed-is = by_parent (parent p) refl
    where
      by_node : (q : Bytes) (o : Option Node) → parent p ≡ Some q → get t q ≡ o → get (removed_under t p z (Some q) o) r ≡ left_over (same r p) (is_child r p) z (get t r)
      by_node q None below is = gone_below_none q below is
      by_node q (Some up) below is = gone_below q up below is

      by_parent : (o : Option Bytes) → parent p ≡ o → get (removed_under t p z o (at_parent t o)) r ≡ left_over (same r p) (is_child r p) z (get t r)
      by_parent None is = gone_alone (no_child p r is)
      by_parent (Some q) is = by_node q (get t q) is refl

pub removed_all-is : (ps : List Bytes) (t : Tree) (z : ℤ) (r : Bytes) → get (removed_all t ps z) r ≡ left_over (list_any (same r) ps) (list_any (is_child r) ps) z (get t r)
removed_all-is [] t z r = refl
removed_all-is (p ∷ ps) t z r =
    removed_all-is ps (removed t p z) z r
    ∙ ap (left_over (list_any (same r) ps) (list_any (is_child r) ps) z) (removed-is t p z r)
    ∙ left_over-twice (same r p) (is_child r p) (list_any (same r) ps) (list_any (is_child r) ps) z (get t r)

-- ---- how many children are left

not_below : (t : Tree) (p q : Bytes) → is_child p q ≡ false → get (below t p) q ≡ None
not_below t p q h = get-retain t (is_child p) q ∙ ap (λ b. cond b (get t q) None) h

num_children-removed_alone : (t : Tree) (p r : Bytes) (n : Node) → get t p ≡ Some n → num_children (remove t p) r + cond (is_child r p) 1 0 ≡ num_children t r
num_children-removed_alone t p r n there =
    let less : num_children (remove t p) r ≡ len (remove (below t r) p) = ap len (retain-remove t (is_child r) p) in
    elim (is_child r p) as (λ b. is_child r p ≡ b → num_children (remove t p) r + cond b 1 0 ≡ num_children t r) [
      | true ↦ λ h.
          let inside : get (below t r) p ≡ Some n = get-below_child t r p h ∙ there in
          let one : len (remove (below t r) p) ≡ len (below t r) - 1 = len-remove_there (below t r) p n inside in
          let some : len (below t r) ≢ 0 = λ e. some_none (sym inside ∙ get-none_from_len (below t r) p e) in
          omega arith
      | false ↦ λ h. add-zero _ ∙ less ∙ ap len (remove-absent (below t r) p (not_below t r p h))
    ] refl

-- the parent's other numbers don't matter
num_children-removed_under : (t : Tree) (p : Bytes) (z : ℤ) (r : Bytes) → num_children (removed t p z) r ≡ num_children (remove t p) r
num_children-removed_under t p z r = by_parent (parent p) refl
  where
    by_node : (q : Bytes) (o : Option Node) → parent p ≡ Some q → get t q ≡ o → num_children (removed_under t p z (Some q) o) r ≡ num_children (remove t p) r
    by_node q None below is = refl
    by_node q (Some up) below is = num_children-change (remove t p) q (without_child up z) up r (get-remove_other t p q (λ e. apart_from_parent p q below (sym e)) ∙ is)

    by_parent : (o : Option Bytes) → parent p ≡ o → num_children (removed_under t p z o (at_parent t o)) r ≡ num_children (remove t p) r
    by_parent None is = refl
    by_parent (Some q) is = by_node q (get t q) is refl

pub num_children-removed : (t : Tree) (p : Bytes) (z : ℤ) (r : Bytes) (n : Node) → get t p ≡ Some n → num_children (removed t p z) r + cond (is_child r p) 1 0 ≡ num_children t r
num_children-removed t p z r n there = ap (λ k. k + cond (is_child r p) 1 0) (num_children-removed_under t p z r) ∙ num_children-removed_alone t p r n there

-- each node is there
abbrev pub AreThere : Tree → List Bytes → Type 0
AreThere t ps = (q : Bytes) → list_any (same q) ps ≡ true → (n : Node) × (get t q ≡ Some n)

-- no path stands twice in the list
abbrev pub AreApart : List Bytes → Type 0
AreApart [] = Unit {0}
AreApart (p ∷ ps) = (list_any (same p) ps ≡ false) × AreApart ps

some_left : (child : Bool) (z : ℤ) (n : Node) → (m : Node) × (left_over false child z (Some n) ≡ Some m)
some_left true z n = (without_child n z, refl)
some_left false z n = (n, refl)

are_there-later : (t : Tree) (p : Bytes) (ps : List Bytes) (z : ℤ) → AreThere t (p ∷ ps) → list_any (same p) ps ≡ false → AreThere (removed t p z) ps
are_there-later t p ps z there apart q h =
    let far : q ≢ p = λ e. both_ways _ apart (sym (ap (λ (x : Bytes). list_any (same x) ps) e) ∙ h) in
    let was = there q (or_right (same q p) (list_any (same q) ps) h) in
    let left = some_left (is_child q p) z was.0 in
    (left.0, removed-is t p z q ∙ (λ i. left_over (same-false q p far i) (is_child q p) z (was.1 i)) ∙ left.1)

pub num_children-removed_all : (ps : List Bytes) (t : Tree) (z : ℤ) (r : Bytes) → AreThere t ps → AreApart ps → num_children (removed_all t ps z) r + count_by (is_child r) ps ≡ num_children t r
num_children-removed_all [] t z r there apart = add-zero _
num_children-removed_all (p ∷ ps) t z r there apart =
    let first = there p (or_left (same p p) (list_any (same p) ps) (same-refl p)) in
    omega (
      arith,
      num_children-removed_all ps (removed t p z) z r (are_there-later t p ps z there apart.0) apart.1,
      num_children-removed t p z r first.0 first.1,
      sum_by-cons (λ x. cond (is_child r x) 1 0) p ps,
    )
