-- A sound tree stays sound where a node changes, comes or goes.
use Rattle.std.proofs.Common.{◌≡◌, ◌≢◌, ℕ, ℤ, pos, ◌+◌, ◌<◌, ◌≤◌, Bool, true, false, length, Some, None, refl, sym, ap, ◌∙◌, subst, ◌⊎◌, inl, inr, ⊎_elim, arith}
use Rattle.std.specs.Ordering.{int_eq}
use Rattle.std.proofs.lemmas.Bool.Decides.{Decides-int_eq}
use Rattle.std.proofs.lemmas.Int.{ints}
use Rattle.std.specs.FinMap.{get, insert, remove}
use Rattle.zx_base.specs.Maps.{Bytes}
use Rattle.zx_base.proofs.MapLaws.{either, get-insert_same, get-insert_other, get-remove_same, get-remove_other}
use Rattle.zx_base.proofs.Options.{some_is, some_none}
use Rattle.zk_model.specs.Limits.{max_frame}
use Rattle.zk_model.specs.declared.node.Node.{Node}
use Rattle.zk_model.specs.Paths.{root, parent}
use Rattle.zk_model.specs.Znodes.{Tree, num_children, owned}
use Rattle.zk_service.specs.States.{Session, Sessions, HasPlain, HasParent, IsCounted, IsSoundTree, limit_of}
use Rattle.zk_model.proofs.Paths.{apart_from_parent, is_child-no}
use Rattle.zk_service.proofs.Children.{num_children-change, num_children-new, num_children-new_other, num_children-gone, no_children-absent}
use Rattle.zk_service.proofs.Owned.{num_owned-change, num_owned-new, num_owned-new_other, num_owned-gone}

pub same_node : (t : Tree) (p : Bytes) (x y : Node) → get t p ≡ Some x → get t p ≡ Some y → x ≡ y
same_node t p x y a b = some_is (sym a ∙ b)

-- what holds of each node
abbrev pub Each : (Bytes → Node → Type 0) → Tree → Type 0
Each Q t = (p : Bytes) (n : Node) → get t p ≡ Some n → Q p n

pub each-put : (Q : Bytes → Node → Type 0) (t : Tree) (k : Bytes) (v : Node) → Each Q t → Q k v → Each Q (insert t k v)
each-put Q t k v all here p n is = ⊎_elim
    (λ e. let same : v ≡ n = some_is (sym (get-insert_same t k v) ∙ sym (ap (get (insert t k v)) e) ∙ is) in
    subst (λ (w : Bytes × Node). Q w.0 w.1) (λ i. (sym e i, same i)) here)
    (λ far. all p n (sym (get-insert_other t k p v far) ∙ is))
    (either p k)

pub still_there : (t : Tree) (k p : Bytes) (n : Node) → get (remove t k) p ≡ Some n → (p ≢ k) × (get t p ≡ Some n)
still_there t k p n is =
    let far : p ≢ k = λ e. some_none (sym is ∙ ap (get (remove t k)) e ∙ get-remove_same t k) in
    (far, sym (get-remove_other t k p far) ∙ is)

pub each-gone : (Q : Bytes → Node → Type 0) (t : Tree) (k : Bytes) → Each Q t → Each Q (remove t k)
each-gone Q t k all p n is = all p n (still_there t k p n is).1

-- ---- plain nodes

plain-change : (t : Tree) (k : Bytes) (v old : Node) (p : Bytes) → get t k ≡ Some old → v.owner ≡ old.owner → HasPlain t p → HasPlain (insert t k v) p
plain-change t k v old p there same has = ⊎_elim
    (λ e. record {
      node = v;
      there = ap (get (insert t k v)) e ∙ get-insert_same t k v;
      plain = same ∙ ap (λ (n : Node). n.owner) (same_node t k old has.node there (sym (ap (get t) e) ∙ has.there)) ∙ has.plain;
    })
    (λ far. record { node = has.node; there = get-insert_other t k p v far ∙ has.there; plain = has.plain })
    (either p k)

plain-new : (t : Tree) (k : Bytes) (v : Node) (p : Bytes) → get t k ≡ None → HasPlain t p → HasPlain (insert t k v) p
plain-new t k v p none has =
    let far : p ≢ k = λ e. some_none (sym has.there ∙ ap (get t) e ∙ none) in
    record { node = has.node; there = get-insert_other t k p v far ∙ has.there; plain = has.plain }

plain-gone : (t : Tree) (k p : Bytes) → p ≢ k → HasPlain t p → HasPlain (remove t k) p
plain-gone t k p far has = record { node = has.node; there = get-remove_other t k p far ∙ has.there; plain = has.plain }

-- ---- a node changes, and stays whose it was

module _ (opened : Sessions) (t : Tree) (k : Bytes) (old v : Node) (sound : IsSoundTree opened t) (there : get t k ≡ Some old) (same : v.owner ≡ old.owner)
    (counted : IsCounted v (num_children t k)) (small : length v.content ≤ max_frame) where
  abbrev changed : Tree
  changed = insert t k v

  parent_still : (p : Bytes) → HasParent t p → HasParent changed p
  parent_still p up = record { path = up.path; is = up.is; has = plain-change t k v old up.path there same up.has }

  pub sound-change : IsSoundTree opened changed
  sound-change = record {
    rooted = plain-change t k v old root there same sound.rooted;
    parents = each-put (λ p n. (p ≡ root → ⊥) → HasParent changed p) t k v
        (λ p n is far. parent_still p (sound.parents p n is far))
        (λ far. parent_still k (sound.parents k old there far));
    counted = each-put (λ p n. IsCounted n (num_children changed p)) t k v
        (λ p n is. subst (λ (j : ℕ). IsCounted n j) (sym (num_children-change t k v old p there)) (sound.counted p n is))
        (subst (λ (j : ℕ). IsCounted v j) (sym (num_children-change t k v old k there)) counted);
    numbered = sound.numbered;
    owners = each-put (λ p n. (n.owner ≡ pos 0 → ⊥) → (x : Session) × (get opened n.owner ≡ Some x)) t k v sound.owners
        (λ owned. subst (λ (o : ℤ). (x : Session) × (get opened o ≡ Some x)) (sym same) (sound.owners k old there (λ e. owned (same ∙ e))));
    limited = λ id x is. subst (λ (j : ℕ). j ≤ limit_of x) (sym (num_owned-change t k v old id there same)) (sound.limited id x is);
    small = each-put (λ p n. length n.content ≤ max_frame) t k v sound.small small;
  }

-- ---- a node comes

-- a new node may be this session's, or no session's
abbrev pub MayOwn : Sessions → Tree → ℤ → Type 0
MayOwn opened t id = (id ≡ pos 0) ⊎ ((x : Session) × (get opened id ≡ Some x) × (length (owned t id) < limit_of x))

module _ (opened : Sessions) (t : Tree) (k q : Bytes) (up v : Node) (sound : IsSoundTree opened t) (none : get t k ≡ None) (below : parent k ≡ Some q)
    (there : get t q ≡ Some up) (plain : up.owner ≡ pos 0) (counted : IsCounted up (num_children t q + 1)) (fresh : IsCounted v 0)
    (may : MayOwn opened t v.owner) (small : length v.content ≤ max_frame) where
  abbrev grown : Tree
  grown = insert t k v

  parent_stays : (p : Bytes) → HasParent t p → HasParent grown p
  parent_stays p has = record { path = has.path; is = has.is; has = plain-new t k v has.path none has.has }

  childless : num_children grown k ≡ 0
  childless = num_children-new_other t k v k (is_child-no k k q below (λ e. apart_from_parent k q below (sym e))) ∙ no_children-absent t k sound.parents none

  counts : (p : Bytes) (n : Node) → get t p ≡ Some n → IsCounted n (num_children grown p)
  counts p n is = ⊎_elim
      (λ e. let at_q : n ≡ up = same_node t q n up (sym (ap (get t) e) ∙ is) there in
      subst (λ (j : ℕ). IsCounted n j) (sym (ap (num_children grown) e ∙ num_children-new t k v q none below)) (subst (λ (m : Node). IsCounted m (num_children t q + 1)) (sym at_q) counted))
      (λ far. subst (λ (j : ℕ). IsCounted n j) (sym (num_children-new_other t k v p (is_child-no k p q below (λ e. far (sym e))))) (sound.counted p n is))
      (either p q)

  owner_open : (o : ℤ) → MayOwn opened t o → (o ≡ pos 0 → ⊥) → (x : Session) × (get opened o ≡ Some x)
  owner_open o (inl e) owned = absurd (owned e)
  owner_open o (inr x) owned = (x.0, x.1)

  one_more : (id : ℤ) (x : Session) → get opened id ≡ Some x → v.owner ≡ id → MayOwn opened t v.owner → length (owned t id) + 1 ≤ limit_of x
  one_more id x is mine (inl e) = let least = sound.numbered id x is in absurd (omega (arith, ints))
  one_more id x is mine (inr y) =
      let same : y.0 ≡ x = some_is (sym y.1 ∙ ap (get opened) mine ∙ is) in
      omega (arith, y.2, ap limit_of same, ap (λ (o : ℤ). length (owned t o)) mine)

  limits : (id : ℤ) (x : Session) → get opened id ≡ Some x → length (owned grown id) ≤ limit_of x
  limits id x is = by_owner (int_eq v.owner id) refl
    where
      by_owner : (b : Bool) → int_eq v.owner id ≡ b → length (owned grown id) ≤ limit_of x
      by_owner true e = subst (λ (j : ℕ). j ≤ limit_of x) (sym (num_owned-new t k v id none e)) (one_more id x is ((Decides-int_eq v.owner id).0 e) may)
      by_owner false e = subst (λ (j : ℕ). j ≤ limit_of x) (sym (num_owned-new_other t k v id none e)) (sound.limited id x is)

  pub sound-new : IsSoundTree opened grown
  sound-new = record {
    rooted = plain-new t k v root none sound.rooted;
    parents = each-put (λ p n. (p ≡ root → ⊥) → HasParent grown p) t k v
        (λ p n is far. parent_stays p (sound.parents p n is far))
        (λ far. record { path = q; is = below; has = plain-new t k v q none (record { node = up; there = there; plain = plain }) });
    counted = each-put (λ p n. IsCounted n (num_children grown p)) t k v counts (subst (λ (j : ℕ). IsCounted v j) (sym childless) fresh);
    numbered = sound.numbered;
    owners = each-put (λ p n. (n.owner ≡ pos 0 → ⊥) → (x : Session) × (get opened n.owner ≡ Some x)) t k v sound.owners (owner_open v.owner may);
    limited = limits;
    small = each-put (λ p n. length n.content ≤ max_frame) t k v sound.small small;
  }

-- ---- a node without children goes

counted_less : (n : Node) (j k : ℕ) → j ≤ k → IsCounted n k → IsCounted n j
counted_less n j k le is = let c = is.counted in record { counted = omega (arith, ints); most = is.most }

pub sound-gone : (opened : Sessions) (t : Tree) (k : Bytes) → IsSoundTree opened t → k ≢ root → ((r : Bytes) → parent r ≡ Some k → get t r ≡ None) → IsSoundTree opened (remove t k)
sound-gone opened t k sound inner childless = record {
  rooted = plain-gone t k root (λ e. inner (sym e)) sound.rooted;
  parents = λ p n is far.
      let was = still_there t k p n is in
      let up = sound.parents p n was.1 far in
      let apart : up.path ≢ k = λ e. some_none (sym was.1 ∙ childless p (up.is ∙ ap Some e)) in
      record { path = up.path; is = up.is; has = plain-gone t k up.path apart up.has };
  counted = λ p n is. counted_less n (num_children (remove t k) p) (num_children t p) (num_children-gone t k p) (sound.counted p n (still_there t k p n is).1);
  numbered = sound.numbered;
  owners = each-gone (λ p n. (n.owner ≡ pos 0 → ⊥) → (x : Session) × (get opened n.owner ≡ Some x)) t k sound.owners;
  limited = λ id x is. let le = sound.limited id x is in omega (arith, num_owned-gone t k id);
  small = each-gone (λ p n. length n.content ≤ max_frame) t k sound.small;
}
