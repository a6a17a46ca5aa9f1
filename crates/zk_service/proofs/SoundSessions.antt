-- A sound tree stays sound where a session opens, changes or ends.
use Rattle.std.proofs.Common.{◌≡◌, ◌≢◌, ℤ, pos, ◌≤◌, Bool, true, false, cond, length, List, [], ◌∷◌, Option, Some, None, refl, sym, ap, ◌∙◌, ⊎_elim, arith}
use Rattle.std.specs.Prelude.{◌≤ℤ◌, is_some}
use Rattle.std.specs.Ordering.{int_eq, nat_cmp, is_eq}
use Rattle.std.specs.Cmp.Lexicographic.{slice_cmp, nat_list_cmp_total}
use Rattle.std.proofs.lemmas.Bool.Decides.{Decides-int_eq}
use Rattle.std.proofs.lemmas.Cmp.{tied_itself}
use Rattle.std.proofs.lemmas.Int.{ints}
use Rattle.std.proofs.lemmas.Map.Lookups.{exact_bytes}
use Rattle.std.specs.FinMap.{get, insert, remove, empty, len-empty, get-empty, contains_key-keys, len}
use Rattle.zx_base.specs.Maps.{Bytes}
use Rattle.zx_base.proofs.MapLaws.{ext}
use Rattle.zx_base.proofs.Options.{some_is, some_none}
use Rattle.zk_model.specs.declared.node.Node.{Node}
use Rattle.zk_model.specs.Paths.{root, parent}
use Rattle.zk_model.specs.Znodes.{Tree, owned, owned_by}
use Rattle.zk_model.specs.Single.{removed_under, at_parent, removed, without_child}
use Rattle.zk_service.specs.States.{Session, Sessions, IsSoundTree, limit_of, removed_all}
use Rattle.zk_model.proofs.Paths.{apart_from_parent}
use Rattle.zk_service.proofs.Children.{some_or_none, not_root}
use Rattle.zk_service.proofs.Owned.{num_owned, get-owned_as}
use Rattle.zk_service.proofs.SessionMaps.{either_id, at-insert_same, at-insert_other, at-remove_other, each_session-put, each_session-gone}
use Rattle.zk_service.proofs.SoundTrees.{Each, each-put, still_there}
use Rattle.zk_service.proofs.SoundEffects.{Stands, stands-removed}
use Rattle.zx_base.proofs.Orders.{equal-from_is_eq}
use Rattle.zx_base.proofs.Booleans.{or-second, or-neither, or-first}
use Rattle.zx_base.proofs.Lists.{has}

-- ---- a session changes, and may own what it might

open_still : (m : Sessions) (id other : ℤ) (x y : Session) → get m other ≡ Some y → (z : Session) × (get (insert m id x) other ≡ Some z)
open_still m id other x y is = ⊎_elim (λ e. (x, ap (get (insert m id x)) e ∙ at-insert_same m id x)) (λ far. (y, at-insert_other m id other x far ∙ is)) (either_id other id)

pub sound-session : (m : Sessions) (t : Tree) (id : ℤ) (x : Session) → IsSoundTree m t → pos 1 ≤ℤ id → length (owned t id) ≤ limit_of x → IsSoundTree (insert m id x) t
sound-session m t id x sound least few = record {
  rooted = sound.rooted;
  parents = sound.parents;
  counted = sound.counted;
  numbered = each_session-put (λ id x. pos 1 ≤ℤ id) m id x sound.numbered least;
  owners = λ p n is owned. let o = sound.owners p n is owned in open_still m id n.owner x o.0 o.1;
  limited = each_session-put (λ id x. length (owned t id) ≤ limit_of x) m id x sound.limited few;
  small = sound.small;
}

-- ---- a session opens

-- a session that is not open owns nothing
none_owned : (m : Sessions) (t : Tree) (id : ℤ) → IsSoundTree m t → pos 1 ≤ℤ id → get m id ≡ None → (p : Bytes) → get (owned_by t id) p ≡ None
none_owned m t id sound least none p = by_node (get t p) refl
  where
    by_owner : (n : Node) → get t p ≡ Some n → (b : Bool) → int_eq n.owner id ≡ b → cond b (Some n) None ≡ None
    by_owner n is false e = refl
    by_owner n is true e =
        let mine : n.owner ≡ id = (Decides-int_eq n.owner id).0 e in
        let o = sound.owners p n is (λ zero. omega (arith, ints)) in
        absurd (some_none (sym o.1 ∙ ap (get m) mine ∙ none))

    by_node : (o : Option Node) → get t p ≡ o → get (owned_by t id) p ≡ None
    by_node None is = get-owned_as t id p None is
    by_node (Some n) is = get-owned_as t id p (Some n) is ∙ by_owner n is (int_eq n.owner id) refl

pub owns_none : (m : Sessions) (t : Tree) (id : ℤ) → IsSoundTree m t → pos 1 ≤ℤ id → get m id ≡ None → length (owned t id) ≡ 0
owns_none m t id sound least none =
    num_owned t id ∙ ap len (ext (owned_by t id) empty (λ p. none_owned m t id sound least none p ∙ sym (get-empty (slice_cmp nat_cmp) p))) ∙ len-empty (slice_cmp nat_cmp) Node

-- ---- many nodes are removed

has-first : (p : Bytes) (ps : List Bytes) → has (p ∷ ps) p ≡ true
unfolding has
has-first p ps = or-first _ _ (ap is_eq (tied_itself nat_list_cmp_total p))

has-more : (p : Bytes) (ps : List Bytes) (r : Bytes) → has ps r ≡ true → has (p ∷ ps) r ≡ true
unfolding has
has-more p ps r h = or-second _ _ h

has-neither : (p : Bytes) (ps : List Bytes) (r : Bytes) → r ≢ p → has ps r ≡ false → has (p ∷ ps) r ≡ false
unfolding has
has-neither p ps r apart h = or-neither _ _ (by_test (is_eq (slice_cmp nat_cmp r p)) refl) h
  where
    by_test : (t : Bool) → is_eq (slice_cmp nat_cmp r p) ≡ t → t ≡ false
    by_test true e = absurd (apart (exact_bytes r p (equal-from_is_eq _ e)))
    by_test false e = refl

-- a node that is there was there before, under the same owner
abbrev Was : Tree → Bytes → Node → Type 0
Was t r n = (m : Node) × (get t r ≡ Some m) × (n.owner ≡ m.owner)

removed-was : (t : Tree) (p : Bytes) (z : ℤ) → Each (λ r n. (r ≢ p) × Was t r n) (removed t p z)
removed-was t p z = by_parent (parent p) refl
  where
    left : Each (λ r n. (r ≢ p) × Was t r n) (remove t p)
    left r n is = let was = still_there t p r n is in (was.0, (n, was.1, refl))

    by_node : (q : Bytes) (o : Option Node) → parent p ≡ Some q → get t q ≡ o → Each (λ r n. (r ≢ p) × Was t r n) (removed_under t p z (Some q) o)
    by_node q None below is = left
    by_node q (Some up) below is =
        each-put (λ r n. (r ≢ p) × Was t r n) (remove t p) q (without_child up z) left ((λ e. apart_from_parent p q below (sym e)), (up, is, refl))

    by_parent : (o : Option Bytes) → parent p ≡ o → Each (λ r n. (r ≢ p) × Was t r n) (removed_under t p z o (at_parent t o))
    by_parent None is = left
    by_parent (Some q) is = by_node q (get t q) is refl

removed_all-was : (ps : List Bytes) (t : Tree) (z : ℤ) → Each (λ r n. (has ps r ≡ false) × Was t r n) (removed_all t ps z)
unfolding has
removed_all-was [] t z r n is = (refl, (n, is, refl))
removed_all-was (p ∷ ps) t z r n is =
    let later = removed_all-was ps (removed t p z) z r n is in
    let sooner = removed-was t p z r later.1.0 later.1.1 in
    (has-neither p ps r sooner.0 later.0, (sooner.1.0, sooner.1.1, later.1.2 ∙ sooner.1.2))

-- nodes that sessions own have no children
removed_all-stands : (m : Sessions) (first z : ℤ) (ps : List Bytes) (t : Tree) → Stands m first z t → first ≤ℤ z → ((r : Bytes) → has ps r ≡ true → (n : Node) → get t r ≡ Some n → n.owner ≢ pos 0)
    → Stands m first z (removed_all t ps z)
removed_all-stands m first z [] t st begun owned = st
removed_all-stands m first z (p ∷ ps) t st begun owned =
    removed_all-stands m first z ps (removed t p z) (stands-removed m first z t p st begun inner childless) begun
    (λ r h n is e. let was = removed-was t p z r n is in owned r (has-more p ps r h) was.1.0 was.1.1 (sym was.1.2 ∙ e))
  where
    inner : p ≢ root
    inner e = let top = st.sound.rooted in owned p (has-first p ps) top.node (ap (get t) e ∙ top.there) top.plain

    childless : (r : Bytes) → parent r ≡ Some p → get t r ≡ None
    childless r below = ⊎_elim
        (λ e. e)
        (λ w. let up = st.sound.parents r w.0 w.1 (not_root r p below) in
        let at_p : up.path ≡ p = some_is (sym up.is ∙ below) in
        absurd (owned p (has-first p ps) up.has.node (sym (ap (get t) at_p) ∙ up.has.there) up.has.plain))
        (some_or_none (get t r))

-- ---- a session ends, and its nodes go

owned-has : (t : Tree) (id : ℤ) (r : Bytes) (n : Node) → get t r ≡ Some n → has (owned t id) r ≡ int_eq n.owner id
unfolding has
owned-has t id r n is = sym (contains_key-keys (owned_by t id) r) ∙ ap is_some (get-owned_as t id r (Some n) is) ∙ by_owner (int_eq n.owner id)
  where
    by_owner : (b : Bool) → is_some (cond b (Some n) None) ≡ b
    by_owner true = refl
    by_owner false = refl

pub stands-ended : (m : Sessions) (first z : ℤ) (t : Tree) (id : ℤ) → Stands m first z t → first ≤ℤ z → pos 1 ≤ℤ id → Stands (remove m id) first z (removed_all t (owned t id) z)
stands-ended m first z t id st begun least = record {
  sound = record {
    rooted = left.sound.rooted;
    parents = left.sound.parents;
    counted = left.sound.counted;
    numbered = each_session-gone (λ id x. pos 1 ≤ℤ id) m id left.sound.numbered;
    owners = λ p n is owned. let o = left.sound.owners p n is owned in (o.0, at-remove_other m id n.owner (others p n is) ∙ o.1);
    limited = each_session-gone (λ other x. length (owned (removed_all t (owned t id) z) other) ≤ limit_of x) m id left.sound.limited;
    small = left.sound.small;
  };
  bounded = left.bounded;
}
  where
    left : Stands m first z (removed_all t (owned t id) z)
    left = removed_all-stands m first z (owned t id) t st begun (λ r h n is zero.
        let mine : n.owner ≡ id = (Decides-int_eq n.owner id).0 (sym (owned-has t id r n is) ∙ h) in omega (arith, ints))

    others : (p : Bytes) (n : Node) → get (removed_all t (owned t id) z) p ≡ Some n → n.owner ≢ id
    others p n is mine =
        let was = removed_all-was (owned t id) t z p n is in
        let still : int_eq was.1.0.owner id ≡ true = (Decides-int_eq was.1.0.owner id).1 (sym was.1.2 ∙ mine) in
        let gone : int_eq was.1.0.owner id ≡ false = sym (owned-has t id p was.1.0 was.1.1) ∙ was.0 in
        cc
