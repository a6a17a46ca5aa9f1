-- What a lapse leaves.
use Rattle.std.proofs.Common.{◌≡◌, inl, inr, ℕ, ◌≤◌, nat_lt, Bool, true, false, List, [], ◌∷◌, length, refl, ap, sym, subst, ◌∙◌, cond, arith}
use Rattle.std.proofs.lemmas.Bool.{ltb-false}
use Rattle.std.proofs.lemmas.Cmp.{int_cmp_total, tied_itself}
use Rattle.std.proofs.lemmas.Int.{ints}
use Rattle.std.proofs.lemmas.List.{length-append}
use Rattle.std.specs.Prelude.{ℤ, ◌≤ℤ◌, not, ◌&&◌, ◌||◌, is_some, Option, Some, None, if◌then◌else◌, unwrap_or}
use Rattle.std.specs.FinMap.{get, remove, get-remove}
use Rattle.std.specs.Ordering.{is_eq}
use Rattle.ev_types.proofs.Lapsed.{lapse-lease}
use Rattle.ev_types.specs.Denials.{has_lease, is_lease, is_full_store}
use Rattle.ev_types.specs.Lapses.{lapse, removals, leased_keys}
use Rattle.ev_types.specs.Store.{Store, Change, grown, max_revisions, revision}
use Rattle.ev_store.specs.FirstDenial.{full, lapse_denial}
use Rattle.ev_store.specs.declared.fault.Denied.{Denied}
use Rattle.ev_store.specs.declared.fault.Denied.TheVariants as denied
use Rattle.ev_shared.specs.History.{IsFull, IsSettled, lapsed}
use Rattle.zx_base.proofs.Booleans.{and-false}

-- ---- denied

if_some : {A : Type 0} (b : Bool) (x y : A) → (if b then Some x else None) ≡ Some y → (b ≡ true) × (x ≡ y)
if_some true x y e = (refl, cc)
if_some false x y e = absurd cc

not_below : (n m : ℕ) → not (nat_lt n m) ≡ true → m ≤ n
not_below n m e = ltb-false n m (negated (nat_lt n m) e)
  where
    negated : (b : Bool) → not b ≡ true → b ≡ false
    negated true e = absurd cc
    negated false e = refl

filled : (s : Store) (cs : List Change) → is_full_store s cs ≡ true → IsFull s
filled s [] e = absurd cc
filled s (c ∷ cs) e = let most : max_revisions ≤ length s.revisions = not_below (length s.revisions) max_revisions e in omega (arith, ints)

at_last : (s : Store) (cs : List Change) (d : Denied) → full s cs ≡ Some d → IsFull s
at_last s cs d e = filled s cs (if_some (is_full_store s cs) _ d e).0

by_lease : {P : Type 0} (b : Bool) (x y : Option Denied) (d : Denied) → (if b then x else y) ≡ Some d → (x ≡ Some d → P) → (b ≡ false → y ≡ Some d → P) → P
by_lease true x y d e there gone = there e
by_lease false x y d e there gone = gone refl e

pub denied_settles : (s : Store) (id : ℤ) (d : Denied) → lapse_denial s id ≡ Some d → IsSettled s id
unfolding lapse_denial
denied_settles s id d e = by_lease (has_lease s id) _ _ d e (λ f. inr (at_last s _ d f)) (λ gone f. inl gone)

pub full_denied : (s : Store) (id r : ℤ) → lapse_denial s id ≡ Some (denied.Full r) → IsFull s
unfolding lapse_denial
full_denied s id r e = by_lease (has_lease s id) _ _ (denied.Full r) e (at_last s _ (denied.Full r)) (λ gone f. absurd cc)

-- ---- done

pub lapse_settles : (s t : Store) (id : ℤ) → lapse s id ≡ Some t → IsSettled t id
lapse_settles s t id e =
    let gone : get t.leases id ≡ None = ap (λ m. get m id) (lapse-lease s t id e) ∙ get-remove int_cmp_total s.leases id id ∙ ap (λ b. cond b None (get s.leases id)) (ap is_eq (tied_itself int_cmp_total id)) in
    inl (rw gone (and-false (is_lease id)))

cleared : (b l : Bool) (o : Option ℤ) → (l && is_some o) ≡ false → (l && is_some (cond b None o)) ≡ false
cleared true l o h = and-false l
cleared false l o h = h

still_gone : (s t : Store) (id i : ℤ) → lapse s id ≡ Some t → has_lease s i ≡ false → has_lease t i ≡ false
still_gone s t id i e h =
    let after = ap (λ m. get m i) (lapse-lease s t id e) ∙ get-remove int_cmp_total s.leases id i in
    rw after (cleared _ (is_lease i) (get s.leases i) h)

chosen : (b : Bool) (u t : Store) → (if b then None else Some u) ≡ Some t → u ≡ t
chosen true u t e = absurd cc
chosen false u t e = cc

revision_rises : (s : Store) (cs : List Change) → revision s ≤ℤ revision (grown s cs)
revision_rises s [] = omega (arith, ints)
revision_rises s (c ∷ cs) = let more = length-append s.revisions ((c ∷ cs) ∷ []) in omega (arith, ints)

pub lapse_full : (s t : Store) (id : ℤ) → lapse s id ≡ Some t → IsFull s → IsFull t
unfolding lapse
lapse_full s t id e h =
    let without : Store = record s { leases = remove s.leases id } in
    let is = chosen (not (has_lease s id) || is_full_store s (removals (leased_keys s id))) (grown without (removals (leased_keys s id))) t e in
    let rises = revision_rises without (removals (leased_keys s id)) in
    subst IsFull is (omega (arith, ints, h, rises))

pub lapse_keeps : (s t : Store) (id i : ℤ) → lapse s id ≡ Some t → IsSettled s i → IsSettled t i
lapse_keeps s t id i e (inl gone) = inl (still_gone s t id i e gone)
lapse_keeps s t id i e (inr full) = inr (lapse_full s t id e full)

-- ---- whether it was done or denied

pub lapsed_is : (s t : Store) (id : ℤ) → lapse s id ≡ Some t → t ≡ lapsed s id
lapsed_is s t id e = sym (ap (λ (o : Option Store). unwrap_or o s) e)

pub undone : (s : Store) (id : ℤ) → lapse s id ≡ None → s ≡ lapsed s id
undone s id e = sym (ap (λ (o : Option Store). unwrap_or o s) e)
