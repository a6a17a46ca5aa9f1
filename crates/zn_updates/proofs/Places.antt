-- A path's place is that of the first path that isn't before it.
use Rattle.std.proofs.Common.{◌≡◌, ◌≢◌, ℕ, zero, suc, ◌<◌, true, false, List, [], ◌∷◌, length, get_or, refl, sym, ap, ◌∙◌, subst, arith}
use Rattle.std.specs.Ordering.{nat_cmp, is_lt, ordering_reverse}
use Rattle.std.specs.Cmp.Lexicographic.{slice_cmp, nat_list_cmp_total}
use Rattle.std.specs.declared.cmp.Ordering.{Ordering}
use Rattle.std.specs.declared.cmp.Ordering.TheVariants.{Less, Equal, Greater}
use Rattle.std.specs.FinMap.Entries.{by_order}
use Rattle.std.specs.List.{insert}
use Rattle.std.proofs.lemmas.Map.Lookups.{exact_bytes}
use Rattle.ev_types.specs.Ranges.{comes_before}
use Rattle.zx_base.specs.Maps.{Bytes}
use Rattle.zn_updates.specs.OwnedLists.{placed, IsPlaceOf}

abbrev order : Bytes → Bytes → Ordering
order = slice_cmp nat_cmp

back : (p q : Bytes) → order p q ≡ ordering_reverse (order q p)
back p q = nat_list_cmp_total.antisymm p q

after_less : (o : Ordering) → is_lt o ≡ true → ordering_reverse o ≡ Greater
after_less Less h = refl
after_less Equal h = absurd (cc)
after_less Greater h = absurd (cc)

pub later : (p q : Bytes) → comes_before q p ≡ true → order p q ≡ Greater
later p q h = back p q ∙ after_less (order q p) h

-- the paths after the first
rest_place : (p q : Bytes) (qs : List Bytes) (k : ℕ) → IsPlaceOf p (q ∷ qs) (suc k) → IsPlaceOf p qs k
rest_place p q qs k at = record {
  within = let h = at.within in omega (arith, h);
  before = λ j lt. at.before (suc j) (omega (arith, lt));
  stops = λ lt. at.stops (omega (arith, lt));
}

placed_after : (p q : Bytes) (qs : List Bytes) → order p q ≡ Greater → placed p (q ∷ qs) ≡ q ∷ placed p qs
placed_after p q qs e = ap (λ (o : Ordering). by_order o (p ∷ q ∷ qs) (q ∷ qs) (q ∷ placed p qs)) e

not_before : (o : Ordering) → is_lt o ≡ false → ordering_reverse o ≢ Greater
not_before Less h e = cc
not_before Equal h e = cc
not_before Greater h e = cc

pub placed-there : (p : Bytes) (ps : List Bytes) (k : ℕ) → IsPlaceOf p ps k → k < length ps → get_or ps k p ≡ p → placed p ps ≡ ps
placed-there p [] k at lt same = absurd (omega (arith, lt))
placed-there p (q ∷ qs) zero at lt same = subst (λ (x : Bytes). placed p (x ∷ qs) ≡ x ∷ qs) (sym same) (ap (λ (o : Ordering). by_order o (p ∷ p ∷ qs) (p ∷ qs) (p ∷ placed p qs)) (equal_self (order p p) (back p p)))
  where
    equal_self : (o : Ordering) → o ≡ ordering_reverse o → o ≡ Equal
    equal_self Less h = absurd (cc)
    equal_self Equal h = refl
    equal_self Greater h = absurd (cc)
placed-there p (q ∷ qs) (suc k) at lt same =
    placed_after p q qs (later p q (at.before zero (omega arith))) ∙ ap (λ (l : List Bytes). q ∷ l) (placed-there p qs k (rest_place p q qs k at) (omega (arith, lt)) same)

pub placed-new : (p : Bytes) (ps : List Bytes) (k : ℕ) → IsPlaceOf p ps k → (k < length ps → get_or ps k p ≢ p) → placed p ps ≡ insert ps k p
placed-new p [] zero at new = refl
placed-new p [] (suc k) at new = let h = at.within in absurd (omega (arith, h))
placed-new p (q ∷ qs) zero at new =
    elim (order p q) as (λ o. order p q ≡ o → by_order o (p ∷ q ∷ qs) (q ∷ qs) (q ∷ placed p qs) ≡ p ∷ q ∷ qs) [
      | Less ↦ λ e. refl
      | Equal ↦ λ e. absurd (new (omega arith) (sym (exact_bytes p q e)))
      | Greater ↦ λ e. absurd (not_before (order q p) (at.stops (omega arith)) (sym (back p q) ∙ e))
    ] refl
placed-new p (q ∷ qs) (suc k) at new =
    placed_after p q qs (later p q (at.before zero (omega arith))) ∙ ap (λ (l : List Bytes). q ∷ l) (placed-new p qs k (rest_place p q qs k at) (λ lt. new (omega (arith, lt))))
