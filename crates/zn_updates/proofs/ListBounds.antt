-- The list of a session's nodes keeps its bounds where a path comes or goes.
use Rattle.std.proofs.Common.{◌≡◌, ◌+◌, ◌<◌, ◌≤◌, ◌^◌, ◌-◌, not, List, [], ◌∷◌, length, refl, ap, ◌∙◌, arith}
use Rattle.std.specs.Prelude.{All, IsTrue}
use Rattle.std.specs.List.{AllByRecursion}
use Rattle.std.specs.List.Sorted.{IsStrictlySortedBy}
use Rattle.std.specs.Ordering.{nat_cmp}
use Rattle.std.specs.Cmp.Lexicographic.{slice_cmp, nat_list_cmp_total}
use Rattle.std.specs.Ordering.{ordering_reverse}
use Rattle.std.specs.declared.cmp.Ordering.{Ordering}
use Rattle.std.specs.declared.cmp.Ordering.TheVariants.{Less, Equal, Greater}
use Rattle.std.specs.FinMap.Entries.{by_order}
use Rattle.std.proofs.lemmas.List.Elements.{All-cons, All-head, All-tail, All-filter}
use Rattle.std.proofs.lemmas.List.Kept.{IsStrictlySortedBy-filter}
use Rattle.std.proofs.lemmas.Map.Keys.{sorted_head, sorted_tail}
use Rattle.zk_model.specs.Paths.{is_path}
use Rattle.zx_base.specs.Maps.{Bytes, same}
use Rattle.zn_layout.specs.Records.{ArePaths}
use Rattle.zn_updates.specs.OwnedLists.{placed, without}
use Rattle.zx_base.proofs.Lists.{filter-length}

abbrev order : Bytes → Bytes → Ordering
order = slice_cmp nat_cmp

placed-valid : (p : Bytes) (ps : List Bytes) → IsTrue (is_path p) → All (λ q. IsTrue (is_path q)) ps → All (λ q. IsTrue (is_path q)) (placed p ps)
placed-valid p [] valid all = All-cons (λ q. IsTrue (is_path q)) p [] valid all
placed-valid p (q ∷ qs) valid all =
    elim (order p q) as (λ o. All (λ q. IsTrue (is_path q)) (by_order o (p ∷ q ∷ qs) (q ∷ qs) (q ∷ placed p qs))) [
      | Less ↦ All-cons (λ q. IsTrue (is_path q)) p (q ∷ qs) valid all
      | Equal ↦ all
      | Greater ↦ All-cons (λ q. IsTrue (is_path q)) q (placed p qs) (All-head (λ q. IsTrue (is_path q)) q qs all) (placed-valid p qs valid (All-tail (λ q. IsTrue (is_path q)) q qs all))
    ]

pub placed-length : (p : Bytes) (ps : List Bytes) → length (placed p ps) ≤ length ps + 1
placed-length p [] = omega arith
placed-length p (q ∷ qs) = elim (order p q) as (λ o. length (by_order o (p ∷ q ∷ qs) (q ∷ qs) (q ∷ placed p qs)) ≤ length (q ∷ qs) + 1) [
  | Less ↦ omega arith
  | Equal ↦ omega arith
  | Greater ↦ let h = placed-length p qs in omega (arith, h)
]

-- ---- in order

abbrev Above : Bytes → List Bytes → Type 0
Above q ps = AllByRecursion (λ r. order q r ≡ Less) ps

above-through : (p q : Bytes) (ps : List Bytes) → order p q ≡ Less → Above q ps → Above p ps
above-through p q [] less h = tt
above-through p q (r ∷ rs) less h = (nat_list_cmp_total.trans p q r less h.0, above-through p q rs less h.1)

above-placed : (q p : Bytes) (ps : List Bytes) → order q p ≡ Less → Above q ps → Above q (placed p ps)
above-placed q p [] less h = (less, tt)
above-placed q p (r ∷ rs) less h = elim (order p r) as (λ o. Above q (by_order o (p ∷ r ∷ rs) (r ∷ rs) (r ∷ placed p rs))) [
  | Less ↦ (less, h)
  | Equal ↦ h
  | Greater ↦ (h.0, above-placed q p rs less h.1)
]

rising-cons : (q : Bytes) (qs : List Bytes) → Above q qs → IsStrictlySortedBy order qs → IsStrictlySortedBy order (q ∷ qs)
unfolding IsStrictlySortedBy
rising-cons q qs above rising = (above, rising)

greater_back : (p q : Bytes) → order p q ≡ Greater → order q p ≡ Less
greater_back p q e = nat_list_cmp_total.antisymm q p ∙ ap ordering_reverse e

placed-rising : (p : Bytes) (ps : List Bytes) → IsStrictlySortedBy order ps → IsStrictlySortedBy order (placed p ps)
placed-rising p [] rising = rising-cons p [] tt rising
placed-rising p (q ∷ qs) rising =
    let above = sorted_head order q qs rising in
    let rest = sorted_tail order q qs rising in
    elim (order p q) as (λ o. order p q ≡ o → IsStrictlySortedBy order (by_order o (p ∷ q ∷ qs) (q ∷ qs) (q ∷ placed p qs))) [
      | Less ↦ λ e. rising-cons p (q ∷ qs) (e, above-through p q qs e above) rising
      | Equal ↦ λ e. rising
      | Greater ↦ λ e. rising-cons q (placed p qs) (above-placed q p qs (greater_back p q e) above) (placed-rising p qs rest)
    ] refl

-- ---- all bounds

pub placed-within : (p : Bytes) (ps : List Bytes) → IsTrue (is_path p) → length ps < 2 ^ 31 - 1 → ArePaths ps → ArePaths (placed p ps)
placed-within p ps valid few within = record {
  count = let h = placed-length p ps in omega (arith, h, few);
  valid = placed-valid p ps valid within.valid;
  rising = placed-rising p ps within.rising;
}

pub without-length : (p : Bytes) (ps : List Bytes) → length (without p ps) ≤ length ps
without-length p ps = filter-length (λ q. not (same p q)) ps

pub without-within : (p : Bytes) (ps : List Bytes) → ArePaths ps → ArePaths (without p ps)
without-within p ps within = record {
  count = let h = without-length p ps in let few = within.count in omega (arith, h, few);
  valid = All-filter (λ q. not (same p q)) (λ q. IsTrue (is_path q)) ps within.valid;
  rising = IsStrictlySortedBy-filter order (λ q. not (same p q)) ps within.rising;
}
