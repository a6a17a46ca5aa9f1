-- Paths each of which stands before the next.
use Rattle.std.proofs.Common.{◌≡◌, ℕ, zero, suc, ◌+◌, ◌-◌, ◌<◌, ◌≤◌, true, false, List, [], ◌∷◌, length, get_or, ⊎_elim, sym, ap, ◌∙◌, arith}
use Rattle.std.specs.List.Sorted.{IsStrictlySortedBy}
use Rattle.std.specs.Ordering.{nat_cmp, is_lt}
use Rattle.std.specs.Cmp.Lexicographic.{slice_cmp, nat_list_cmp_total}
use Rattle.std.specs.declared.cmp.Ordering.TheVariants.{Less}
use Rattle.std.proofs.lemmas.Bool.{cases_lt}
use Rattle.std.proofs.lemmas.List.{get_or_default}
use Rattle.std.proofs.lemmas.Map.Keys.{sorted_from_all_adjacent}
use Rattle.ev_types.specs.Ranges.{comes_before}
use Rattle.zx_base.specs.Maps.{Bytes}
use Rattle.zx_base.proofs.Orders.{less-from_is_lt}

-- each stands before the next, below an index
abbrev pub AreRisingTo : ℕ → List Bytes → Type 0
AreRisingTo i ps = (k : ℕ) → k + 1 < i → slice_cmp nat_cmp (get_or ps k []) (get_or ps (k + 1) []) ≡ Less

-- two neighbours, as code reads them
neighbours : (ps : List Bytes) (i : ℕ) (p q : Bytes) → 1 ≤ i → i < length ps → p ≡ get_or ps (i - 1) p → q ≡ get_or ps i q → (p ≡ get_or ps (i - 1) []) × (q ≡ get_or ps i [])
neighbours ps i p q low high left right = (left ∙ get_or_default ps (i - 1) p [] (omega arith), right ∙ get_or_default ps i q [] high)

pub rising-more : (ps : List Bytes) (i : ℕ) (p q : Bytes) → 1 ≤ i → i < length ps → p ≡ get_or ps (i - 1) p → q ≡ get_or ps i q → comes_before p q ≡ true → AreRisingTo i ps → AreRisingTo (i + 1) ps
rising-more ps i p q low high left right before so_far k lt = ⊎_elim
    (λ near. so_far k near)
    (λ far.
    let at = neighbours ps i p q low high left right in
    let here : k ≡ i - 1 = omega arith in
    let next : k + 1 ≡ i = omega arith in
    (λ j. slice_cmp nat_cmp (get_or ps (here j) []) (get_or ps (next j) [])) ∙ (λ j. slice_cmp nat_cmp (sym at.0 j) (sym at.1 j)) ∙ less-from_is_lt (slice_cmp nat_cmp p q) before)
    (cases_lt (k + 1) i)

pub rising-sorted : (ps : List Bytes) (i : ℕ) → length ps ≤ i → AreRisingTo i ps → IsStrictlySortedBy (slice_cmp nat_cmp) ps
rising-sorted ps i le rising = sorted_from_all_adjacent nat_list_cmp_total ps [] (λ k lt. rising k (omega arith))

pub sorted-rising : (ps : List Bytes) → IsStrictlySortedBy (slice_cmp nat_cmp) ps → AreRisingTo (length ps) ps
unfolding IsStrictlySortedBy
sorted-rising [] h k lt = absurd (omega arith)
sorted-rising (p ∷ []) h k lt = absurd (omega arith)
sorted-rising (p ∷ q ∷ ps) h zero lt = h.0.0
sorted-rising (p ∷ q ∷ ps) h (suc k) lt =
    let e : suc k + 1 ≡ suc (k + 1) = omega arith in
    ap (λ n. slice_cmp nat_cmp (get_or (q ∷ ps) k []) (get_or (p ∷ q ∷ ps) n [])) e ∙ sorted-rising (q ∷ ps) h.1 k (omega arith)

pub not_sorted : (ps : List Bytes) (i : ℕ) (p q : Bytes) → 1 ≤ i → i < length ps → p ≡ get_or ps (i - 1) p → q ≡ get_or ps i q → comes_before p q ≡ false → IsStrictlySortedBy (slice_cmp nat_cmp) ps → ⊥
not_sorted ps i p q low high left right before sorted =
    let at = neighbours ps i p q low high left right in
    let next : i - 1 + 1 ≡ i = omega arith in
    let less_there : slice_cmp nat_cmp (get_or ps (i - 1) []) (get_or ps (i - 1 + 1) []) ≡ Less = sorted-rising ps sorted (i - 1) (omega arith) in
    let is_less : slice_cmp nat_cmp p q ≡ Less = (λ j. slice_cmp nat_cmp (at.0 j) (at.1 j)) ∙ ap (λ n. slice_cmp nat_cmp (get_or ps (i - 1) []) (get_or ps n [])) (sym next) ∙ less_there in
    let t : comes_before p q ≡ true = ap is_lt is_less in
    cc
