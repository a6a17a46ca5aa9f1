-- The counts of paths by their places, and the bits that show which counts are not 0.
use Rattle.std.proofs.Common.{◌≡◌, ◌≢◌, ℕ, zero, suc, ◌+◌, ◌-◌, ◌*◌, ◌/◌, ◌%◌, ◌^◌, ◌<◌, ◌≤◌, length, get_or, set, Bool, true, false, cond, Option, Some, None, List, [], ◌∷◌, refl, sym, ap, ◌∙◌, ⊎_elim, subst, eq-eqb, eqb-true, bit_and, bit_or, w64, arith}
use Rattle.std.specs.Prelude.{◌==◌, min, is_some, nat_lt}
use Rattle.std.specs.Int.{bit_at, bit_not}
use Rattle.std.proofs.lemmas.List.{get_or-set_same, get_or-set_other}
use Rattle.std.proofs.lemmas.Nat.Bits.{bit_at-zero, bit_at_set_same, bit_at_set_other, bit_at_clear_same, bit_at_clear_other}
use Rattle.std.specs.Cmp.Lexicographic.{slice_cmp}
use Rattle.std.specs.Ordering.{nat_cmp}
use Rattle.std.specs.FinMap.{get, insert, remove, retain_keys, len, contains_key, empty, get-empty, len-empty}
use Rattle.zx_base.specs.Maps.{Bytes}
use Rattle.zx_base.proofs.MapLaws.{ext, get-retain, retain-insert_in, retain-insert_out, retain-remove, remove-absent, len-insert_new, len-remove_there, get-none_from_len}
use Rattle.zx_base.proofs.Options.{none-unless_some, there}
use Rattle.zk_model.specs.Watches.{PathSet}
use Rattle.zw_watch.specs.Bits.{place_of, scattered, hashed, count_at, HasEach, IsCounted, IsShown, IsPut, added, taken}

-- ---- no paths

abbrev pub all_zero : List ℕ → Bool
all_zero [] = true
all_zero (x ∷ xs) = cond (x == 0) (all_zero xs) false

both : (b c : Bool) → cond b c false ≡ true → (b ≡ true) × (c ≡ true)
both true c h = (refl, h)
both false c h = absurd cc

pub zero_at : (xs : List ℕ) → all_zero xs ≡ true → (i : ℕ) → get_or xs i 0 ≡ 0
zero_at [] h i = refl
zero_at (x ∷ xs) h zero = eqb-true x 0 (both (x == 0) (all_zero xs) h).0
zero_at (x ∷ xs) h (suc i) = zero_at xs (both (x == 0) (all_zero xs) h).1 i

pub none_shown : (xs : List ℕ) → all_zero xs ≡ true → IsShown xs 0
none_shown xs h i below = bit_at-zero i ∙ sym (ap (min 1) (zero_at xs h i))

pub none_counted : (counts : List ℕ) → ((i : ℕ) → get_or counts i 0 ≡ 0) → IsCounted empty counts
none_counted counts h i below within = h i ∙ sym (ap len (ext (retain_keys empty (λ p. place_of p == i)) empty (λ q.
    get-retain empty (λ p. place_of p == i) q ∙ ap (λ o. cond (place_of q == i) o None) (get-empty (slice_cmp nat_cmp) q) ∙ none (place_of q == i) ∙ sym (get-empty (slice_cmp nat_cmp) q)))
    ∙ len-empty (slice_cmp nat_cmp) (Unit {0}))
  where
    none : (b : Bool) → ◌≡◌ {A = Option (Unit {0})} (cond b None None) None
    none true = refl
    none false = refl

-- ---- one count is put

same_place : (i place : ℕ) → i ≡ place → (i == place) ≡ true
same_place i place e = eq-eqb i place e

other_place : (i place : ℕ) → i ≢ place → (i == place) ≡ false
other_place i place n = elim (i == place) as (λ b. (i == place) ≡ b → b ≡ false) [ true ↦ λ h. absurd (n (eqb-true i place h)) | false ↦ λ h. refl ] refl

either_place : (X : ℕ → Type 0) (i place : ℕ) → X place → (i ≢ place → X i) → X i
either_place X i place here other = elim (i == place) as (λ b. (i == place) ≡ b → X i) [
  | true ↦ λ h. subst X (sym (eqb-true i place h)) here
  | false ↦ λ h. other (λ e. let t = same_place i place e in cc)
] refl

pub put-set : (counts : List ℕ) (place count : ℕ) → place < length counts → IsPut place count counts (set counts place count)
put-set counts place count within i below = either_place
    (λ j. get_or (set counts place count) j 0 ≡ cond (j == place) count (get_or counts j 0)) i place
    (get_or-set_same counts place count 0 within ∙ sym (ap (λ b. cond b count (get_or counts place 0)) (same_place place place refl)))
    (λ n. get_or-set_other counts place i count 0 n ∙ sym (ap (λ b. cond b count (get_or counts i 0)) (other_place i place n)))

pub shown-set : (counts : List ℕ) (bits place count : ℕ) → place < 64 → place < length counts → count ≢ 0 → IsShown counts bits → IsShown (set counts place count) (bit_or bits (1 * 2 ^ place % 2 ^ 64))
shown-set counts bits place count within inside some h i below = either_place
    (λ j. bit_at (bit_or bits (1 * 2 ^ place % 2 ^ 64)) j ≡ min 1 (get_or (set counts place count) j 0)) i place
    (bit_at_set_same w64 bits place within ∙ sym (ap (min 1) (get_or-set_same counts place count 0 inside) ∙ one_of count some))
    (λ n. bit_at_set_other w64 bits place within i n ∙ h i below ∙ sym (ap (min 1) (get_or-set_other counts place i count 0 n)))
  where
    one_of : (c : ℕ) → c ≢ 0 → min 1 c ≡ 1
    one_of zero n = absurd (n refl)
    one_of (suc c) n = omega arith

pub shown-clear : (counts : List ℕ) (bits place : ℕ) → place < 64 → place < length counts → IsShown counts bits → IsShown (set counts place 0) (bit_and bits (bit_not w64 (1 * 2 ^ place % 2 ^ 64)))
shown-clear counts bits place within inside h i below = either_place
    (λ j. bit_at (bit_and bits (bit_not w64 (1 * 2 ^ place % 2 ^ 64))) j ≡ min 1 (get_or (set counts place 0) j 0)) i place
    (bit_at_clear_same w64 bits place within ∙ sym (ap (min 1) (get_or-set_same counts place 0 0 inside)))
    (λ n. bit_at_clear_other w64 bits place within i below n ∙ h i below ∙ sym (ap (min 1) (get_or-set_other counts place i 0 0 n)))

-- ---- a path more, and a path less

get-placed : (s : PathSet) (p : Bytes) → get (retain_keys s (λ q. place_of q == place_of p)) p ≡ get s p
get-placed s p = get-retain s (λ q. place_of q == place_of p) p ∙ ap (λ b. cond b (get s p) None) (same_place (place_of p) (place_of p) refl)

pub counted-added : (s : PathSet) (p : Bytes) (old new : List ℕ) → contains_key s p ≡ false → place_of p < 64 → IsCounted s old → IsPut (place_of p) (added (get_or old (place_of p) 0)) old new → IsCounted (insert s p tt) new
counted-added s p old new gone below h put i within = either_place
    (λ j. j < 64 → get_or new j 0 < 65535 → get_or new j 0 ≡ count_at (insert s p tt) j) i (place_of p)
    (λ inside few.
    let c = get_or old (place_of p) 0 in
    let is : get_or new (place_of p) 0 ≡ min 65535 (c + 1) = put (place_of p) below ∙ ap (λ b. cond b (added c) c) (same_place (place_of p) (place_of p) refl) in
    let grown : count_at (insert s p tt) (place_of p) ≡ count_at s (place_of p) + 1 =
    ap len (retain-insert_in s (λ q. place_of q == place_of p) p tt (same_place (place_of p) (place_of p) refl))
    ∙ len-insert_new (retain_keys s (λ q. place_of q == place_of p)) p tt (get-placed s p ∙ none-unless_some (get s p) gone) in
    let before : c ≡ count_at s (place_of p) = h (place_of p) below (omega (arith, is, few)) in
    omega (arith, is, few, grown, before))
    (λ n inside few.
    let is : get_or new i 0 ≡ get_or old i 0 = put i inside ∙ ap (λ b. cond b (added (get_or old (place_of p) 0)) (get_or old i 0)) (other_place i (place_of p) n) in
    is ∙ h i inside (subst (λ c. c < 65535) is few) ∙ sym (ap len (retain-insert_out s (λ q. place_of q == i) p tt (other_place (place_of p) i (λ e. n (sym e))))))
    within

pub counted-taken : (s : PathSet) (p : Bytes) (old new : List ℕ) → contains_key s p ≡ true → place_of p < 64 → IsCounted s old → IsPut (place_of p) (taken (get_or old (place_of p) 0)) old new → IsCounted (remove s p) new
counted-taken s p old new is_there below h put i within = either_place
    (λ j. j < 64 → get_or new j 0 < 65535 → get_or new j 0 ≡ count_at (remove s p) j) i (place_of p)
    (λ inside few.
    let c = get_or old (place_of p) 0 in
    let is : get_or new (place_of p) 0 ≡ taken c = put (place_of p) below ∙ ap (λ b. cond b (taken c) c) (same_place (place_of p) (place_of p) refl) in
    let shrunk : count_at (remove s p) (place_of p) ≡ count_at s (place_of p) - 1 =
    ap len (retain-remove s (λ q. place_of q == place_of p) p)
    ∙ len-remove_there (retain_keys s (λ q. place_of q == place_of p)) p tt (get-placed s p ∙ there (get s p) is_there) in
    is ∙ less c (subst (λ x. x < 65535) is few) (h (place_of p) below) ∙ sym shrunk)
    (λ n inside few.
    let is : get_or new i 0 ≡ get_or old i 0 = put i inside ∙ ap (λ b. cond b (taken (get_or old (place_of p) 0)) (get_or old i 0)) (other_place i (place_of p) n) in
    let out : get (retain_keys s (λ q. place_of q == i)) p ≡ None =
    get-retain s (λ q. place_of q == i) p ∙ ap (λ b. cond b (get s p) None) (other_place (place_of p) i (λ e. n (sym e))) in
    is ∙ h i inside (subst (λ c. c < 65535) is few) ∙ sym (ap len (retain-remove s (λ q. place_of q == i) p ∙ remove-absent _ p out)))
    within
  where
    less : (c : ℕ) → taken c < 65535 → (c < 65535 → c ≡ count_at s (place_of p)) → taken c ≡ count_at s (place_of p) - 1
    less c few is = elim (nat_lt c 65535) as (λ b. nat_lt c 65535 ≡ b → cond b (c - 1) c < 65535 → cond b (c - 1) c ≡ count_at s (place_of p) - 1) [
      | true ↦ λ e few. ap (λ x. x - 1) (is (grind (arith, e)))
      | false ↦ λ e few. absurd (grind (arith, e, few))
    ] refl few

pub counted-absent : (s : PathSet) (p : Bytes) (counts : List ℕ) → contains_key s p ≡ false → IsCounted s counts → IsCounted (remove s p) counts
counted-absent s p counts gone h = subst (λ (m : PathSet). IsCounted m counts) (sym (remove-absent s p (none-unless_some (get s p) gone))) h

-- ---- a path that is in the set has its bit

pub has_each : (s : PathSet) (counts : List ℕ) (bits : ℕ) → ((p : Bytes) → place_of p < 64) → IsCounted s counts → IsShown counts bits → HasEach s bits
has_each s counts bits below h shown p is_there =
    let c = get_or counts (place_of p) 0 in
    shown (place_of p) (below p) ∙ one_of c (λ none.
    let counted : c ≡ count_at s (place_of p) = h (place_of p) (below p) (omega (arith, none)) in
    let gone : get s p ≡ None = sym (get-placed s p) ∙ get-none_from_len (retain_keys s (λ q. place_of q == place_of p)) p (sym counted ∙ none) in
    let is : is_some (get s p) ≡ false = ap is_some gone in
    cc)
  where
    one_of : (c : ℕ) → c ≢ 0 → min 1 c ≡ 1
    one_of zero n = absurd (n refl)
    one_of (suc c) n = omega arith
