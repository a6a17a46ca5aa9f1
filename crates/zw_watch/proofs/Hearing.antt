-- A change that gives a notice has a bit in common with the bits of what is armed.
use Rattle.std.proofs.Common.{◌≡◌, ◌≢◌, ℕ, zero, suc, ◌+◌, ◌-◌, ◌*◌, ◌/◌, ◌%◌, ◌^◌, ◌<◌, ◌≤◌, length, drop, get_or, Bool, true, false, ◌||◌, cond, List, [], ◌∷◌, refl, sym, ap, ◌∙◌, subst, bit_and, bit_or, ◌⊎◌, inl, inr, ⊎_elim, arith}
use Rattle.std.specs.Prelude.{min, max}
use Rattle.std.specs.Int.{bit_at}
use Rattle.std.specs.Int.RustNames.{bit_xor}
use Rattle.std.proofs.lemmas.List.{at_drop_more, at_drop_all}
use Rattle.std.proofs.lemmas.Nat.{div-add-mod'}
use Rattle.std.proofs.lemmas.Nat.Bits.{bit_at-zero, bit_at-pow_same, bit_at_and, bit_at_or, bit_at_cat_low, bit_at_cat_high, bit_at-lt, bit_at_ones}
use Rattle.std.specs.FinMap.{contains_key}
use Rattle.zx_base.specs.Maps.{Bytes}
use Rattle.zk_model.specs.declared.node.Trigger.{Trigger}
use Rattle.zk_model.specs.declared.node.Trigger.TheVariants.{Created, Deleted, Changed, Children}
use Rattle.zk_model.specs.Watches.{Watches, fire, note}
use Rattle.zw_watch.specs.Bits.{hashed, scattered, place_of, across, trigger_bits, with_bits, HasEach, IsHeard}

-- ---- as loops go through bytes and changes

pub hashed-next : (h : ℕ) (xs : Bytes) (i b : ℕ) → i < length xs → b ≡ get_or xs i 0 → hashed (bit_xor h b * 1099511628211 % 2 ^ 64) (drop (i + 1) xs) ≡ hashed h (drop i xs)
unfolding hashed
hashed-next h xs i b within is = sym (
    at_drop_more (hashed h) xs i 0 within
    ∙ ap (λ (x : ℕ). hashed (bit_xor h x * 1099511628211 % 2 ^ 64) (drop (i + 1) xs)) (sym is))

pub hashed-done : (h : ℕ) (xs : Bytes) (i : ℕ) → length xs ≤ i → h ≡ hashed h (drop i xs)
unfolding hashed
hashed-done h xs i past = sym (at_drop_all (hashed h) xs i past)

pub with_bits-next : (bits next : ℕ) (ts : List Trigger) (i : ℕ) (t : Trigger) → i < length ts → t ≡ get_or ts i t → next ≡ bit_or bits (trigger_bits t) → with_bits next (drop (i + 1) ts) ≡ with_bits bits (drop i ts)
unfolding with_bits
with_bits-next bits next ts i t within is steps = sym (
    at_drop_more (with_bits bits) ts i t within
    ∙ ap (λ (x : Trigger). with_bits (bit_or bits (trigger_bits x)) (drop (i + 1) ts)) (sym is)
    ∙ ap (λ (x : ℕ). with_bits x (drop (i + 1) ts)) (sym steps))

pub with_bits-done : (bits : ℕ) (ts : List Trigger) (i : ℕ) → length ts ≤ i → bits ≡ with_bits bits (drop i ts)
unfolding with_bits
with_bits-done bits ts i past = sym (at_drop_all (with_bits bits) ts i past)

-- ---- places

pub place-below : (p : Bytes) → place_of p < 64
unfolding scattered
place-below p = omega arith

-- ---- the bits of child watches

low : (n : ℕ) → n % 2 ^ 32 < 2 ^ 32
low n = omega arith

pub across-bit : (bits i : ℕ) → bits < 2 ^ 64 → i < 64 → bit_at (bits % 4294967296 * 4294967296 + bits / 4294967296) (across i) ≡ bit_at bits i
across-bit bits i within below =
    let whole : bits / 2 ^ 32 * 2 ^ 32 + bits % 2 ^ 32 ≡ bits = div-add-mod' bits (2 ^ 32) in
    let high : bits / 2 ^ 32 < 2 ^ 32 = omega (arith, within) in
    ⊎_elim
    (λ (h : i < 32).
    let is : across i ≡ i + 32 = omega (arith, h) in
    let back : i + 32 - 32 ≡ i = omega arith in
    ap (bit_at (bits % 2 ^ 32 * 2 ^ 32 + bits / 2 ^ 32)) is
    ∙ bit_at_cat_high (bits % 2 ^ 32) 32 (bits / 2 ^ 32) (i + 32) high (omega arith)
    ∙ ap (bit_at (bits % 2 ^ 32)) back
    ∙ sym (bit_at_cat_low (bits / 2 ^ 32) 32 (bits % 2 ^ 32) i h)
    ∙ ap (λ n. bit_at n i) whole)
    (λ (h : 32 ≤ i).
    let is : across i ≡ i - 32 = omega (arith, h, below) in
    ap (bit_at (bits % 2 ^ 32 * 2 ^ 32 + bits / 2 ^ 32)) is
    ∙ bit_at_cat_low (bits % 2 ^ 32) 32 (bits / 2 ^ 32) (i - 32) (omega (arith, h, below))
    ∙ sym (bit_at_cat_high (bits / 2 ^ 32) 32 (bits % 2 ^ 32) i (low bits) h)
    ∙ ap (λ n. bit_at n i) whole)
    (side i)
  where
    side : (i : ℕ) → (i < 32) ⊎ (32 ≤ i)
    side i = grind arith

-- ---- bits in common

share : (a b i : ℕ) → bit_at a i ≡ 1 → bit_at b i ≡ 1 → bit_and a b ≢ 0
share a b i one two none =
    let is : bit_at (bit_and a b) i ≡ 1 = bit_at_and a b i ∙ ap (λ x. min x (bit_at b i)) one ∙ ap (min 1) two in
    let not : bit_at (bit_and a b) i ≡ 0 = ap (λ n. bit_at n i) none ∙ bit_at-zero i in
    omega (arith, is, not)

or_first : (a b i : ℕ) → bit_at a i ≡ 1 → bit_at (bit_or a b) i ≡ 1
or_first a b i one = let below = bit_at-lt b i in bit_at_or a b i ∙ ap (λ x. max x (bit_at b i)) one ∙ omega (arith, below)

or_second : (a b i : ℕ) → bit_at b i ≡ 1 → bit_at (bit_or a b) i ≡ 1
or_second a b i one = let below = bit_at-lt a i in bit_at_or a b i ∙ ap (max (bit_at a i)) one ∙ omega (arith, below)

noted : (b : Bool) (kind : ℕ) (p : Bytes) → note b kind p ≢ [] → b ≡ true
noted true kind p some = refl
noted false kind p some = absurd (some refl)

either_of : (a b : Bool) → (a || b) ≡ true → (a ≡ true) ⊎ (b ≡ true)
either_of true b h = inl refl
either_of false b h = inr h

module _ (w : Watches) (direct children turned : ℕ) (on_data : HasEach w.on_data direct) (on_children : HasEach w.on_children children)
    (turns : (i : ℕ) → i < 64 → bit_at turned (across i) ≡ bit_at children i) where
  by_data : (p : Bytes) → contains_key w.on_data p ≡ true → bit_at (bit_or direct turned) (place_of p) ≡ 1
  by_data p is = or_first direct turned (place_of p) (on_data p is)

  by_children : (p : Bytes) → contains_key w.on_children p ≡ true → bit_at (bit_or direct turned) (across (place_of p)) ≡ 1
  by_children p is = or_second direct turned (across (place_of p)) (turns (place_of p) (place-below p) ∙ on_children p is)

  pub heard : IsHeard w (bit_or direct turned)
  heard (Created p) some = share _ _ (place_of p) (by_data p (noted _ 1 p some)) (bit_at-pow_same (place_of p))
  heard (Changed p) some = share _ _ (place_of p) (by_data p (noted _ 3 p some)) (bit_at-pow_same (place_of p))
  heard (Children p) some = share _ _ (across (place_of p)) (by_children p (noted _ 4 p some)) (bit_at-pow_same (across (place_of p)))
  heard (Deleted p) some = ⊎_elim
      (λ (is : contains_key w.on_data p ≡ true). share _ _ (place_of p) (by_data p is) (or_first (2 ^ place_of p) (2 ^ across (place_of p)) (place_of p) (bit_at-pow_same (place_of p))))
      (λ (is : contains_key w.on_children p ≡ true). share _ _ (across (place_of p)) (by_children p is) (or_second (2 ^ place_of p) (2 ^ across (place_of p)) (across (place_of p)) (bit_at-pow_same (across (place_of p)))))
      (either_of (contains_key w.on_data p) (contains_key w.on_children p) (noted _ 2 p some))

-- all bits
pub heard-by_all : (w : Watches) → IsHeard w (2 ^ 64 - 1)
heard-by_all w t some = share _ _ (a_place t) (bit_at_ones 64 (a_place t) (a_place-below t)) (a_place-set t)
  where
    a_place : Trigger → ℕ
    a_place (Created p) = place_of p
    a_place (Deleted p) = place_of p
    a_place (Changed p) = place_of p
    a_place (Children p) = across (place_of p)

    a_place-below : (t : Trigger) → a_place t < 64
    a_place-below (Created p) = place-below p
    a_place-below (Deleted p) = place-below p
    a_place-below (Changed p) = place-below p
    a_place-below (Children p) = omega arith

    a_place-set : (t : Trigger) → bit_at (trigger_bits t) (a_place t) ≡ 1
    a_place-set (Created p) = bit_at-pow_same (place_of p)
    a_place-set (Deleted p) = or_first (2 ^ place_of p) (2 ^ across (place_of p)) (place_of p) (bit_at-pow_same (place_of p))
    a_place-set (Changed p) = bit_at-pow_same (place_of p)
    a_place-set (Children p) = bit_at-pow_same (across (place_of p))
