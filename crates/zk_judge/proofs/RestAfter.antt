-- Packets that come first.
use Rattle.std.proofs.Common.{◌≡◌, ℕ, zero, suc, ◌+◌, ◌<◌, ◌≤◌, ap, sym, ◌∙◌, drop, Bool, true, false, ◌&&◌, List, [], ◌∷◌, length, length-drop, Option, Some, None, refl, arith}
use Rattle.std.specs.Prelude.{nat_le, bytes_eq, if◌then◌else◌}
use Rattle.zk_transcript.specs.Walks.{Due}
use Rattle.zk_least.specs.LeastWalk.{rest_after}

either-none : (b : Bool) (o : Option (List Due)) → o ≡ None → (if b then o else None) ≡ None
either-none true o none = none
either-none false o none = refl

-- fewer packets are left than are due
pub rest_after-short : (ds ps : List Due) → length ps < length ds → rest_after ds ps ≡ None
rest_after-short [] ps less = absurd (omega arith)
rest_after-short (d ∷ ds) [] less = refl
rest_after-short (d ∷ ds) (p ∷ ps) less = either-none (nat_le d.0 p.0 && bytes_eq d.1 p.1) (rest_after ds ps) (rest_after-short ds ps (omega arith))

-- packet by packet
pub rest_after-refused : (d p : Due) (ds ps : List Due) → (nat_le d.0 p.0 && bytes_eq d.1 p.1) ≡ false → rest_after (d ∷ ds) (p ∷ ps) ≡ None
rest_after-refused d p ds ps not = ap (λ (b : Bool). if b then rest_after ds ps else None) not

pub rest_after-given : (d p : Due) (ds ps : List Due) → (nat_le d.0 p.0 && bytes_eq d.1 p.1) ≡ true → rest_after (d ∷ ds) (p ∷ ps) ≡ rest_after ds ps
rest_after-given d p ds ps due = ap (λ (b : Bool). if b then rest_after ds ps else None) due

-- how many packets are left after those that were due
pub rest_after-length : (ds ps rest : List Due) → rest_after ds ps ≡ Some rest → length ds + length rest ≡ length ps
rest_after-length [] ps rest h = (let e : ps ≡ rest = cc in omega (arith, ap (λ (l : List Due). length l) e))
rest_after-length (d ∷ ds) [] rest h = absurd (cc)
rest_after-length (d ∷ ds) (p ∷ ps) rest h = by (nat_le d.0 p.0 && bytes_eq d.1 p.1) (rest_after-length ds ps rest) h
  where
    by : (b : Bool) → (rest_after ds ps ≡ Some rest → length ds + length rest ≡ length ps) → (if b then rest_after ds ps else None) ≡ Some rest → length (d ∷ ds) + length rest ≡ length (p ∷ ps)
    by true later e = omega (arith, later e)
    by false later e = absurd (cc)

drop-nil : (k : ℕ) → drop {A = Due} k [] ≡ []
drop-nil zero = refl
drop-nil (suc k) = refl

pub drop-both : (a b : ℕ) (ps : List Due) → drop b (drop a ps) ≡ drop (a + b) ps
drop-both zero b ps = let e : b ≡ 0 + b = omega arith in ap (λ k. drop k ps) e
drop-both (suc a) b [] = drop-nil b ∙ sym (drop-nil (suc a + b))
drop-both (suc a) b (p ∷ ps) = let e : suc (a + b) ≡ suc a + b = omega arith in drop-both a b ps ∙ ap (λ k. drop k (p ∷ ps)) e

-- one packet on
pub drop-next : (ps qs : List Due) (i : ℕ) (p : Due) → p ∷ qs ≡ drop i ps → qs ≡ drop (i + 1) ps
drop-next ps qs i p is = ap (drop {A = Due} 1) is ∙ drop-both i 1 ps

pub next-within : (ps qs : List Due) (i : ℕ) (p : Due) → i ≤ length ps → p ∷ qs ≡ drop i ps → i + 1 ≤ length ps
next-within ps qs i p within is = omega (arith, within, ap (λ (l : List Due). length l) is, length-drop i ps)
