-- Packets that are the front of a queue, packet by packet.
use Rattle.std.proofs.Common.{◌≡◌, ◌≢◌, ℕ, suc, ◌+◌, ◌-◌, ◌<◌, Bool, true, false, ◌&&◌, List, [], ◌∷◌, length, take, drop, refl, ap, sym, ◌∙◌, arith}
use Rattle.std.specs.Prelude.{◌==◌, bytes_eq, get_or, nat_le}
use Rattle.std.proofs.lemmas.Bool.Decides.{nat_tests}
use Rattle.std.proofs.lemmas.List.{at_drop_more, length-drop, take_all}
use Rattle.zk_transcript.specs.Walks.{Due}
use Rattle.zk_least.specs.LeastQueues.{is_apart, is_front}

-- the packet is the one that is due, and stands where it may
abbrev pub is_due : Due → Due → Bool
is_due d p = nat_le d.0 p.0 && bytes_eq d.1 p.1

refused : (a b c : Bool) → (a && b) ≡ false → (a && b && c) ≡ false
refused true true c e = absurd (cc)
refused true false c e = refl
refused false b c e = refl

given : (a b c : Bool) → (a && b) ≡ true → (a && b && c) ≡ c
given true true c e = refl
given true false c e = absurd (cc)
given false b c e = absurd (cc)

pub front-refused : (d p : Due) (ds ps : List Due) → is_due d p ≡ false → is_front (p ∷ ps) (d ∷ ds) ≡ false
front-refused d p ds [] not = refused (nat_le d.0 p.0) (bytes_eq d.1 p.1) (is_apart d ds) not
front-refused d p ds (q ∷ ps) not = refused (nat_le d.0 p.0) (bytes_eq d.1 p.1) (is_front (q ∷ ps) ds) not

pub front-last : (d p : Due) (ds ps : List Due) → length ps ≡ 0 → is_due d p ≡ true → is_front (p ∷ ps) (d ∷ ds) ≡ is_apart d ds
front-last d p ds [] last is = given (nat_le d.0 p.0) (bytes_eq d.1 p.1) (is_apart d ds) is
front-last d p ds (q ∷ ps) last is = absurd (cc)

pub front-more : (d p : Due) (ds ps : List Due) → length ps ≢ 0 → is_due d p ≡ true → is_front (p ∷ ps) (d ∷ ds) ≡ is_front ps ds
front-more d p ds [] more is = absurd (more refl)
front-more d p ds (q ∷ ps) more is = given (nat_le d.0 p.0) (bytes_eq d.1 p.1) (is_front (q ∷ ps) ds) is

not-empty : (n : ℕ) → (suc n == 0) ≡ false
not-empty n = grind (arith, nat_tests)

pub front-over : (ps : List Due) → is_front ps [] ≡ (length ps == 0)
front-over [] = refl
front-over (p ∷ ps) = sym (not-empty (length ps))

-- the packet at the head of those that are left is compared with the entry at a place of the queue
pub next-due : (b : Bool) (queue qs ps : List Due) (at : ℕ) (d p : Due) → b ≡ is_front qs (drop at queue) → qs ≡ p ∷ ps → at < length queue → d ≡ get_or queue at d
    → b ≡ is_front (p ∷ ps) (d ∷ drop (at + 1) queue)
next-due b queue qs ps at d p is first more here =
    is ∙ ap (λ (xs : List Due). is_front xs (drop at queue)) first ∙ at_drop_more (is_front (p ∷ ps)) queue at d more ∙ ap (λ (e : Due). is_front (p ∷ ps) (e ∷ drop (at + 1) queue)) (sym here)

-- the entries after the one at a place, as a slice to the end has them
pub later : (ds : List Due) (k : ℕ) → take (length ds - k) (drop k ds) ≡ drop k ds
later ds k = take_all _ _ (omega (arith, length-drop k ds))
