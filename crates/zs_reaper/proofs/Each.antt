-- Reaps, one after the other.
use Rattle.std.proofs.Common.{◌≡◌, ℕ, ◌+◌, ◌<◌, ℤ, List, [], ◌∷◌, ◌++◌, length, take, drop, get_or, refl, sym, ap, ◌∙◌, subst, append_assoc, append-nil}
use Rattle.std.specs.Prelude.{Bool, true, false, ◌||◌, Result, Ok, Err}
use Rattle.std.proofs.lemmas.List.{take-append-drop, take_more}
use Rattle.ev_call.specs.Calls.{Call}
use Rattle.zs_reaper.specs.declared.calling.TurnFault.{TurnFault}
use Rattle.zs_reaper.specs.Calling.{LinkTold, Makes}
use Rattle.zs_reaper.specs.Reaping.{AfterFirst, Reaps, ReapsEach, or_damaged}
use Rattle.zs_reaper.proofs.Making.{made_then, no_calls}

abbrev told : Bool → Result Bool TurnFault
told b = Ok b

ok-is : (a b : Bool) → told a ≡ told b → a ≡ b
ok-is a b e = cc

ok-err : (a : Bool) (f : TurnFault) → Ok a ≡ Err f → ⊥
ok-err a f e = cc

pub or_assoc : (a b c : Bool) → (a || b) || c ≡ a || (b || c)
or_assoc true b c = refl
or_assoc false b c = refl

pub or_none : (a : Bool) → a || false ≡ a
or_none true = refl
or_none false = refl

-- ---- one more

more-others : (m n : ℤ) (ms : List ℤ) (d also damaged : Bool) (cs own mine later : List Call) (others : Result Bool TurnFault)
    → ((rest : Bool) → ReapsEach ms (Ok rest) later → ReapsEach (ms ++ n ∷ []) (Ok (rest || also)) (later ++ own))
    → cs ≡ mine ++ later → Reaps m (Ok damaged) mine → ReapsEach ms others later → Ok d ≡ or_damaged damaged others → ReapsEach (m ∷ (ms ++ n ∷ [])) (Ok (d || also)) (cs ++ own)
more-others m n ms d also damaged cs own mine later (Ok rest) on is one e same = (
  Ok damaged,
  mine,
  later ++ own,
  ap (λ (l : List Call). l ++ own) is ∙ append_assoc mine later own,
  one,
  (Ok (rest || also), on rest e, ap Ok (ap (λ (b : Bool). b || also) (ok-is d (damaged || rest) same) ∙ or_assoc damaged rest also)),
)
more-others m n ms d also damaged cs own mine later (Err f) on is one e same = absurd (ok-err d f same)

more-first : (m n : ℤ) (ms : List ℤ) (d also : Bool) (cs own mine later : List Call) (first : Result Bool TurnFault)
    → ((rest : Bool) → ReapsEach ms (Ok rest) later → ReapsEach (ms ++ n ∷ []) (Ok (rest || also)) (later ++ own))
    → cs ≡ mine ++ later → Reaps m first mine → AfterFirst first (Ok d) later (λ others. ReapsEach ms others later) → ReapsEach (m ∷ (ms ++ n ∷ [])) (Ok (d || also)) (cs ++ own)
more-first m n ms d also cs own mine later (Ok damaged) on is one after = more-others m n ms d also damaged cs own mine later after.0 on is one after.1 after.2
more-first m n ms d also cs own mine later (Err f) on is one after = absurd (ok-err d f after.0)

each-more : (ns : List ℤ) (n : ℤ) (d also : Bool) (cs own : List Call) → ReapsEach ns (Ok d) cs → Reaps n (Ok also) own → ReapsEach (ns ++ n ∷ []) (Ok (d || also)) (cs ++ own)
each-more [] n d also cs own h r = (Ok also, own, [], ap (λ (l : List Call). l ++ own) h.1 ∙ sym (append-nil own), r, (Ok false, (refl, refl), ap Ok (ap (λ (b : Bool). b || also) (ok-is d false h.0) ∙ sym (or_none also))))
each-more (m ∷ ms) n d also cs own h r = more-first m n ms d also cs own h.1 h.2 h.0 (λ rest e. each-more ms n rest also h.2 own e r) h.3 h.4 h.5

cut-others : (m n : ℤ) (ms onward : List ℤ) (d damaged : Bool) (f : TurnFault) (cs own mine later : List Call) (others : Result Bool TurnFault)
    → ((rest : Bool) → ReapsEach ms (Ok rest) later → ReapsEach (ms ++ n ∷ onward) (Err f) (later ++ own))
    → cs ≡ mine ++ later → Reaps m (Ok damaged) mine → ReapsEach ms others later → Ok d ≡ or_damaged damaged others → ReapsEach (m ∷ (ms ++ n ∷ onward)) (Err f) (cs ++ own)
cut-others m n ms onward d damaged f cs own mine later (Ok rest) on is one e same = (
  Ok damaged,
  mine,
  later ++ own,
  ap (λ (l : List Call). l ++ own) is ∙ append_assoc mine later own,
  one,
  (Err f, on rest e, refl),
)
cut-others m n ms onward d damaged f cs own mine later (Err g) on is one e same = absurd (ok-err d g same)

cut-first : (m n : ℤ) (ms onward : List ℤ) (d : Bool) (f : TurnFault) (cs own mine later : List Call) (first : Result Bool TurnFault)
    → ((rest : Bool) → ReapsEach ms (Ok rest) later → ReapsEach (ms ++ n ∷ onward) (Err f) (later ++ own))
    → cs ≡ mine ++ later → Reaps m first mine → AfterFirst first (Ok d) later (λ others. ReapsEach ms others later) → ReapsEach (m ∷ (ms ++ n ∷ onward)) (Err f) (cs ++ own)
cut-first m n ms onward d f cs own mine later (Ok damaged) on is one after = cut-others m n ms onward d damaged f cs own mine later after.0 on is one after.1 after.2
cut-first m n ms onward d f cs own mine later (Err g) on is one after = absurd (ok-err d g after.0)

each-cut : (ns : List ℤ) (n : ℤ) (onward : List ℤ) (d : Bool) (f : TurnFault) (cs own : List Call) → ReapsEach ns (Ok d) cs → Reaps n (Err f) own → ReapsEach (ns ++ n ∷ onward) (Err f) (cs ++ own)
each-cut [] n onward d f cs own h r = (Err f, own, [], ap (λ (l : List Call). l ++ own) h.1 ∙ sym (append-nil own), r, (refl, refl))
each-cut (m ∷ ms) n onward d f cs own h r = cut-first m n ms onward d f cs own h.1 h.2 h.0 (λ rest e. each-cut ms n onward rest f h.2 own e r) h.3 h.4 h.5

-- ---- in the list

next-of : (ns : List ℤ) (at : ℕ) (z : ℤ) → at < length ns → take (at + 1) ns ≡ take at ns ++ get_or ns at z ∷ []
next-of ns at z below = take_more ns at z below

around : (ns : List ℤ) (at : ℕ) (z : ℤ) → at < length ns → ns ≡ take at ns ++ get_or ns at z ∷ drop (at + 1) ns
around ns at z below =
    sym (take-append-drop (at + 1) ns) ∙ ap (λ (l : List ℤ). l ++ drop (at + 1) ns) (next-of ns at z below) ∙ append_assoc (take at ns) (get_or ns at z ∷ []) (drop (at + 1) ns)

pub each_none : (t : LinkTold) → Makes (ReapsEach [] (Ok false)) t t
each_none t = no_calls (ReapsEach [] (Ok false)) t (refl, refl)

pub each_more : (ns : List ℤ) (at : ℕ) (z : ℤ) (d also : Bool) (old mid new : LinkTold) → at < length ns → Makes (ReapsEach (take at ns) (Ok d)) old mid → Makes (Reaps (get_or ns at z) (Ok also)) mid new → Makes (ReapsEach (take (at + 1) ns) (Ok (d || also))) old new
each_more ns at z d also old mid new below m r =
    subst (λ (l : List ℤ). Makes (ReapsEach l (Ok (d || also))) old new) (sym (next-of ns at z below))
    (made_then (ReapsEach (take at ns) (Ok d)) (Reaps (get_or ns at z) (Ok also)) (ReapsEach (take at ns ++ get_or ns at z ∷ []) (Ok (d || also))) old mid new (λ xs ys. each-more (take at ns) (get_or ns at z) d also xs ys) m r)

pub each_cut : (ns : List ℤ) (at : ℕ) (z : ℤ) (d : Bool) (f : TurnFault) (old mid new : LinkTold) → at < length ns → Makes (ReapsEach (take at ns) (Ok d)) old mid → Makes (Reaps (get_or ns at z) (Err f)) mid new → Makes (ReapsEach ns (Err f)) old new
each_cut ns at z d f old mid new below m r =
    subst (λ (l : List ℤ). Makes (ReapsEach l (Err f)) old new) (sym (around ns at z below))
    (made_then (ReapsEach (take at ns) (Ok d)) (Reaps (get_or ns at z) (Err f)) (ReapsEach (take at ns ++ get_or ns at z ∷ drop (at + 1) ns) (Err f)) old mid new (λ xs ys. each-cut (take at ns) (get_or ns at z) (drop (at + 1) ns) d f xs ys) m r)
