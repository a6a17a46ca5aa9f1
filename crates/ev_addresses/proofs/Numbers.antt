-- The addresses of a text, by their number.
use Rattle.std.proofs.Common.{◌≡◌, ◌∙◌, ℕ, zero, suc, ◌<◌, ◌≤◌, ◌==◌, Bool, true, false, List, [], ◌∷◌, length, refl, sym, ap, subst, arith}
use Rattle.std.specs.Prelude.{All, Some, None, cond, filter, slice_get, unwrap_or}
use Rattle.std.specs.List.{onto_first, slice_split}
use Rattle.std.proofs.lemmas.List.{length-take}
use Rattle.std.proofs.lemmas.Bool.Decides.{nat_tests}
use Rattle.std.proofs.lemmas.List.Elements.{All-cons, All-head, All-nil, All-tail, All-take}
use Rattle.ev_call.specs.Addresses.{IsAddress}
use Rattle.ev_addresses.specs.Lists.{addresses_in, is_part, local, named_in, or_local}

-- ---- each of them can be dialled

abbrev IsVisible : ℕ → Type 0
IsVisible b = (33 ≤ b) × (b ≤ 126)

abbrev AreVisible : List ℕ → Type 0
AreVisible part = All IsVisible part

onto : (b : ℕ) (parts : List (List ℕ)) → IsVisible b → All AreVisible parts → All AreVisible (onto_first b parts)
onto b [] h all = All-cons AreVisible (b ∷ []) [] (All-cons IsVisible b [] h (All-nil IsVisible)) (All-nil AreVisible)
onto b (part ∷ parts) h all = All-cons AreVisible (b ∷ part) parts (All-cons IsVisible b part h (All-head AreVisible part parts all)) (All-tail AreVisible part parts all)

next : (c : Bool) (b : ℕ) (parts : List (List ℕ)) → IsVisible b → All AreVisible parts → All AreVisible (cond c ([] ∷ parts) (onto_first b parts))
next true b parts h all = All-cons AreVisible [] parts (All-nil IsVisible) all
next false b parts h all = onto b parts h all

split : (text : List ℕ) → All IsVisible text → All AreVisible (slice_split (λ b. b == 44) text)
split [] h = All-cons AreVisible [] [] (All-nil IsVisible) (All-nil AreVisible)
split (b ∷ text) h = next (b == 44) b (slice_split (λ x. x == 44) text) (All-head IsVisible b text h) (split text (All-tail IsVisible b text h))

-- the parts that are kept, each with both facts
kept : (b : Bool) (part : List ℕ) (parts : List (List ℕ)) → is_part part ≡ b → AreVisible part → All IsAddress parts → All IsAddress (cond b (part ∷ parts) parts)
kept true part parts some h all = All-cons IsAddress part parts (let lt : 0 < length part = grind (arith, nat_tests, some) in lt, h) all
kept false part parts some h all = all

filtered : (parts : List (List ℕ)) → All AreVisible parts → All IsAddress (filter is_part parts)
filtered [] h = All-nil IsAddress
filtered (part ∷ parts) h = kept (is_part part) part (filter is_part parts) refl (All-head AreVisible part parts h) (filtered parts (All-tail AreVisible part parts h))

are_addresses : (text : List ℕ) → IsAddress text → All IsAddress (named_in text)
are_addresses text h = All-take IsAddress 5 (filter is_part (slice_split (λ b. b == 44) text)) (filtered (slice_split (λ b. b == 44) text) (split text h.1))

found : {X : Type 0} (P : X → Type 0) (xs : List X) (i : ℕ) (x : X) → All P xs → slice_get xs i ≡ Some x → P x
found P [] i x all h = absurd (cc)
found P (y ∷ ys) zero x all h = subst P (ap (λ o. unwrap_or o y) h) (All-head P y ys all)
found P (y ∷ ys) (suc i) x all h = found P ys i x (All-tail P y ys all) h

pub can_dial : (text : List ℕ) (i : ℕ) (address : List ℕ) → IsAddress text → Some address ≡ slice_get (named_in text) i → IsAddress address
can_dial text i address h is = found IsAddress (named_in text) i address (are_addresses text h) (sym is)

-- ---- by their number

one_found : (named : List (List ℕ)) (i : ℕ) (address : List ℕ) → slice_get named i ≡ Some address → address ≡ unwrap_or (slice_get (or_local named) i) local
one_found [] i address h = absurd (cc)
one_found (a ∷ more) i address h = ap (λ o. unwrap_or o local) (sym h)

pub is_named : (text : List ℕ) (i : ℕ) (address : List ℕ) → Some address ≡ slice_get (named_in text) i → address ≡ unwrap_or (slice_get (addresses_in text) i) local
is_named text i address h = one_found (named_in text) i address (sym h)

none_found : (named : List (List ℕ)) (i : ℕ) → slice_get named i ≡ None → local ≡ unwrap_or (slice_get (or_local named) i) local
none_found [] zero h = refl
none_found [] (suc i) h = refl
none_found (a ∷ more) i h = ap (λ o. unwrap_or o local) (sym h)

pub is_local : (text : List ℕ) (i : ℕ) → None ≡ slice_get (named_in text) i → local ≡ unwrap_or (slice_get (addresses_in text) i) local
is_local text i h = none_found (named_in text) i (sym h)

-- ---- how many they are

none_counted : (named : List (List ℕ)) → 0 ≡ length named → 1 ≡ length (or_local named)
none_counted [] h = refl
none_counted (a ∷ more) h = absurd (omega (arith, h))

pub one_where_none : (text : List ℕ) (n : ℕ) → n ≡ length (named_in text) → n ≡ 0 → 1 ≡ length (addresses_in text)
one_where_none text n is none = none_counted (named_in text) (sym none ∙ is)

some_counted : (named : List (List ℕ)) → (length named ≡ 0 → ⊥) → length named ≡ length (or_local named)
some_counted [] h = absurd (h refl)
some_counted (a ∷ more) h = refl

pub as_named : (text : List ℕ) (n : ℕ) → n ≡ length (named_in text) → (n ≡ 0 → ⊥) → n ≡ length (addresses_in text)
as_named text n is some = is ∙ some_counted (named_in text) (λ none. some (is ∙ none))

some_listed : (named : List (List ℕ)) → 0 < length (or_local named)
some_listed [] = omega arith
some_listed (a ∷ more) = omega arith

pub are_some : (text : List ℕ) → 0 < length (addresses_in text)
are_some text = some_listed (named_in text)

pub few : (text : List ℕ) (n : ℕ) → n ≡ length (named_in text) → n ≤ 5
few text n is = let t = length-take 5 (filter is_part (slice_split (λ b. b == 44) text)) in omega (arith, is, t)
