-- One more item of a list, by what is given or kept of it.
use Rattle.std.proofs.Common.{◌≡◌, ℕ, zero, suc, ◌+◌, ◌<◌, ◌≤◌, arith, Bool, true, false, List, [], ◌∷◌, ◌++◌, length, take, get_or, refl, sym, ap, ◌∙◌, cond}
use Rattle.std.proofs.lemmas.List.{take_more}
use Rattle.std.proofs.lemmas.List.Elements.{filter_map-append, filter_more}
use Rattle.std.proofs.lemmas.Option.{slice_get-get_or}
use Rattle.std.specs.Prelude.{Option, Some, None, filter, slice_get}
use Rattle.std.specs.List.{filter_map}
use Rattle.std.specs.Option.{option_to_list}
use Rattle.zp_ledger.specs.Grouping.{placed}

given-one : {X Y : Type 0} (h : X → Option Y) (x : X) (o : Option Y) → h x ≡ o → filter_map h (x ∷ []) ≡ option_to_list o
given-one h x None gives = rw gives
given-one h x (Some y) gives = rw gives

-- what h gives of one item more
pub given_more : {X Y : Type 0} (h : X → Option Y) (xs : List X) (i : ℕ) (x : X) (o : Option Y) → i < length xs → x ≡ get_or xs i x → o ≡ h x
    → filter_map h (take (i + 1) xs) ≡ filter_map h (take i xs) ++ option_to_list o
given_more h xs i x o less is gives =
    ap (filter_map h) (take_more xs i x less ∙ ap (λ y. take i xs ++ y ∷ []) (sym is)) ∙ filter_map-append h (take i xs) (x ∷ [])
    ∙ ap (λ ys. filter_map h (take i xs) ++ ys) (given-one h x o (sym gives))

one-placed : {X : Type 0} (xs : List X) (i : ℕ) (x : X) (b : Bool) → i < length xs → x ≡ get_or xs i x → filter_map (slice_get xs) (placed b i) ≡ cond b (x ∷ []) []
one-placed xs i x true less is = given-one (slice_get xs) i (Some (get_or xs i x)) (slice_get-get_or xs i x less) ∙ ap (λ y. y ∷ []) (sym is)
one-placed xs i x false less is = refl

-- what is kept of one item more, found by the places of what is kept
pub places_more : {X : Type 0} (p : X → Bool) (xs : List X) (ps : List ℕ) (i : ℕ) (x : X) (b : Bool) → i < length xs → x ≡ get_or xs i x → p x ≡ b
    → filter_map (slice_get xs) ps ≡ filter p (take i xs) → filter_map (slice_get xs) (ps ++ placed b i) ≡ filter p (take (i + 1) xs)
places_more p xs ps i x b less is kept so_far =
    filter_map-append (slice_get xs) ps (placed b i) ∙ ap (λ ys. ys ++ filter_map (slice_get xs) (placed b i)) so_far
    ∙ ap (λ ys. filter p (take i xs) ++ ys) (one-placed xs i x b less is ∙ ap (λ v. cond v (x ∷ []) []) (sym kept) ∙ ap (λ y. cond (p y) (y ∷ []) []) is)
    ∙ sym (filter_more p xs i x less)

pub none-past : {X : Type 0} (xs : List X) (i : ℕ) → length xs ≤ i → slice_get xs i ≡ None
none-past [] i past = refl
none-past (x ∷ xs) zero past = absurd (omega arith)
none-past (x ∷ xs) (suc i) past = none-past xs i (omega arith)
