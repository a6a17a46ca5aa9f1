-- A loop that copies the first so many items of a list.
use Rattle.std.proofs.Common.{◌≡◌, ℕ, zero, suc, ◌-◌, ◌<◌, List, [], ◌∷◌, ◌++◌, map, take, sym, ap, ◌∙◌, append_assoc, arith}

take_first : {A : Type 0} (left : ℕ) (x : A) (xs : List A) → 0 < left → take left (x ∷ xs) ≡ x ∷ take (left - 1) xs
take_first zero x xs some = absurd (omega arith)
take_first (suc n) x xs some = let e : n ≡ suc n - 1 = omega arith in ap (λ k. x ∷ take k xs) e

pub copied_more : {A B : Type 0} (f : A → B) (out now : List B) (y : B) (x : A) (rest after : List A) (left : ℕ) (total : List B) →
    0 < left → rest ≡ x ∷ after → y ≡ f x → now ≡ out ++ y ∷ [] → out ++ map f (take left rest) ≡ total → now ++ map f (take (left - 1) after) ≡ total
copied_more f out now y x rest after left total some first copy pushed so_far =
    ap (λ n. n ++ map f (take (left - 1) after)) (pushed ∙ ap (λ z. out ++ z ∷ []) copy)
    ∙ append_assoc out (f x ∷ []) (map f (take (left - 1) after))
    ∙ ap (λ xs. out ++ map f xs) (sym (take_first left x after some) ∙ ap (take left) (sym first))
    ∙ so_far
