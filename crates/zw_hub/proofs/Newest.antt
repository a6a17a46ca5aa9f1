-- The newest items of a list that grows.
use Rattle.std.proofs.Common.{◌≡◌, ℕ, ◌+◌, ◌-◌, List, [], ◌∷◌, ◌++◌, length, drop, Some, slice_get, refl, sym, ◌∙◌, ap, arith, length-append, length-drop}
use Rattle.std.proofs.lemmas.List.{drop-append-le, drop-drop}
use Rattle.circular_buffer.specs.Buffer.{keep_last}
use Rattle.circular_buffer.proofs.Places.{slice_get-drop}

-- what is kept of the kept and some more is what is kept of all
pub keep_last-append : {A : Type 0} (n : ℕ) (xs ys : List A) → keep_last n (keep_last n xs ++ ys) ≡ keep_last n (xs ++ ys)
keep_last-append n xs ys =
    let l = length xs in
    let kept : keep_last n xs ++ ys ≡ drop (l - n) (xs ++ ys) = sym (drop-append-le (l - n) xs ys (omega arith)) in
    let lengths : length (keep_last n xs ++ ys) ≡ l - (l - n) + length ys = length-append (keep_last n xs) ys ∙ ap (λ k. k + length ys) (length-drop (l - n) xs) in
    let whole : length (xs ++ ys) ≡ l + length ys = length-append xs ys in
    ap (λ k. drop (k - n) (keep_last n xs ++ ys)) lengths
    ∙ ap (drop (l - (l - n) + length ys - n)) kept
    ∙ drop-drop (l - (l - n) + length ys - n) (l - n) (xs ++ ys)
    ∙ ap (λ k. drop k (xs ++ ys)) (omega (arith, whole))

-- the newest of all, where one was kept and one came
pub newest-push : {A : Type 0} (n : ℕ) (xs ys : List A) (x : A) → xs ≡ keep_last n ys → keep_last n (xs ++ x ∷ []) ≡ keep_last n (ys ++ x ∷ [])
newest-push n xs ys x newest = ap (λ zs. keep_last n (zs ++ x ∷ [])) newest ∙ keep_last-append n ys (x ∷ [])

-- one of the newest, by its place among all
pub newest-get : {A : Type 0} (n : ℕ) (xs ys : List A) (i : ℕ) (x : A) → xs ≡ keep_last n ys → slice_get xs i ≡ Some x → slice_get ys (length ys - n + i) ≡ Some x
newest-get n xs ys i x newest at =
    sym (slice_get-drop (length ys - n) ys i (length ys - n + i) refl)
    ∙ sym (ap (λ zs. slice_get zs i) newest)
    ∙ at
