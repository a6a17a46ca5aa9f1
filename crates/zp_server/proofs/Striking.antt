-- A number that is struck out of a list.
use Rattle.std.proofs.Common.{◌≡◌, ℕ, zero, suc, ◌<◌, Bool, true, List, [], ◌∷◌, ◌++◌, length, get_or, take, drop, remove, slice_get, Some, sym, ap, ◌∙◌, subst}
use Rattle.std.specs.Prelude.{◌==◌, IsPermutation}
use Rattle.std.proofs.lemmas.Bool.{eqb-true}
use Rattle.std.proofs.lemmas.List.{nil_from_length}
use Rattle.std.proofs.lemmas.List.Sorted.{IsPermutation-middle, IsPermutation-sym}
use Rattle.std.proofs.lemmas.Option.{slice_get-get_or}
use Rattle.zx_base.proofs.Options.{none_some, some_is}

pub stands : (xs : List ℕ) (at number : ℕ) → at < length xs → get_or xs at 0 ≡ number → slice_get xs at ≡ Some number
stands xs at number within is = slice_get-get_or xs at 0 within ∙ ap Some is

split : (xs : List ℕ) (at x : ℕ) → slice_get xs at ≡ Some x → take at xs ++ x ∷ drop (suc at) xs ≡ xs
split [] at x there = absurd (none_some there)
split (y ∷ ys) zero x there = ap (λ (z : ℕ). z ∷ ys) (sym (some_is there))
split (y ∷ ys) (suc at) x there = ap (λ (zs : List ℕ). y ∷ zs) (split ys at x there)

pub struck : (xs : List ℕ) (at x : ℕ) → slice_get xs at ≡ Some x → IsPermutation (x ∷ remove xs at) xs
struck xs at x there =
    subst (IsPermutation (x ∷ remove xs at)) (split xs at x there) (IsPermutation-sym (take at xs ++ x ∷ drop (suc at) xs) (x ∷ remove xs at) (IsPermutation-middle (take at xs) x (drop (suc at) xs)))

-- nothing stands in a list without a length
pub none_left : (xs ys : List ℕ) (b : Bool) → ys ≡ xs → b ≡ (length ys == 0) → b ≡ true → xs ≡ []
none_left xs ys b same is holds = sym same ∙ nil_from_length ys (eqb-true (length ys) 0 (sym is ∙ holds))
