-- Entries stay numbered by their places.
use Rattle.std.proofs.Common.{◌≡◌, ℕ, zero, suc, ◌+◌, List, [], ◌∷◌, ◌++◌, length, subst, arith}
use Rattle.std.specs.Prelude.{Some, slice_get}
use Rattle.zn_layout.specs.declared.entry.Entry.{Entry}
use Rattle.zp_ledger.specs.Entering.{AreNumbered, IsNumbered}

-- the entries of a list whose first one has number k + 1
abbrev AreNumberedFrom : ℕ → List Entry → Type 0
AreNumberedFrom k es = (n : ℕ) (e : Entry) → slice_get es n ≡ Some e → IsNumbered (k + n + 1) e

push-from : (k : ℕ) (es : List Entry) (e : Entry) → AreNumberedFrom k es → IsNumbered (k + length es + 1) e → AreNumberedFrom k (es ++ e ∷ [])
push-from k [] e h new zero x get = let same : e ≡ x = cc in subst (IsNumbered (k + 0 + 1)) same new
push-from k [] e h new (suc n) x get = absurd (cc)
push-from k (y ∷ es) e h new zero x get = h zero x get
push-from k (y ∷ es) e h new (suc n) x get =
    let later : AreNumberedFrom (k + 1) es = λ m z g. let next : k + suc m + 1 ≡ k + 1 + m + 1 = omega arith in subst (λ i. IsNumbered i z) next (h (suc m) z g) in
    let last : k + length (y ∷ es) + 1 ≡ k + 1 + length es + 1 = omega arith in
    let here : k + 1 + n + 1 ≡ k + suc n + 1 = omega arith in
    subst (λ i. IsNumbered i x) here (push-from (k + 1) es e later (subst (λ i. IsNumbered i e) last new) n x get)

pub numbered-push : (es : List Entry) (e : Entry) → AreNumbered es → IsNumbered (length es + 1) e → AreNumbered (es ++ e ∷ [])
numbered-push es e h new n x get =
    let first : AreNumberedFrom 0 es = λ m z g. let same : m + 1 ≡ 0 + m + 1 = omega arith in subst (λ i. IsNumbered i z) same (h m z g) in
    let last : length es + 1 ≡ 0 + length es + 1 = omega arith in
    let here : 0 + n + 1 ≡ n + 1 = omega arith in
    subst (λ i. IsNumbered i x) here (push-from 0 es e first (subst (λ i. IsNumbered i e) last new) n x get)
