-- One more lease whose seconds are looked at.
use Rattle.std.proofs.Common.{◌≡◌, ℕ, ◌+◌, ◌<◌, ◌≤◌, List, [], ◌∷◌, ◌++◌, length, take, get_or, refl, sym, ap, subst, ◌∙◌, inl, inr}
use Rattle.std.specs.Prelude.{ℤ, All}
use Rattle.std.proofs.lemmas.List.{take_more, take_all}
use Rattle.std.proofs.lemmas.List.Elements.{All-append, All-cons, All-nil}
use Rattle.ev_types.specs.Store.{Store}
use Rattle.ev_shared.specs.History.{IsSettled}
use Rattle.ev_shared.specs.Terms.{IsLeft, IsSweptPartly, LapsesBy, Stay, swept, swept_one}
use Rattle.ev_shared.specs.declared.term.Term.{Term}

pub none_yet : (now : ℕ) (s : Store) (xs : List Term) → All (LapsesBy now s) (take 0 xs)
none_yet now s xs = All-nil (LapsesBy now s)

pub one_more : (now : ℕ) (s t : Store) (xs : List Term) (i : ℕ) (x : Term) → i < length xs → x ≡ get_or xs i x → All (LapsesBy now s) (take i xs) → ((id : ℤ) → IsSettled s id → IsSettled t id) → LapsesBy now t x
    → All (LapsesBy now t) (take (i + 1) xs)
one_more now s t xs i x lt is before keeps here =
    let so_far : All (LapsesBy now t) (take i xs) = λ k d below over. keeps (get_or (take i xs) k d).id (before k d below over) in
    subst (All (LapsesBy now t)) (sym (take_more xs i x lt)) (All-append (LapsesBy now t) (take i xs) (get_or xs i x ∷ []) so_far (All-cons (LapsesBy now t) _ [] (subst (LapsesBy now t) is here) (All-nil (LapsesBy now t))))

pub all_done : (now : ℕ) (s : Store) (xs : List Term) (i : ℕ) → length xs ≤ i → All (LapsesBy now s) (take i xs) → All (LapsesBy now s) xs
all_done now s xs i le h = subst (All (LapsesBy now s)) (take_all i xs le) h

-- ---- the store that the leases leave

one_after : (now : ℕ) (xs : List Term) (x : Term) (s : Store) → swept now (xs ++ x ∷ []) s ≡ swept_one now x (swept now xs s)
one_after now [] x s = refl
one_after now (y ∷ xs) x s = one_after now xs x (swept_one now y s)

pub swept_on : (now : ℕ) (s t u : Store) (xs : List Term) (i : ℕ) (x : Term) → i < length xs → x ≡ get_or xs i x → t ≡ swept now (take i xs) s → u ≡ swept_one now x t
    → u ≡ swept now (take (i + 1) xs) s
swept_on now s t u xs i x lt is before here =
    here ∙ ap (swept_one now x) before ∙ sym (one_after now (take i xs) x s) ∙ ap (λ (y : Term). swept now (take i xs ++ y ∷ []) s) is ∙ sym (ap (λ (l : List Term). swept now l s) (take_more xs i x lt))

pub swept_all : (now : ℕ) (s t : Store) (xs : List Term) (i : ℕ) → length xs ≤ i → t ≡ swept now (take i xs) s → t ≡ swept now xs s
swept_all now s t xs i le h = h ∙ ap (λ (l : List Term). swept now l s) (take_all i xs le)

-- ---- where memory was refused

pub swept_so_far : (now : ℕ) (s t u : Store) (xs : List Term) (i : ℕ) → t ≡ swept now (take i xs) s → u ≡ t → IsSweptPartly now xs s u
swept_so_far now s t u xs i before same = (i, same ∙ before)

pub left_before : (now : ℕ) (s t : Store) (xs ys : List Term) → IsSweptPartly now xs s t → ys ≡ xs → IsLeft now xs s ys t
left_before now s t xs ys part same = inl (part, same)

pub left_after : (now : ℕ) (s t u : Store) (xs ys zs : List Term) → t ≡ swept now xs s → Stay now t xs ys → u ≡ t → zs ≡ ys → IsLeft now xs s zs u
left_after now s t u xs ys zs swept_all_of stay same_store same =
    let kept : Stay now u xs ys = subst (λ (x : Store). Stay now x xs ys) (sym same_store) stay in
    inr (same_store ∙ swept_all_of, subst (λ (l : List Term). Stay now u xs l) (sym same) kept)
