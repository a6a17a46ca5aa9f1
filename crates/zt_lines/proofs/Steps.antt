-- What holds of what is read in steps.
use Rattle.std.proofs.Common.{◌≡◌, ℕ, List, Option, Some, None, if◌then◌else◌, refl, sym, subst}
use Rattle.std.specs.Prelude.{IfSome, bytes_eq, option_and_then}
use Rattle.std.proofs.lemmas.Bool.{cond_both}
use Rattle.std.proofs.lemmas.Slice.Eq.{bytes_eq-Decides}

pub in_steps : {A B : Type 0} {P : A → Type 0} (Q : B → Type 0) (o : Option A) (f : A → Option B) → IfSome o P → ((x : A) → P x → IfSome (f x) Q) → IfSome (option_and_then f o) Q
in_steps Q None f first later = tt
in_steps Q (Some x) f first later = later x first

pub itself : {A : Type 0} (o : Option A) → IfSome o (λ x. o ≡ Some x)
itself None = tt
itself (Some x) = refl

-- where a form is told by its first word
pub by_form : {A : Type 0} (P : List ℕ → A → Type 0) (form name : List ℕ) (x y : Option A) → IfSome x (P name) → IfSome y (P form) → IfSome (if bytes_eq form name then x else y) (P form)
by_form P form name x y named other =
    cond_both (bytes_eq form name) x y (λ o. IfSome o (P form)) (λ same. subst (λ (f : List ℕ). IfSome x (P f)) (sym ((bytes_eq-Decides form name).0 same)) named) (λ differs. other)
