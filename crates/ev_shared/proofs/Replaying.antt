-- A history grows by what happens next.
use Rattle.std.proofs.Common.{◌≡◌, List, [], ◌∷◌, ◌++◌, refl, ap, subst, ◌∙◌}
use mathlib.Core.Logic.{∥∥₁_map}
use Rattle.ev_types.specs.Store.{Store}
use Rattle.ev_shared.specs.History.{Follows, GoesOn, Replays}
use Rattle.ev_shared.specs.declared.event.Event.{Event}

more : (s : Store) (es : List Event) (e : Event) (t u : Store) → Replays s es t → Follows t e u → Replays s (es ++ e ∷ []) u
more s [] e t u same next = (u, subst (λ (x : Store). Follows x e u) same next, refl)
more s (x ∷ es) e t u h next = (h.0, h.1, more h.0 es e t u h.2 next)

pub starts : (s : Store) → ∥ Replays s [] s ∥₁
starts s = ∣ refl ∣₁

pub goes_on : (s : Store) (es : List Event) (e : Event) (t u : Store) → ∥ Replays s es t ∥₁ → Follows t e u → ∥ Replays s (es ++ e ∷ []) u ∥₁
goes_on s es e t u h next = ∥∥₁_map h (λ r. more s es e t u r next)

-- ---- a longer history

none_more : (es : List Event) → es ≡ es ++ []
none_more [] = refl
none_more (e ∷ es) = ap (λ (l : List Event). e ∷ l) (none_more es)

joined : (xs ys zs : List Event) → (xs ++ ys) ++ zs ≡ xs ++ (ys ++ zs)
joined [] ys zs = refl
joined (x ∷ xs) ys zs = ap (λ (l : List Event). x ∷ l) (joined xs ys zs)

pub as_long : (old new : List Event) → new ≡ old → GoesOn old new
as_long old new same = ([], same ∙ none_more old)

pub one_longer : (old new : List Event) (e : Event) → new ≡ old ++ e ∷ [] → GoesOn old new
one_longer old new e is = (e ∷ [], is)

pub longer_still : (old mid new : List Event) → GoesOn old mid → GoesOn mid new → GoesOn old new
longer_still old mid new first later = (first.0 ++ later.0, later.1 ∙ ap (λ (l : List Event). l ++ later.0) first.1 ∙ joined old first.0 later.0)
