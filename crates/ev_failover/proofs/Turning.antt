-- One try more.
use Rattle.std.proofs.Common.{◌≡◌, ℕ, true, List, [], ◌∷◌, ◌++◌, refl, sym, subst, ap, ◌∙◌}
use Rattle.std.specs.Prelude.{All, Option, Result}
use Rattle.std.proofs.lemmas.List.Elements.{All-append, All-cons, All-nil}
use Rattle.ev_types.specs.declared.answer.Answer.{Answer}
use Rattle.ev_types.specs.declared.ask.Ask.{Ask}
use Rattle.ev_failover.specs.Endpoints.{IsSentBy, Sent}
use Rattle.ev_failover.specs.Turns.{Tries, goes_on, place_after, places_after}
use Rattle.ev_failover.specs.declared.endpoints.EndFault.{EndFault}

pub tries_push : {E : Type 0} (came : E → ℕ → Ask → Result Answer EndFault → E → Type 0) (sent : E → Option (List Sent)) (q : Ask) (size e : ℕ) (a b c : E) (rs : List (Result Answer EndFault)) (r : Result Answer EndFault)
    → Tries came sent q size e a rs b → came b (places_after size e rs) q r c → IsSentBy r (places_after size e rs) q (sent b) (sent c) → Tries came sent q size e a (rs ++ r ∷ []) c
tries_push {E} came sent q size e a b c [] r is h s = (c, subst (λ (x : E). came x e q r c) is h, subst (λ (x : E). IsSentBy r e q (sent x) (sent c)) is s, refl)
tries_push came sent q size e a b c (x ∷ rs) r (mid, first, by, more) h s = (mid, first, by, tries_push came sent q size (place_after size e x) mid b c rs r more h s)

-- the same, where the place and the list are known by equations
pub tries_on : {E : Type 0} (came : E → ℕ → Ask → Result Answer EndFault → E → Type 0) (sent : E → Option (List Sent)) (q : Ask) (size e p : ℕ) (a b c : E) (rs more : List (Result Answer EndFault)) (r : Result Answer EndFault)
    → more ≡ rs → Tries came sent q size e a rs b → p ≡ places_after size e rs → came b p q r c → IsSentBy r p q (sent b) (sent c) → Tries came sent q size e a (more ++ r ∷ []) c
tries_on came sent q size e p a b c rs more r is tries at h s =
    subst (λ (l : List (Result Answer EndFault)). Tries came sent q size e a (l ++ r ∷ []) c) (sym is)
    (tries_push came sent q size e a b c rs r tries (subst (λ (n : ℕ). came b n q r c) at h) (subst (λ (n : ℕ). IsSentBy r n q (sent b) (sent c)) at s))

pub tries_first : {E : Type 0} (came : E → ℕ → Ask → Result Answer EndFault → E → Type 0) (sent : E → Option (List Sent)) (q : Ask) (size e : ℕ) (a b : E) (r : Result Answer EndFault)
    → came a e q r b → IsSentBy r e q (sent a) (sent b) → Tries came sent q size e a (r ∷ []) b
tries_first came sent q size e a b r h s = (b, h, s, refl)

pub places_push : (size e : ℕ) (rs : List (Result Answer EndFault)) (r : Result Answer EndFault) → places_after size e (rs ++ r ∷ []) ≡ place_after size (places_after size e rs) r
places_push size e [] r = refl
places_push size e (x ∷ rs) r = places_push size (place_after size e x) rs r

pub places_on : (size e p n : ℕ) (rs more : List (Result Answer EndFault)) (r : Result Answer EndFault) → more ≡ rs → p ≡ places_after size e rs → n ≡ place_after size p r → n ≡ places_after size e (more ++ r ∷ [])
places_on size e p n rs more r is at to =
    to ∙ ap (λ (m : ℕ). place_after size m r) at ∙ sym (places_push size e rs r) ∙ ap (λ (l : List (Result Answer EndFault)). places_after size e (l ++ r ∷ [])) (sym is)

pub went_on_push : (q : Ask) (rs : List (Result Answer EndFault)) (r : Result Answer EndFault) → All (λ x. goes_on q x ≡ true) rs → goes_on q r ≡ true → All (λ x. goes_on q x ≡ true) (rs ++ r ∷ [])
went_on_push q rs r h on = All-append (λ (x : Result Answer EndFault). goes_on q x ≡ true) rs (r ∷ []) h (All-cons (λ (x : Result Answer EndFault). goes_on q x ≡ true) r [] on (All-nil (λ (x : Result Answer EndFault). goes_on q x ≡ true)))

pub went_on_more : (q : Ask) (rs more : List (Result Answer EndFault)) (r : Result Answer EndFault) → more ≡ rs ++ r ∷ [] → All (λ x. goes_on q x ≡ true) rs → goes_on q r ≡ true → All (λ x. goes_on q x ≡ true) more
went_on_more q rs more r is h on = subst (λ (l : List (Result Answer EndFault)). All (λ x. goes_on q x ≡ true) l) (sym is) (went_on_push q rs r h on)
