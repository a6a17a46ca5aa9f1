-- Endpoints in memory: what is told of a call, and when the store denies.
use Rattle.std.proofs.Common.{◌≡◌, ℕ, List, [], ◌∷◌, ◌++◌, length, true, false, refl, sym, ap, subst, inl, inr, arith}
use Rattle.std.specs.Prelude.{Option, Some, None, Result, Ok, Err}
use Rattle.ev_types.specs.Denials.{carry}
use Rattle.ev_types.specs.declared.answer.Answer.{Answer}
use Rattle.ev_types.specs.declared.ask.Ask.{Ask}
use Rattle.zx_outside.specs.Memory.{fails_next}
use Rattle.ev_shared.specs.Links.{LinkState, MayFail}
use Rattle.ev_failover.specs.Endpoints.{IsSentBy, Sent, is_sent, sent_of}
use Rattle.ev_failover.specs.declared.endpoints.EndFault.{EndFault}
use Rattle.ev_failover.specs.declared.endpoints.EndFault.TheVariants as fault

sent_push : (es : List ℕ) (qs : List Ask) (e : ℕ) (q : Ask) → length es ≡ length qs → sent_of (es ++ e ∷ []) (qs ++ q ∷ []) ≡ sent_of es qs ++ record { endpoint = e; ask = q } ∷ []
sent_push [] [] e q same = refl
sent_push [] (y ∷ qs) e q same = absurd (omega (arith, same))
sent_push (x ∷ es) [] e q same = absurd (omega (arith, same))
sent_push (x ∷ es) (y ∷ qs) e q same = ap (λ l. record { endpoint = x; ask = y } ∷ l) (sent_push es qs e q (omega (arith, same)))

is_told : (es : List ℕ) (qs : List Ask) (e : ℕ) (q : Ask) (r : Result Answer EndFault) → length es ≡ length qs → is_sent r ≡ true
    → IsSentBy r e q (Some (sent_of es qs)) (Some (sent_of (es ++ e ∷ []) (qs ++ q ∷ [])))
is_told es qs e q (Ok a) same sent = ap Some (sent_push es qs e q same)
is_told es qs e q (Err fault.NotSent) same sent = absurd (cc)
is_told es qs e q (Err fault.Failed) same sent = ap Some (sent_push es qs e q same)
is_told es qs e q (Err fault.Memory) same sent = inr (ap Some (sent_push es qs e q same))

-- the same, where the lists are known by equations
pub is_told_in : (es more : List ℕ) (qs later : List Ask) (e : ℕ) (q : Ask) (r : Result Answer EndFault) → more ≡ es ++ e ∷ [] → later ≡ qs ++ q ∷ [] → length es ≡ length qs → is_sent r ≡ true
    → IsSentBy r e q (Some (sent_of es qs)) (Some (sent_of more later))
is_told_in es more qs later e q r to asks same sent =
    subst (λ (l : List ℕ). IsSentBy r e q (Some (sent_of es qs)) (Some (sent_of l later))) (sym to)
    (subst (λ (l : List Ask). IsSentBy r e q (Some (sent_of es qs)) (Some (sent_of (es ++ e ∷ []) l))) (sym asks) (is_told es qs e q r same sent))

pub not_told : (s : Option (List Sent)) (e : ℕ) (q : Ask) (r : Result Answer EndFault) → is_sent r ≡ false → IsSentBy r e q s s
not_told s e q (Ok a) sent = absurd (cc)
not_told s e q (Err fault.NotSent) sent = refl
not_told s e q (Err fault.Failed) sent = absurd (cc)
not_told s e q (Err fault.Memory) sent = absurd (cc)

pub store_denies : (l : LinkState) (q : Ask) → l.failing ≡ [] → MayFail l q → carry l.store q ≡ None
store_denies l q none (inl h) = let e : fails_next l.failing l.calls ≡ false = ap (λ f. fails_next f l.calls) none in absurd (cc)
store_denies l q none (inr h) = h
