-- A call that is told is one more.
use Rattle.std.proofs.Common.{◌≡◌, List, [], ◌∷◌, ◌++◌, length, refl, ap, arith}
use Rattle.std.specs.Prelude.{Result}
use Rattle.ev_types.specs.declared.answer.Answer.{Answer}
use Rattle.ev_types.specs.declared.ask.Ask.{Ask}
use Rattle.ev_call.specs.Calls.{calls_of}
use Rattle.ev_call.specs.declared.etcd.CallFault.{CallFault}

pub calls_push : (qs : List Ask) (rs : List (Result Answer CallFault)) (q : Ask) (r : Result Answer CallFault) → length qs ≡ length rs
    → calls_of (qs ++ q ∷ []) (rs ++ r ∷ []) ≡ calls_of qs rs ++ record { ask = q; result = r } ∷ []
calls_push [] [] q r e = refl
calls_push [] (y ∷ rs) q r e = absurd (omega (arith, e))
calls_push (x ∷ qs) [] q r e = absurd (omega (arith, e))
calls_push (x ∷ qs) (y ∷ rs) q r e = ap (λ l. record { ask = x; result = y } ∷ l) (calls_push qs rs q r (omega (arith, e)))
