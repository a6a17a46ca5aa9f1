-- A link over a store that nobody else changes is honest.
use Rattle.std.proofs.Common.{◌≡◌, ◌≤◌, inl, inr, Bool, true, false, List, [], ◌∷◌, length, refl, sym, ap, subst, ◌∙◌, arith}
use Rattle.std.specs.Prelude.{All, IfOk, Some, None, Result, Ok, Err, if◌then◌else◌}
use Rattle.std.proofs.lemmas.List.{length-append}
use Rattle.std.proofs.lemmas.List.Elements.{All-cons, All-nil}
use Rattle.zx_base.proofs.Options.{some_is}
use Rattle.ev_types.proofs.Grown.{earlier-grown}
use Rattle.ev_types.specs.Denials.{carry, is_denied}
use Rattle.ev_types.specs.Store.{Store, Change, carried_out, grown, store_at, txn_done}
use Rattle.ev_types.specs.declared.answer.Answer.{Answer}
use Rattle.ev_types.specs.declared.ask.Ask.{Ask}
use Rattle.ev_types.specs.declared.ask.Ask.TheVariants as ask
use Rattle.ev_call.specs.Calls.{Call}
use Rattle.ev_call.specs.Honest.{CarriesAll, CarriesCall, Continues, IsHonestAnswer, IsHonestCall}
use Rattle.ev_call.specs.declared.etcd.CallFault.{CallFault}

-- ---- a store that goes on

stays : (s : Store) → Continues s s
stays s = record { longer = omega (arith); same = λ r le. refl }

goes_on : (s t u : Store) → Continues s t → Continues t u → Continues s u
goes_on s t u f g = let first = f.longer in let later = g.longer in record {
  longer = omega (arith, first, later);
  same = λ r le. g.same r (omega (arith, le, first)) ∙ f.same r le;
}

longer-grown : (s : Store) (cs : List Change) → length s.revisions ≤ length (grown s cs).revisions
longer-grown s [] = omega (arith)
longer-grown s (c ∷ cs) = let more = length-append s.revisions ((c ∷ cs) ∷ []) in omega (arith, more)

carried-on : (s : Store) (q : Ask) → Continues s (carried_out s q).0
unfolding carried_out txn_done store_at
carried-on s (ask.Txn t) = record { longer = longer-grown s _; same = earlier-grown s _ }
carried-on s (ask.Range q) = stays s
carried-on s (ask.Grant id ttl) = record { longer = omega (arith); same = λ r le. refl }
carried-on s (ask.Alive id) = stays s

carried-is : (s : Store) (q : Ask) (x : Store × Answer) → carry s q ≡ Some x → carried_out s q ≡ x
unfolding carry
carried-is s q x h = go (is_denied s q) h
  where
    go : (b : Bool) → (if b then None else Some (carried_out s q)) ≡ Some x → carried_out s q ≡ x
    go true e = absurd (cc)
    go false e = some_is e

carry-on : (s t : Store) (q : Ask) (a : Answer) → carry s q ≡ Some (t, a) → Continues s t
carry-on s t q a e = subst (Continues s) (ap (λ (x : Store × Answer). x.0) (carried-is s q (t, a) e)) (carried-on s q)

-- ---- one call, and all of them

call-on : (s t : Store) (q : Ask) (r : Result Answer CallFault) → CarriesCall s q r t → Continues s t
call-on s t q (Ok a) h = carry-on s t q a h
call-on s t q (Err e) (inl h) = subst (Continues s) (sym h) (stays s)
call-on s t q (Err e) (inr (a, h)) = carry-on s t q a h

here : (s mid t : Store) (q : Ask) (r : Result Answer CallFault) → CarriesCall s q r mid → Continues mid t → IfOk r (IsHonestAnswer s t q)
here s mid t q (Ok a) h more = record { before = s; after = mid; after_ask = stays s; carried = h; before_answer = more }
here s mid t q (Err e) h more = tt

earlier : (s mid t : Store) (q : Ask) (r : Result Answer CallFault) → Continues s mid → IfOk r (IsHonestAnswer mid t q) → IfOk r (IsHonestAnswer s t q)
earlier s mid t q (Ok a) first h = record { before = h.before; after = h.after; after_ask = goes_on s mid h.before first h.after_ask; carried = h.carried; before_answer = h.before_answer }
earlier s mid t q (Err e) first h = tt

pub honest : (s t : Store) (cs : List Call) → CarriesAll s cs t → Continues s t × All (IsHonestCall s t) cs
honest s t [] h = (subst (Continues s) (sym h) (stays s), All-nil (IsHonestCall s t))
honest s t (c ∷ cs) (mid, first, more) =
    let rest = honest mid t cs more in
    let on = call-on s mid c.ask c.result first in (
      goes_on s mid t on rest.0,
      All-cons (IsHonestCall s t) c cs (here s mid t c.ask c.result first rest.0) (λ k d below. earlier s mid t _ _ on (rest.1 k d below)),
    )
