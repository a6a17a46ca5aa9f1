-- The calls of an honest link are answered by its store.
use Rattle.std.proofs.Common.{◌≡◌, List, [], ◌∷◌, ◌++◌, map, refl, sym, ap, subst, ◌∙◌}
use Rattle.std.specs.Prelude.{Option, Some, Result, Ok, Err}
use Rattle.std.proofs.lemmas.List.{append_cancel_left}
use Rattle.ev_call.specs.Calls.{Call}
use Rattle.ev_call.specs.Honest.{CarriesAll, CarriesCall}
use Rattle.ev_call.specs.declared.etcd.CallFault.{CallFault}
use Rattle.ev_call.specs.declared.etcd.CallFault.TheVariants as fault
use Rattle.ev_types.specs.Store.{Store}
use Rattle.ev_types.specs.declared.answer.Answer.{Answer}
use Rattle.ev_types.specs.declared.ask.Ask.{Ask}
use Rattle.zp_conn.specs.Serving.{outcome_of, outcomes_of, with_calls}
use Rattle.zp_lives.specs.Feeding.{AreAnswered, IsAnswered}
use Rattle.zx_base.proofs.Options.{none_some, some_is}

-- one call
one : (s mid : Store) (q : Ask) (r : Result Answer CallFault) (o : Option Answer) → outcome_of r ≡ Some o → CarriesCall s q r mid → IsAnswered s q o mid
one s mid q (Ok a) o e h = subst (λ x. IsAnswered s q x mid) (some_is e) h
one s mid q (Err fault.Failed) o e h = subst (λ x. IsAnswered s q x mid) (some_is e) h
one s mid q (Err fault.Memory) o e h = absurd (none_some e)

head-is : (x y : Option (Option Answer)) (xs ys : List (Option (Option Answer))) → x ∷ xs ≡ y ∷ ys → x ≡ y
head-is x y xs ys e = cc

tail-is : (x y : Option (Option Answer)) (xs ys : List (Option (Option Answer))) → x ∷ xs ≡ y ∷ ys → xs ≡ ys
tail-is x y xs ys e = cc

-- and all whose outcome was heard
pub answered : (s t : Store) (calls : List Call) (uncalled : List Ask) (os : List (Option Answer)) (unheard : List (Option (Option Answer))) → CarriesAll s calls t → outcomes_of calls ≡ map Some os ++ unheard
    → (after : Store) × AreAnswered s (map (λ (c : Call). c.ask) calls ++ uncalled) os after
answered s t calls uncalled [] unheard h e = (s, refl)
answered s t [] uncalled (o ∷ os) unheard h e = absurd (cc)
answered s t (c ∷ cs) uncalled (o ∷ os) unheard (mid, first, more) e =
    let rest = answered mid t cs uncalled os unheard more (tail-is _ _ _ _ e) in
    (rest.0, (mid, one s mid c.ask c.result o (head-is _ _ _ _ e) first, rest.1))

-- the calls that were told are the call's
pub same-calls : (old new : Option (List Call)) (before calls found : List Call) → old ≡ Some before → new ≡ Some (before ++ found) → new ≡ with_calls old calls → found ≡ calls
same-calls old new before calls found o n e = append_cancel_left before found calls (some_is (sym n ∙ e ∙ ap (λ x. with_calls x calls) o))
