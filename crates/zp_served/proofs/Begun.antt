-- All that a store of its own was ever asked, by what its link tells.
use Rattle.std.proofs.Common.{◌≡◌, List, [], ◌∷◌, ◌++◌, refl, sym, ap, subst, ◌∙◌}
use Rattle.std.specs.Prelude.{Some, Result, Ok}
use mathlib.Core.Logic.{∥∥₁_map}
use Rattle.ev_call.specs.Asks.{IsGrantable}
use Rattle.ev_call.specs.Calls.{Call, with_call}
use Rattle.ev_call.specs.Honest.{CarriesAll, CarriesCall}
use Rattle.ev_call.specs.declared.etcd.CallFault.{CallFault}
use Rattle.ev_types.specs.Denials.{carry}
use Rattle.ev_types.specs.Store.{Store, new_store}
use Rattle.ev_types.specs.declared.answer.Answer.{Answer}
use Rattle.ev_types.specs.declared.ask.Ask.{Ask}
use Rattle.zk_service.specs.declared.cause.Cause.{Cause}
use Rattle.zn_layout.specs.Begin.{begin_ask}
use Rattle.zk_service.specs.declared.fresh.Fresh.{Fresh}
use Rattle.zp_conn.specs.Serving.{Serves, Told, with_calls}
use Rattle.zp_served.proofs.Alone.{first}
use Rattle.zp_served.specs.Begun.{IsBegun, ServesAlone}
use Rattle.zx_base.proofs.Options.{some_is}

pub starts : (t s : Store) (told : List Call) → s ≡ t → told ≡ [] → ∥ CarriesAll t told s ∥₁
starts t s told e none = subst (λ cs. ∥ CarriesAll t cs s ∥₁) (sym none) ∣ e ∣₁

begin-granted : IsGrantable (begin_ask 0)
unfolding begin_ask
begin-granted = tt

pub grantable : (q : Ask) → q ≡ begin_ask 0 → IsGrantable q
grantable q e = subst IsGrantable (sym e) begin-granted

-- one call more
carries-push : (s t u : Store) (cs : List Call) (q : Ask) (r : Result Answer CallFault) → CarriesAll s cs t → CarriesCall t q r u → CarriesAll s (cs ++ record { ask = q; result = r } ∷ []) u
carries-push s t u [] q r h next = (u, subst (λ x. CarriesCall x q r u) h next, refl)
carries-push s t u (c ∷ cs) q r (mid, now, more) next = (mid, now, carries-push mid t u cs q r more next)

pub goes_on : (s t u : Store) (told told' : List Call) (q : Ask) (r : Result Answer CallFault) → ∥ CarriesAll s told t ∥₁ → CarriesCall t q r u → Some told' ≡ with_call (Some told) q r → ∥ CarriesAll s told' u ∥₁
goes_on s t u told told' q r h next e = ∥∥₁_map h (λ all. subst (λ cs. CarriesAll s cs u) (sym (some_is e)) (carries-push s t u told q r all next))

pub begun : (told told' : List Call) (q : Ask) (a : Answer) → told ≡ [] → q ≡ begin_ask 0 → Some told' ≡ with_call (Some told) q (Ok a) → IsBegun told'
begun told told' q a none is e = (a, some_is e ∙ ap (λ cs. cs ++ record { ask = q; result = Ok a } ∷ []) none ∙ ap (λ (x : Ask). record { ask = x; result = Ok a } ∷ []) is)

-- ---- and after a call of `serve_connection`

honest-over : (s end : Store) (a b : Answer) (told told' calls : List Call) → carry new_store (begin_ask 0) ≡ Some (s, a) → told ≡ record { ask = begin_ask 0; result = Ok b } ∷ [] → told' ≡ told ++ calls → CarriesAll new_store told' end → CarriesAll s calls end
honest-over s end a b told told' calls begins one all h = go (subst (λ cs. CarriesAll new_store cs end) (all ∙ ap (λ cs. cs ++ calls) one) h)
  where
    go : CarriesAll new_store (record { ask = begin_ask 0; result = Ok b } ∷ calls) end → CarriesAll s calls end
    go (mid, began, more) = subst (λ x. CarriesAll x calls end) (ap (λ (x : Store × Answer). x.0) (some_is (sym began ∙ begins))) more

pub lawful : (fresh : Fresh) (old new : Told) (why : Cause) (told told' : List Call) (end : Store) (h : Serves fresh old new why) → IsBegun told → (old.link).calls ≡ Some told → (new.link).calls ≡ Some told' → ∥ CarriesAll new_store told' end ∥₁ → ServesAlone fresh old new why
lawful fresh old new why told told' end h (b, one) was is honest = record {
  serves = h;
  lawful = λ s a c p begins offer in-time few. ∥∥₁_map honest (λ all. first s a c p fresh old new why h begins (record {
    offer = offer;
    link = record { before = told; told = was; calls = h.calls; more = more; after = end; carries = honest-over s end a b told told' h.calls begins one (some_is (sym is ∙ more)) all };
    feed = in-time;
    few = few;
  }));
}
  where
    more : (new.link).calls ≡ Some (told ++ h.calls)
    more = h.called ∙ ap (λ x. with_calls x h.calls) was
