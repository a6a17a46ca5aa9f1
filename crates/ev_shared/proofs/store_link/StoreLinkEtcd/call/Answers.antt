use Rattle.std.proofs.Common.{◌≡◌, true, false, None, Err, Bool, inl, inr, ◌∙◌, subst, refl, ap}
use Rattle.ev_types.specs.Denials.{carry}
use Rattle.zx_outside.specs.Memory.{fails_next}
use Rattle.ev_call.specs.declared.etcd.CallFault.TheVariants as fault
use Rattle.ev_shared.specs.Links.{LinkState, MayFail}
use Rattle.ev_shared.proofs.store_link.StoreLinkEtcd.call.Goals as goal

pub returns-clause-fails : goal.returns-clause-fails
returns-clause-fails c = λ h. go (fails_next c.args.self.now.failing c.args.self.now.calls) refl h
  where
    go : (b : Bool) → fails_next c.args.self.now.failing c.args.self.now.calls ≡ b → c.carried-result.result ≡ Err (fault.Failed) → MayFail c.args.self.now c.args.ask.now
    go true e h = inl e
    go false e h = inr (subst (λ (s : LinkState). carry s.store c.args.ask.now ≡ None) c.self.view_is (c.carried-result.ensures.denied (c.is_listed-listed.ensures ∙ ap (λ l. fails_next l c.self.inside.calls) c.deref.ensures.value ∙ ap (λ (s : LinkState). fails_next s.failing s.calls) c.self.view_is ∙ e) h))

pub returns-clause-listed : goal.returns-clause-listed
returns-clause-listed c = λ h. c.carried-result.ensures.listed (c.is_listed-listed.ensures ∙ ap (λ l. fails_next l c.self.inside.calls) c.deref.ensures.value ∙ ap (λ (s : LinkState). fails_next s.failing s.calls) c.self.view_is ∙ h)
