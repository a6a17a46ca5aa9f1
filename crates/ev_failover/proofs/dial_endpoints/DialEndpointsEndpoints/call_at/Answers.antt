use Rattle.std.proofs.Common.{◌∷◌, ◌∙◌, refl, sym, arith}
use Rattle.ev_call.specs.Calls.{calls_of}
use Rattle.ev_failover.proofs.Placing.{over_dialled, over_kept}
use Rattle.ev_failover.proofs.dial_endpoints.DialEndpointsEndpoints.call_at.Goals as goal

pub returns-then-is_some-clause-came : goal.returns-then-is_some-clause-came
returns-then-is_some-clause-came g c =
    over_kept (λ k. calls_of k.asks.items k.results.items) _ (c.args.self.now.first ∷ c.args.self.now.others.items) (c.replaced-link.new.first ∷ c.replaced-link.new.others.items)
    (c.replaced.new.first ∷ c.replaced.new.others.items) c.args.endpoint c.replaced-link.result c.ask_kept-result.new.link c.args.ask.now c.ask_kept-result.result _ _ (omega (arith, c.requires.within))
    c.replaced-link.ensures.taken c.replaced-link.ensures.left c.replaced.ensures.left c.ask_kept-result.ensures.kept c.ask_kept-result.ensures.sent refl

pub returns-clause-came : goal.returns-clause-came
returns-clause-came g c =
    over_dialled (λ k. calls_of k.asks.items k.results.items) _ (c.args.self.now.first ∷ c.args.self.now.others.items) (c.replaced-link.new.first ∷ c.replaced-link.new.others.items)
    (c.replaced-2.new.first ∷ c.replaced-2.new.others.items) c.args.endpoint c.replaced-link.result c.ask_first-result.new.link c.args.ask.now c.ask_first-result.result _ _ (omega (arith, c.requires.within))
    c.replaced-link.ensures.taken c.replaced-link.ensures.left c.replaced-2.ensures.left (sym c.is_some.ensures ∙ c.if-is_some.false) c.ask_first-result.ensures.kept
    (c.dial-dialled.ensures.counts ∙ sym (c.ask_first-result.ensures.counts _))
