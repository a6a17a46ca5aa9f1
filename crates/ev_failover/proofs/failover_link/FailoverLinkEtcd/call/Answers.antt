use Rattle.std.proofs.Common.{sym, ap, subst, ◌∙◌, List}
use Rattle.std.specs.Prelude.{Result}
use Rattle.ev_types.specs.declared.answer.Answer.{Answer}
use Rattle.ev_call.specs.Fitting.{Fits}
use Rattle.ev_call.specs.Honest.{IsHonestAnswer}
use Rattle.ev_failover.specs.Turns.{Tries, places_after}
use Rattle.ev_failover.specs.declared.endpoints.EndFault.{EndFault}
use Rattle.ev_failover.proofs.Outcome.{answered_in, as_honest_in, carries_in, fails_only_in, none_twice_in, sends_once_in}
use Rattle.ev_failover.proofs.failover_link.FailoverLinkEtcd.call.Goals as goal

pub returns-clause-fits : goal.returns-clause-fits
returns-clause-fits g c = answered_in (Fits c.args.ask.now) c.try_in_turn-last.result _ c.answer_of-result.ensures c.try_in_turn-last.ensures.fits

pub returns-clause-tries : goal.returns-clause-tries
returns-clause-tries g c =
    subst (λ (l : List (Result Answer EndFault)). Tries g.E.Endpoints.came g.E.Endpoints.sent c.args.ask.now (g.E.Endpoints.size c.args.self.now.ends) c.args.self.now.current c.args.self.now.ends l c.try_in_turn-last.new.ends)
    (sym c.and-self.ensures) c.try_in_turn-last.ensures.tries

pub returns-clause-current : goal.returns-clause-current
returns-clause-current g c = c.try_in_turn-last.ensures.place ∙ ap (λ (l : List (Result Answer EndFault)). places_after (g.E.Endpoints.size c.args.self.now.ends) c.args.self.now.current l) (sym c.and-self.ensures)

pub returns-clause-comes : goal.returns-clause-comes
returns-clause-comes g c = record {
  earlier = c.try_in_turn-last.new.earlier.items;
  last = c.try_in_turn-last.result;
  all = c.and-self.ensures;
  stops = record { went_on = c.try_in_turn-last.ensures.went_on; once = c.try_in_turn-last.ensures.once; over = c.try_in_turn-last.ensures.over };
  answers = c.answer_of-result.ensures;
}

pub returns-clause-once : goal.returns-clause-once
returns-clause-once g c = none_twice_in c.args.ask.now (g.E.Endpoints.size c.args.self.now.ends) c.args.self.now.current c.try_in_turn-last.new.earlier.items c.try_in_turn-last.result _ c.and-self.ensures c.args.self.now.within
    (record { went_on = c.try_in_turn-last.ensures.went_on; once = c.try_in_turn-last.ensures.once; over = c.try_in_turn-last.ensures.over })

pub returns-clause-sends : goal.returns-clause-sends
returns-clause-sends g c = sends_once_in g.E.Endpoints.came g.E.Endpoints.sent _ (g.E.Endpoints.size c.args.self.now.ends) c.args.self.now.current _ _ c.try_in_turn-last.new.earlier.items c.try_in_turn-last.result c.try_in_turn-last.ensures.went_on c.try_in_turn-last.ensures.tries

pub returns-clause-fails : goal.returns-clause-fails
returns-clause-fails g c = fails_only_in c.args.ask.now (g.E.Endpoints.size c.args.self.now.ends) c.try_in_turn-last.new.earlier.items c.try_in_turn-last.result _ _ c.and-self.ensures c.answer_of-result.ensures
    (record { went_on = c.try_in_turn-last.ensures.went_on; once = c.try_in_turn-last.ensures.once; over = c.try_in_turn-last.ensures.over })

pub returns-clause-honest : goal.returns-clause-honest
returns-clause-honest g c = λ s t h. as_honest_in (IsHonestAnswer s t c.args.ask.now) c.try_in_turn-last.new.earlier.items c.try_in_turn-last.result _ _ c.and-self.ensures c.answer_of-result.ensures h

pub returns-clause-alone : goal.returns-clause-alone
returns-clause-alone g c = λ store law. carries_in g.E.Endpoints.came g.E.Endpoints.sent store c.args.ask.now (g.E.Endpoints.size c.args.self.now.ends) c.args.self.now.current _ _ c.try_in_turn-last.new.earlier.items c.try_in_turn-last.result _ c.answer_of-result.ensures c.try_in_turn-last.ensures.went_on c.try_in_turn-last.ensures.tries law
