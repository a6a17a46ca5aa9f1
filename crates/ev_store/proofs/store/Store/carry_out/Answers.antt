use Rattle.std.proofs.lemmas.Result.{IfOk-weaker}
use Rattle.ev_store.specs.FirstDenial.{first_denial}
use Rattle.ev_store.specs.Numbers.{HasNumbers}
use Rattle.ev_store.proofs.Denying.{carry-denied, named}
use Rattle.ev_store.proofs.Numbers.{carry-numbers}
use Rattle.ev_store.proofs.store.Store.carry_out.Goals as goal

pub returns-clause-denied : goal.returns-clause-denied
returns-clause-denied c d is = carry-denied c.args.self.now c.args.ask.now d (named (first_denial c.args.self.now c.args.ask.now) c.answer_to.result c.answer_to.ensures.named d is)

pub returns-clause-first : goal.returns-clause-first
returns-clause-first c = named (first_denial c.args.self.now c.args.ask.now) c.answer_to.result c.answer_to.ensures.named

pub returns-clause-numbers : goal.returns-clause-numbers
returns-clause-numbers c = IfOk-weaker c.answer_to.result _ HasNumbers (λ a carried. carry-numbers c.args.self.now _ c.args.ask.now a c.history.ensures.short c.history.ensures.once carried) c.answer_to.ensures.carried
