use Rattle.ev_store.specs.FirstDenial.{foreign_denial}
use Rattle.ev_store.proofs.Denying.{named}
use Rattle.ev_store.proofs.Lapsing.{foreign_denied}
use Rattle.ev_store.proofs.store.Store.foreign.Goals as goal

pub returns-clause-denied : goal.returns-clause-denied
returns-clause-denied c d is =
    let s = c.args.self.now in
    foreign_denied s c.args.key.now c.args.value.now d (named (foreign_denial s c.args.key.now c.args.value.now) c.put_one.result c.put_one.ensures.named d is)
