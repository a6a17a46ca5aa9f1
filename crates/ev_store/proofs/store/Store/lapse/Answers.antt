use Rattle.std.proofs.Common.{ℤ, IfErr, subst, w64}
use Rattle.std.proofs.lemmas.Int.{to_z-of_z}
use Rattle.ev_store.specs.FirstDenial.{lapse_denial, Names}
use Rattle.ev_store.proofs.Denying.{named}
use Rattle.ev_store.proofs.Lapsing.{lapse_denied}
use Rattle.ev_store.proofs.store.Store.lapse.Goals as goal

pub returns-clause-denied : goal.returns-clause-denied
returns-clause-denied c d is =
    let s = c.args.self.now in
    lapse_denied s c.args.id d (named (lapse_denial s c.args.id) c.take_lease.result (subst (λ (id : ℤ). IfErr c.take_lease.result (Names (lapse_denial s id))) (to_z-of_z w64 c.args.id c.ranges.id) c.take_lease.ensures.named) d is)
