use Rattle.std.proofs.Common.{◌≡◌, false, sym, ap, ◌∙◌, arith, w64}
use Rattle.std.proofs.lemmas.Grind.{common_steps}
use Rattle.std.proofs.lemmas.Int.{to_z-of_z}
use Rattle.ev_types.specs.Denials.{has_lease}
use Rattle.ev_store.proofs.Denying.{grant_carried}
use Rattle.ev_store.proofs.store.Store.grant.Goals as goal

pub returns-clause-carried : goal.returns-clause-carried
returns-clause-carried c =
    let free : has_lease c.args.self.now c.args.id ≡ false = ap (has_lease c.args.self.now) (sym (to_z-of_z w64 c.args.id c.ranges.id)) ∙ sym c.has_lease.ensures ∙ c.if-has_lease.false in
    grind (arith, common_steps, grant_carried, free)
