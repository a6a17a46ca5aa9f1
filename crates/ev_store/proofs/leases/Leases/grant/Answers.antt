use Rattle.std.proofs.Common.{ap, ◌∙◌, w64, to_z, of_z}
use Rattle.std.proofs.lemmas.Int.{to_z-of_z}
use Rattle.std.specs.Cmp.{int_cmp_total}
use Rattle.std.specs.FinMap.{insert}
use Rattle.std.proofs.lemmas.Map.Lookups.{exact_signed}
use Rattle.ev_store.proofs.Entries.{from_entries-update}
use Rattle.ev_store.proofs.leases.Leases.grant.Goals as goal

pub returns-clause-ok : goal.returns-clause-ok
returns-clause-ok c =
    let id = to_z w64 (of_z w64 c.args.id) in
    let ttl = to_z w64 (of_z w64 c.args.seconds) in
    from_entries-update int_cmp_total exact_signed c.self.inside.seconds.entries c.insert.new.self.entries id ttl c.in_ok-insert.ensures.updates.0
    ∙ ap (λ m. insert m id ttl) c.self.view_is
    ∙ ap (λ k. insert c.args.self.now k ttl) (to_z-of_z w64 c.args.id c.ranges.id)
    ∙ ap (insert c.args.self.now c.args.id) (to_z-of_z w64 c.args.seconds c.ranges.seconds)
