use Rattle.std.proofs.Common.{ap, ◌∙◌, w64, to_z, of_z}
use Rattle.std.proofs.lemmas.Int.{to_z-of_z}
use Rattle.std.specs.Cmp.{int_cmp_total}
use Rattle.std.specs.FinMap.{remove}
use Rattle.std.proofs.lemmas.Map.Lookups.{exact_signed}
use Rattle.ev_store.proofs.Entries.{from_entries-without}
use Rattle.ev_store.proofs.leases.Leases.remove.Goals as goal

pub returns : goal.returns
returns c =
    let id = to_z w64 (of_z w64 c.args.id) in
    from_entries-without int_cmp_total exact_signed c.self.inside.seconds.entries c.remove.new.self.entries id c.remove.ensures.updates.0
    ∙ ap (λ m. remove m id) c.self.view_is
    ∙ ap (remove c.args.self.now) (to_z-of_z w64 c.args.id c.ranges.id)
