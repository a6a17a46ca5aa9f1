use Rattle.std.proofs.Common.{ap, sym, ◌∙◌, w64, to_z, of_z}
use Rattle.std.proofs.lemmas.Int.{to_z-of_z}
use Rattle.std.specs.Cmp.{int_cmp_total}
use Rattle.std.specs.FinMap.{get}
use Rattle.ev_store.proofs.Entries.{get-lookup}
use Rattle.ev_store.proofs.leases.Leases.get.Goals as goal

pub returns : goal.returns
returns c =
    c.copied.ensures ∙ c.get.ensures.value ∙ sym (get-lookup int_cmp_total c.self.inside.seconds.entries (to_z w64 (of_z w64 c.args.id)))
    ∙ ap (get _) (to_z-of_z w64 c.args.id c.ranges.id) ∙ ap (λ m. get m c.args.id) c.self.view_is
