use Rattle.std.proofs.Common.{ap, sym, ◌∙◌}
use Rattle.std.specs.Cmp.{nat_cmp_total}
use Rattle.std.specs.FinMap.{get}
use Rattle.ev_store.proofs.Entries.{get-lookup}
use Rattle.zp_world.proofs.activities.Activities.get.Goals as goal

pub returns : goal.returns
returns c = c.get.ensures.value ∙ sym (get-lookup nat_cmp_total c.self.inside.by_number.entries c.args.number) ∙ ap (λ m. get m c.args.number) c.self.view_is
