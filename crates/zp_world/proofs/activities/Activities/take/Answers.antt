use Rattle.std.proofs.Common.{ap, sym, ◌∙◌, subst}
use Rattle.std.specs.Cmp.{nat_cmp_total}
use Rattle.std.specs.FinMap.{from_entries, get, remove}
use Rattle.std.proofs.lemmas.Map.Lookups.{exact_unsigned}
use Rattle.std.proofs.lemmas.Result.{IfOk-weaker}
use Rattle.ev_store.proofs.Entries.{get-lookup, from_entries-without}
use Rattle.zp_world.specs.Activities.{AreWithin}
use Rattle.zp_world.proofs.Within.{within-removed}
use Rattle.zp_world.proofs.activities.Activities.take.Goals as goal

pub invariant_of-self : goal.invariant_of-self
invariant_of-self c =
    subst AreWithin (sym (from_entries-without nat_cmp_total exact_unsigned c.self.inside.by_number.entries c.remove-taken.new.self.entries c.args.number c.remove-taken.ensures.updates.0))
    (within-removed (from_entries c.self.inside.by_number.entries) c.args.number c.self.invariant)

pub returns-clause-taken : goal.returns-clause-taken
returns-clause-taken c =
    IfOk-weaker c.activity_in.result _ _
    (λ activity same. same ∙ c.remove-taken.ensures.value ∙ sym (get-lookup nat_cmp_total c.self.inside.by_number.entries c.args.number) ∙ ap (λ m. get m c.args.number) c.self.view_is) c.activity_in.ensures

pub returns-clause-left : goal.returns-clause-left
returns-clause-left c =
    from_entries-without nat_cmp_total exact_unsigned c.self.inside.by_number.entries c.remove-taken.new.self.entries c.args.number c.remove-taken.ensures.updates.0 ∙ ap (λ m. remove m c.args.number) c.self.view_is
