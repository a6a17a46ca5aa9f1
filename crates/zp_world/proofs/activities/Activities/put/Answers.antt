use Rattle.std.proofs.Common.{List, ℕ, ◌<◌, ap, sym, ◌∙◌, subst}
use Rattle.std.specs.Cmp.{nat_cmp_total}
use Rattle.std.specs.FinMap.{from_entries, insert}
use Rattle.std.proofs.lemmas.Map.Lookups.{exact_unsigned}
use Rattle.ev_store.proofs.Entries.{from_entries-update}
use Rattle.zp_script.specs.Worlds.{Conn}
use Rattle.zp_step.specs.Stages.{max_count}
use Rattle.zp_world.specs.Activities.{AreWithin}
use Rattle.zp_world.proofs.Within.{within-inserted}
use Rattle.zp_world.proofs.activities.Activities.put.Goals as goal

pub invariant_of-self : goal.invariant_of-self
invariant_of-self c = subst (λ (es : List (ℕ × Conn)). AreWithin (from_entries es)) (sym c.in_err-insert.ensures.err) c.self.invariant

pub invariant_of-self-2 : goal.invariant_of-self-2
invariant_of-self-2 c =
    let within = subst (λ (x : Conn). x.frames < max_count) (sym c.in_ok-slot.ensures) c.know.ensures.within in
    subst AreWithin (sym (from_entries-update nat_cmp_total exact_unsigned c.self.inside.by_number.entries c.insert.new.self.entries c.args.number c.in_ok-slot.slot c.in_ok-insert.ensures.updates.0))
    (within-inserted (from_entries c.self.inside.by_number.entries) c.args.number c.in_ok-slot.slot within c.self.invariant)

pub returns : goal.returns
returns c =
    from_entries-update nat_cmp_total exact_unsigned c.self.inside.by_number.entries c.insert.new.self.entries c.args.number c.in_ok-slot.slot c.in_ok-insert.ensures.updates.0
    ∙ ap (λ m. insert m c.args.number c.in_ok-slot.slot) c.self.view_is
    ∙ ap (λ (x : Conn). insert c.args.self.now c.args.number x) c.in_ok-slot.ensures
