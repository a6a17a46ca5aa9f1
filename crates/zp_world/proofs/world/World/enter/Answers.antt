use Rattle.std.proofs.Common.{◌≡◌, sym, ap, ◌∙◌, refl, rules, inl}
use Rattle.std.specs.Prelude.{None, Some, pos, ◌+ℤ◌}
use Rattle.std.specs.Arc.{arc_value}
use Rattle.zp_script.specs.Entries.{cursor_at, entry_after}
use Rattle.zp_world.proofs.Awaiting.{awaits-next, cursor-is, cursor-wanted, flight-none, next-number}
use Rattle.zp_world.proofs.Entered.{entered}
use Rattle.zp_world.proofs.Possible.{entry-cursor, entry-missing, entry-serves}
use Rattle.zp_world.proofs.world.World.enter.Goals as goal

pub hand-requires : goal.hand-requires
hand-requires c = λ x core there is.
    let at : cursor_at c.args.connection c.args.self.now ≡ Some c.in-Some.cursor = sym c.cursor_of.ensures ∙ c.in-Some.is in
    let wanted = cursor-wanted c.args.self.now c.args.connection x core c.in-Some.cursor there is at in
    let after : entry_after c.self.inside.entries c.in-Some.cursor ≡ Some (arc_value c.in-Some-2.entry) = search rules in
    let number = next-number c.self.inside.entries c.in-Some.cursor (arc_value c.in-Some-2.entry) c.are_numbered.ensures after in (
      record { awaited = awaits-next core c.in-Some.cursor wanted; number = number ∙ ap (λ z. z +ℤ pos 1) (cursor-is core c.in-Some.cursor wanted) },
      inl (flight-none c.args.self.now c.args.connection x there (entry-serves c.args.connection c.args.self.now c.requires).free),
    )

pub returns-in_default : goal.returns-in_default
returns-in_default c = absurd (entry-cursor c.args.connection c.args.self.now (entry-serves c.args.connection c.args.self.now c.requires) (sym c.cursor_of.ensures ∙ c.in_default.is))

pub returns-in-Some-2 : goal.returns-in-Some-2
returns-in-Some-2 c =
    let at : cursor_at c.args.connection c.args.self.now ≡ Some c.in-Some.cursor = sym c.cursor_of.ensures ∙ c.in-Some.is in
    let after : entry_after c.args.self.now.entries c.in-Some.cursor ≡ Some (arc_value c.in-Some-2.entry) = search rules in
    entered c.args.connection c.args.self.now c.hand.new.self c.hand.result _ (arc_value c.in-Some-2.entry) c.in-Some.cursor
    (entry-serves c.args.connection c.args.self.now c.requires).serving at after refl c.hand.ensures

pub returns-in-None : goal.returns-in-None
returns-in-None c =
    let at : cursor_at c.args.connection c.args.self.now ≡ Some c.in-Some.cursor = sym c.cursor_of.ensures ∙ c.in-Some.is in
    let lacks : entry_after c.args.self.now.entries c.in-Some.cursor ≡ None = search rules in
    absurd (entry-missing c.args.connection c.args.self.now c.in-Some.cursor (entry-serves c.args.connection c.args.self.now c.requires) at lacks)
