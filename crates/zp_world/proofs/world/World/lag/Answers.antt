use Rattle.std.proofs.Common.{◌≡◌, ◌-◌, ℤ, subst, sym, ap, ◌∙◌, refl, rules, arith, inr, true, w64, to_z, of_z}
use Rattle.std.specs.Prelude.{OnOk, Some, pos, ◌+ℤ◌, int_lt, length}
use Rattle.std.proofs.lemmas.Int.{ints}
use Rattle.zp_script.specs.Entries.{cursor_at, is_lagging_at, max_kept_entries}
use Rattle.zp_step.specs.declared.input.Input.TheVariants.{Lagged}
use Rattle.zp_world.proofs.Awaiting.{awaits-next, cursor-is, cursor-wanted}
use Rattle.zp_world.proofs.Entered.{HandsTo, lagged}
use Rattle.zp_world.proofs.Possible.{entry-cursor, lag-serves}
use Rattle.zp_world.proofs.world.World.lag.Goals as goal

pub hand-requires : goal.hand-requires
hand-requires c = λ x core there is.
    let at : cursor_at c.args.connection c.args.self.now ≡ Some c.in-Some.cursor = sym c.cursor_of.ensures ∙ c.in-Some.is in
    let wanted = cursor-wanted c.args.self.now c.args.connection x core c.in-Some.cursor there is at in
    let lagging : int_lt (c.in-Some.cursor +ℤ pos 4096) (pos (length c.args.self.now.entries)) ≡ true = sym (ap (is_lagging_at (length c.args.self.now.entries)) at) ∙ (lag-serves c.args.connection c.args.self.now c.requires).1 in
    let same : to_z w64 (of_z w64 c.in-Some.cursor) ≡ c.in-Some.cursor = search rules in
    rw same (record { awaited = awaits-next core c.in-Some.cursor wanted; own = cursor-is core c.in-Some.cursor wanted; above = grind (arith, ints, lagging) }, inr (_, refl))

pub returns-in_default : goal.returns-in_default
returns-in_default c = absurd (entry-cursor c.args.connection c.args.self.now (lag-serves c.args.connection c.args.self.now c.requires).0 (sym c.cursor_of.ensures ∙ c.in_default.is))

pub returns : goal.returns
returns c =
    let at : cursor_at c.args.connection c.args.self.now ≡ Some c.in-Some.cursor = sym c.cursor_of.ensures ∙ c.in-Some.is in
    let floor : c.in-Ok.floor ≡ pos (length c.args.self.now.entries - max_kept_entries) = grind (arith, ints) in
    let same : to_z w64 (of_z w64 c.in-Some.cursor) ≡ c.in-Some.cursor = search rules in
    let fits : to_z w64 (of_z w64 c.in-Ok.floor) ≡ c.in-Ok.floor = search rules in
    lagged c.args.connection c.args.self.now c.hand.new.self c.hand.result c.in-Some.cursor c.in-Ok.floor
    (lag-serves c.args.connection c.args.self.now c.requires).0.serving at floor
    (subst (λ (z : ℤ). OnOk c.hand.result (HandsTo c.args.connection c.args.self.now (Lagged c.in-Some.cursor z) c.hand.new.self)) fits
    (subst (λ (z : ℤ). OnOk c.hand.result (HandsTo c.args.connection c.args.self.now (Lagged z (to_z w64 (of_z w64 c.in-Ok.floor))) c.hand.new.self)) same c.hand.ensures))
