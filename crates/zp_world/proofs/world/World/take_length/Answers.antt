use Rattle.std.proofs.Common.{◌≡◌, ap, inr, of_z, refl, rules, subst, sym, to_z, w32, ◌∙◌}
use Rattle.std.specs.Prelude.{Option, Some, ℤ}
use Rattle.std.proofs.lemmas.Result.{on_ok_weaker}
use Rattle.zp_script.specs.Arriving.{EndsBadly}
use Rattle.zp_world.proofs.Coming.{ends-open}
use Rattle.zp_world.proofs.world.World.take_length.Goals as goal

pub hand-requires : goal.hand-requires
hand-requires c = λ x core there is. (tt, inr (_, refl))

pub returns-then-is_open : goal.returns-then-is_open
returns-then-is_open c =
    let n : ℤ = to_z w32 (of_z w32 c.in-Some.length) in
    let same : n ≡ c.in-Some.length = search rules in
    on_ok_weaker c.hand.result
    (λ handed. λ at. subst (λ (o : Option ℤ). EndsBadly c.args.connection c.args.self.now c.args.place o c.hand.new.self) (ap Some same ∙ sym c.in-Some.is)
    (ends-open c.args.connection c.args.self.now c.hand.new.self c.args.place n (sym c.is_open.ensures ∙ c.if-is_open.true) at handed)) c.hand.ensures
