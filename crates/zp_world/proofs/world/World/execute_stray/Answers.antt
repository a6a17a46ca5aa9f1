use Rattle.std.proofs.Common.{sym, ap, ◌∙◌}
use Rattle.zp_script.specs.Faults.{left_at}
use Rattle.zp_script.specs.Worlds.{World}
use Rattle.zp_world.proofs.Carried.{executes-stray, stray-left}
use Rattle.zp_world.proofs.world.World.execute_stray.Goals as goal

pub unreachable-requires : goal.unreachable-requires
unreachable-requires c = stray-left c.args.self.now c.args.number c.requires (ap (λ (w : World). left_at c.args.number w.strays) (sym c.self.view_is) ∙ sym c.take.ensures.taken ∙ c.in_default.is)

pub returns : goal.returns
returns c = executes-stray _ _ _ c.args.number c.in-Some.asking c.in_ok-carry.field-0 _ c.self.view_is (sym c.take.ensures.taken ∙ c.in-Some.is) c.in_ok-carry.ensures.carries c.in-Some.ensures.left
