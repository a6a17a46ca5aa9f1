use Rattle.std.proofs.Common.{◌≡◌, ap, refl, rules, subst, ◌∙◌}
use Rattle.std.proofs.lemmas.Result.{on_ok_weaker}
use Rattle.zp_script.specs.Arriving.{frame_lines}
use Rattle.zp_script.specs.Worlds.{World}
use Rattle.zp_step.specs.Stages.{Core}
use Rattle.zp_step.specs.Steps.{Steps}
use Rattle.zp_world.specs.Doing.{left}
use Rattle.zp_world.proofs.Stepping.{leaves-free, stepped-by}
use Rattle.zp_world.proofs.world.World.step.Goals as goal

pub act-requires-clause-leaves : goal.act-requires-clause-leaves
act-requires-clause-leaves c =
    let before : c.deref_mut.result.now ≡ c.args.core.value = search rules in
    leaves-free c.args.core.value c.step.new.self c.args.input.now c.self.inside.clock c.in_ok-out.out.items c.args.flight c.requires.open c.requires.free
    (subst (λ (k : Core). Steps k c.args.input.now c.self.inside.clock c.step.new.self c.in_ok-out.out.items) before c.in_ok-out.ensures.ok)

pub returns : goal.returns
returns c =
    let at = ap (λ (w : World). w.clock) c.self.view_is in
    let before : c.deref_mut.result.now ≡ c.args.core.value = search rules in
    let steps = subst (λ (k : Core). Steps k c.args.input.now c.self.inside.clock c.step.new.self c.in_ok-out.out.items) before c.in_ok-out.ensures.ok in
    let none = c.into_iter-after.ensures.rest ∙ c.new.ensures.items in
    on_ok_weaker c.act.result
    (stepped-by c.args.connection c.args.self.now c.args.self.now (left c.args.seat) c.args.core.value c.step.new.self c.args.flight c.args.input.now c.self.inside.clock c.in_ok-out.out.items _ c.act.new.self
    refl at (ap (frame_lines c.args.connection c.args.seat.frames _) none) steps) c.act.ensures.done
