use Rattle.std.proofs.Common.{◌≡◌, ◌+◌, ap, rules, subst}
use Rattle.std.specs.Vec.Iter.{into_iter_items}
use Rattle.zp_step.specs.Stages.{Core, counted_up}
use Rattle.zp_step.specs.Steps.{Steps}
use Rattle.zp_step.specs.declared.input.Input.TheVariants.{Frame}
use Rattle.zp_world.specs.Doing.{outcome}
use Rattle.zp_world.specs.Taking.{left_next, shown}
use Rattle.std.proofs.lemmas.Result.{on_ok_weaker}
use Rattle.zp_script.specs.Worlds.{World}
use Rattle.zp_world.proofs.Serving.{fit-flying, left-after, on-ok-both, stepped-frame}
use Rattle.zp_world.proofs.Standing.{leaves-frame}
use Rattle.zp_world.proofs.world.World.step_by_frame.Goals as goal

pub act_on_frame-requires-clause-leaves : goal.act_on_frame-requires-clause-leaves
act_on_frame-requires-clause-leaves c =
    let before : c.deref_mut.result.now ≡ c.args.core.value = search rules in
    leaves-frame c.args.core.value c.step_with.new.core c.args.bytes c.self.inside.clock c.in_ok-stepped.stepped.out.items c.args.flight c.requires.served.live c.requires.served.flies
    (subst (λ (k : Core). Steps k (Frame c.args.bytes) c.self.inside.clock c.step_with.new.core c.in_ok-stepped.stepped.out.items) before c.in_ok-stepped.ensures.steps)

pub act_on_frame-requires-clause-fit : goal.act_on_frame-requires-clause-fit
act_on_frame-requires-clause-fit c = fit-flying c.args.core.value c.args.flight c.requires.served.flies

pub returns-clause-after : goal.returns-clause-after
returns-clause-after c =
    on-ok-both c.act_on_frame.result c.act_on_frame.ensures.after c.act_on_frame.ensures.done
    (λ left done. left-after c.args.arrival.connection (shown c.args.arrival c.args.self.now c.args.seat c.in_ok-stepped.stepped.bytes) c.act_on_frame.new.self (left_next c.args.seat) c.step_with.new.core
    (outcome c.args.arrival c.step_with.new.core (counted_up (c.args.seat.frames + 1)) (into_iter_items c.args.after.now) c.args.flight c.in_ok-stepped.stepped.out.items) _ _ left done)

pub returns-clause-done : goal.returns-clause-done
returns-clause-done c =
    let at = ap (λ (w : World). w.clock) c.self.view_is in
    let before : c.deref_mut.result.now ≡ c.args.core.value = search rules in
    let steps = subst (λ (k : Core). Steps k (Frame c.args.bytes) c.self.inside.clock c.step_with.new.core c.in_ok-stepped.stepped.out.items) before c.in_ok-stepped.ensures.steps in
    on_ok_weaker c.act_on_frame.result (λ done. stepped-frame c.args.arrival c.args.self.now c.act_on_frame.new.self c.args.seat c.args.core.value c.step_with.new.core c.args.flight c.args.bytes c.in_ok-stepped.stepped.bytes _ c.self.inside.clock c.in_ok-stepped.stepped.out.items at c.in_ok-stepped.ensures.bytes steps done) c.act_on_frame.ensures.done
