use Rattle.std.proofs.Common.{◌≡◌, ℕ, suc, ◌+◌, ◌-◌, refl, sym, subst, arith, ◌∙◌}
use Rattle.rand_pcg.specs.Lcg.{Lcg}
use Rattle.zp_clients.specs.Draws.{IsInRange}
use Rattle.zp_clients.specs.declared.draw.Draw.{Draw}
use Rattle.zp_stress.specs.Schedules.{Steps, Walks}
use Rattle.zp_stress.proofs.schedule.walk.Goals as goal

pub loop-done-init : goal.loop-done-init
loop-done-init c = record {
  long = c.requires.long;
  walks = λ end h.
      let all : c.args.steps - 0 ≡ c.args.steps = omega arith in
      subst (λ (n : ℕ). Walks c.args.connections n c.args.words.now c.args.lasts.now.items c.args.world.now end) all h;
}

pub step-requires : goal.step-requires
step-requires c = subst (IsInRange c.drawn-draw.result) (sym c.loop-done.invariant.long) c.drawn-draw.ensures.range

pub loop-done-preserved : goal.loop-done-preserved
loop-done-preserved c = record {
  long = c.in_ok-step.ensures.long ∙ c.loop-done.invariant.long;
  walks = λ end h.
      let left : ℕ = c.args.steps - (c.loop-done._done + 1) in
      let one : suc left ≡ c.args.steps - c.loop-done._done = omega arith in
      let steps = subst (λ (x : Draw). Steps x c.loop-done.lasts.items c.loop-done.world c.step.new.lasts.items c.step.new.world) c.drawn-draw.ensures.value c.in_ok-step.ensures.does in
      let more = subst (λ (g : Lcg). Walks c.args.connections left g c.step.new.lasts.items c.step.new.world end) c.drawn-draw.ensures.next h in
      c.loop-done.invariant.walks end (subst (λ (n : ℕ). Walks c.args.connections n c.loop-done.words c.loop-done.lasts.items c.loop-done.world end) one
      (c.step.new.lasts.items, c.step.new.world, steps, more));
}

pub returns : goal.returns
returns c =
    let none : 0 ≡ c.args.steps - c.loop-done._done = omega arith in
    c.loop-done.invariant.walks c.loop-done.world (subst (λ (n : ℕ). Walks c.args.connections n c.loop-done.words c.loop-done.lasts.items c.loop-done.world c.loop-done.world) none refl)
