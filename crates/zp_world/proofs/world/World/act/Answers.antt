use Rattle.std.proofs.Common.{◌≡◌, false, refl, sym, subst}
use Rattle.zp_script.specs.Worlds.{Actor}
use Rattle.zp_step.specs.Stages.{Core, is_shut}
use Rattle.zp_world.specs.Flying.{IsActive, IsFlyingOf}
use Rattle.zp_world.proofs.Acting.{active-after}
use Rattle.zp_world.proofs.world.World.act.Goals as goal

pub invariant_of-put : goal.invariant_of-put
invariant_of-put c =
    let flies = subst (λ (k : Core). is_shut k.stage ≡ false → IsFlyingOf k c.in_ok-flight.flight) c.deref.ensures c.in_ok-flight.ensures.flies in
    subst (λ (a : Actor). IsActive a c.in_ok-flight.flight) (sym c.actor_after-actor.ensures)
    (active-after c.args.core.value c.in_ok-flight.flight (is_shut c.args.core.value.stage) refl c.in_ok-flight.ensures.fit flies)
