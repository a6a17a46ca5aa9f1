use Rattle.std.proofs.Common.{◌≡◌, refl, subst, true, false, inr}
use Rattle.zp_script.specs.Worlds.{is_closed_actor}
use Rattle.zp_world.specs.Activities.{actor_of}
use Rattle.zp_world.specs.declared.activity.Actor.{Actor}
use Rattle.zp_world.proofs.Delivered.{failure-ends, failure-steps}
use Rattle.zp_world.proofs.world.World.deliver_failure.Goals as goal

pub step-requires-clause-free : goal.step-requires-clause-free
step-requires-clause-free c = inr (_, refl)

pub returns-in-Connection : goal.returns-in-Connection
returns-in-Connection c = failure-steps c.args.connection c.args.self.now c.step.new.self c.args.seat c.step.result c.args.actor c.in-Connection.core c.args.flight c.in-Connection.is c.step.ensures

pub returns-in-Reaper : goal.returns-in-Reaper
returns-in-Reaper c = failure-ends c.args.connection c.args.self.now c.end_reaper.new.self c.args.seat c.end_reaper.result c.args.actor c.in-Reaper._reaper c.args.flight c.in-Reaper.is c.end_reaper.ensures

pub returns-in-Closed : goal.returns-in-Closed
returns-in-Closed c = absurd (let e : true ≡ false = subst (λ (a : Actor). is_closed_actor (actor_of a) ≡ false) c.in-Closed.is c.requires.open in cc)
