use Rattle.std.proofs.Common.{◌≡◌, subst, true, false}
use Rattle.zp_script.specs.Worlds.{is_closed_actor}
use Rattle.zp_world.specs.Activities.{actor_of}
use Rattle.zp_world.specs.declared.activity.Actor.{Actor}
use Rattle.zp_world.proofs.Delivered.{answer-reaps, answer-steps}
use Rattle.zp_world.proofs.world.World.deliver_answer.Goals as goal

pub returns-in-Connection : goal.returns-in-Connection
returns-in-Connection c = answer-steps c.args.connection c.args.self.now c.step.new.self c.args.seat c.step.result c.args.actor c.in-Connection.core c.args.answer c.in-Connection.is c.step.ensures

pub returns-in-Reaper : goal.returns-in-Reaper
returns-in-Reaper c = answer-reaps c.args.connection c.args.self.now c.reap_on.new.self c.args.seat c.reap_on.result c.args.actor c.in-Reaper.reaper c.args.answer c.in-Reaper.is c.reap_on.ensures

pub returns-in-Closed : goal.returns-in-Closed
returns-in-Closed c = absurd (let e : true ≡ false = subst (λ (a : Actor). is_closed_actor (actor_of a) ≡ false) c.in-Closed.is c.requires.open in cc)
