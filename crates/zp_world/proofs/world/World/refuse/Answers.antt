use Rattle.std.proofs.Common.{sym, ◌∙◌}
use Rattle.std.specs.Prelude.{None}
use Rattle.zp_world.specs.Activities.{actor_of}
use Rattle.zp_world.specs.Doing.{seated}
use Rattle.zp_world.proofs.Delivered.{refusal-delivered, none-stood}
use Rattle.zp_world.proofs.Possible.{ask-out}
use Rattle.zp_world.proofs.world.World.refuse.Goals as goal

pub returns-in_default : goal.returns-in_default
returns-in_default c =
    let o = (ask-out c.args.connection c.args.self.now None c.requires).0 in
    absurd (none-stood _ c.args.self.now c.args.connection o.conn c.self.view_is (sym c.in_default.is ∙ c.in_ok-activity.ensures.taken) o.found)

pub returns : goal.returns
returns c =
    refusal-delivered _ c.args.self.now c.args.connection c.take.new.self
    (seated c.activity.inside.seat (actor_of c.activity.inside.actor) c.activity.inside.flight) c.in-Some.activity
    c.self.view_is c.activity.view_is (sym c.in-Some.is ∙ c.in_ok-activity.ensures.taken) c.take.ensures.left
    c.deliver_failure.new.self c.deliver_failure.result c.deliver_failure.ensures
