use Rattle.std.proofs.Common.{ap, sym, ◌∙◌}
use Rattle.std.specs.Prelude.{Some}
use Rattle.zp_world.specs.Activities.{actor_of}
use Rattle.zp_world.specs.Doing.{seated}
use Rattle.zp_world.proofs.Delivered.{answer-delivered, denial-delivered, none-stood, stood}
use Rattle.zp_world.proofs.Possible.{answer-carried, answer-flies, answer-out, out-of}
use Rattle.zp_world.proofs.world.World.deliver.Goals as goal

pub returns-in_default : goal.returns-in_default
returns-in_default c =
    let o = answer-out c.args.connection c.args.self.now c.requires in
    absurd (none-stood _ c.args.self.now c.args.connection o.conn c.self.view_is (sym c.in_default.is ∙ c.in_ok-activity.ensures.taken) o.found)

pub returns-in-Some-Carried : goal.returns-in-Some-Carried
returns-in-Some-Carried c =
    answer-delivered _ c.args.self.now c.args.connection c.take.new.self
    (seated c.activity.inside.seat (actor_of c.activity.inside.actor) c.activity.inside.flight) c.in-Some.activity
    c.self.view_is c.activity.view_is (sym c.in-Some.is ∙ c.in_ok-activity.ensures.taken) c.take.ensures.left
    c.deliver_answer.new.self c.in-Some-Carried.answer c.deliver_answer.result (c.in-Some-Carried.is ∙ ap Some c.in-Some-Carried.field-0-is) c.deliver_answer.ensures

pub returns-in-Some-Denied : goal.returns-in-Some-Denied
returns-in-Some-Denied c =
    denial-delivered _ c.args.self.now c.args.connection c.take.new.self
    (seated c.activity.inside.seat (actor_of c.activity.inside.actor) c.activity.inside.flight) c.in-Some.activity
    c.self.view_is c.activity.view_is (sym c.in-Some.is ∙ c.in_ok-activity.ensures.taken) c.take.ensures.left
    c.deliver_failure.new.self c.deliver_failure.result (c.in-Some-Denied.is ∙ ap Some c.in-Some-Denied.field-0-is) c.deliver_failure.ensures

pub deliver_answer-requires-clause-open : goal.deliver_answer-requires-clause-open
deliver_answer-requires-clause-open c =
    let there = stood _ c.args.self.now c.args.connection c.take.new.self
    (seated c.activity.inside.seat (actor_of c.activity.inside.actor) c.activity.inside.flight) c.in-Some.activity c.self.view_is c.activity.view_is (sym c.in-Some.is ∙ c.in_ok-activity.ensures.taken) c.take.ensures.left in
    (out-of c.args.connection c.args.self.now (seated c.activity.inside.seat (actor_of c.activity.inside.actor) c.activity.inside.flight) (answer-out c.args.connection c.args.self.now c.requires) there).0

pub deliver_failure-requires-clause-open : goal.deliver_failure-requires-clause-open
deliver_failure-requires-clause-open c =
    let there = stood _ c.args.self.now c.args.connection c.take.new.self
    (seated c.activity.inside.seat (actor_of c.activity.inside.actor) c.activity.inside.flight) c.in-Some.activity c.self.view_is c.activity.view_is (sym c.in-Some.is ∙ c.in_ok-activity.ensures.taken) c.take.ensures.left in
    (out-of c.args.connection c.args.self.now (seated c.activity.inside.seat (actor_of c.activity.inside.actor) c.activity.inside.flight) (answer-out c.args.connection c.args.self.now c.requires) there).0

pub unreachable-requires : goal.unreachable-requires
unreachable-requires c =
    let there = stood _ c.args.self.now c.args.connection c.take.new.self
    (seated c.activity.inside.seat (actor_of c.activity.inside.actor) c.activity.inside.flight) c.in-Some.activity c.self.view_is c.activity.view_is (sym c.in-Some.is ∙ c.in_ok-activity.ensures.taken) c.take.ensures.left in
    answer-carried c.args.connection c.args.self.now (seated c.activity.inside.seat (actor_of c.activity.inside.actor) c.activity.inside.flight) c.in-Some-Out.field-0-0 c.requires there (c.in-Some-Out.is ∙ ap Some c.in-Some-Out.field-0-is)

pub unreachable-requires-in-None : goal.unreachable-requires-in-None
unreachable-requires-in-None c =
    let there = stood _ c.args.self.now c.args.connection c.take.new.self
    (seated c.activity.inside.seat (actor_of c.activity.inside.actor) c.activity.inside.flight) c.in-Some.activity c.self.view_is c.activity.view_is (sym c.in-Some.is ∙ c.in_ok-activity.ensures.taken) c.take.ensures.left in
    answer-flies c.args.connection c.args.self.now (seated c.activity.inside.seat (actor_of c.activity.inside.actor) c.activity.inside.flight) c.requires there c.in-None.is
