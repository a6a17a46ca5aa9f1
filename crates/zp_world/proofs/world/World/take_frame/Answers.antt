use Rattle.std.proofs.Common.{◌≡◌, sym, ap, ◌∙◌}
use Rattle.std.specs.Prelude.{Some}
use Rattle.std.specs.FinMap.{get}
use Rattle.std.proofs.lemmas.Result.{on_ok_weaker}
use Rattle.zp_script.specs.Worlds.{World, conn_at}
use Rattle.zp_world.specs.Activities.{actor_of}
use Rattle.zp_world.specs.declared.activity.Actor.{Actor as Role}
use Rattle.zp_world.proofs.Serving.{is-left, on-ok-both, takes-apart}
use Rattle.zp_world.proofs.Stepping.{opened-apart}
use Rattle.zp_world.proofs.world.World.take_frame.Goals as goal

pub returns-in-Connection-clause-left : goal.returns-in-Connection-clause-left
returns-in-Connection-clause-left c = on_ok_weaker c.step_by_frame.result (λ left. is-left _ _ _ left) c.step_by_frame.ensures.after

pub returns-in-Connection-clause-takes : goal.returns-in-Connection-clause-takes
returns-in-Connection-clause-takes c =
    let apart = opened-apart c.args.arrival.connection c.args.self.now _ c.take.new.self c.self.view_is c.take.ensures.left in
    let taken : conn_at c.args.arrival.connection c.args.self.now ≡ Some c.in-Some.activity = ap (λ (w : World). get w.conns c.args.arrival.connection) (sym c.self.view_is) ∙ sym c.in_ok-activity.ensures.taken ∙ c.in-Some.is in
    on-ok-both c.step_by_frame.result c.step_by_frame.ensures.after c.step_by_frame.ensures.done
    (λ left done. λ x core there is zxid. takes-apart c.args.arrival c.args.self.now _ c.step_by_frame.new.self x c.in-Some.activity c.activity.inside.seat (actor_of c.activity.inside.actor) c.in-Connection.core.value c.activity.inside.flight c.args.bytes _ _
    there taken c.activity.view_is (ap (λ (a : Role). actor_of a) c.in-Connection.is) apart zxid left done)
