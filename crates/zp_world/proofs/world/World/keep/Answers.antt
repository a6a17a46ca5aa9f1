use Rattle.std.proofs.Common.{◌≡◌, ap, sym, ◌∙◌}
use Rattle.std.specs.FinMap.{get}
use Rattle.std.specs.Prelude.{Some}
use Rattle.std.proofs.lemmas.Result.{on_ok_weaker}
use Rattle.zp_script.specs.Worlds.{World, conn_at}
use Rattle.zp_world.specs.Activities.{actor_of}
use Rattle.zp_world.proofs.Coming.{kept-inbox}
use Rattle.zp_world.proofs.world.World.keep.Goals as goal

pub returns : goal.returns
returns c =
    let found : conn_at c.args.connection c.args.self.now ≡ Some c.in-Some.activity = ap (λ (w : World). get w.conns c.args.connection) (sym c.self.view_is) ∙ sym c.in_ok-activity.ensures.taken ∙ c.in-Some.is in
    on_ok_weaker c.put.result
    (λ put. λ x there. kept-inbox c.args.connection c.args.self.now _ c.put.new.self c.take.new.self x c.in-Some.activity c.activity.inside.seat (actor_of c.activity.inside.actor) c.activity.inside.flight c.args.inbox c.self.view_is there found c.activity.view_is c.take.ensures.left put)
    c.put.ensures
