use Rattle.std.proofs.Common.{◌≡◌, ap, sym, ◌∙◌, subst}
use Rattle.std.specs.FinMap.{get}
use Rattle.std.specs.Prelude.{Some}
use Rattle.zx_base.proofs.Options.{some_is}
use Rattle.zk_wire.specs.Cutting.{Stream}
use Rattle.zp_script.specs.Arriving.{CutsFrames}
use Rattle.zp_script.specs.Worlds.{World, Conn, conn_at}
use Rattle.zp_world.specs.Activities.{actor_of}
use Rattle.zp_world.proofs.Coming.{kept-inbox}
use Rattle.zp_world.proofs.world.World.cut.Goals as goal

pub returns-clause-cuts : goal.returns-clause-cuts
returns-clause-cuts c =
    let found : conn_at c.args.connection c.args.self.now ≡ Some c.in-Some.activity = ap (λ (w : World). get w.conns c.args.connection) (sym c.self.view_is) ∙ sym c.in_ok-activity.ensures.taken ∙ c.in-Some.is in
    let cut = c.in_ok-cut.cut in
    λ x there.
    let same : c.in-Some.activity ≡ x = some_is (sym found ∙ there) in
    let stream : c.activity.inside.seat.inbox ≡ x.stream = ap (λ (y : Conn). y.stream) (c.activity.view_is ∙ same) in
    record {
      stream = cut.inbox;
      cuts = subst (λ (s : Stream). CutsFrames s c.args.bytes.now cut.frames.items cut.bad cut.inbox) stream c.in_ok-cut.ensures.cuts;
      at = c.place-place.ensures;
      kept = kept-inbox c.args.connection c.args.self.now _ c.put.new.self c.take.new.self x c.in-Some.activity c.activity.inside.seat (actor_of c.activity.inside.actor) c.activity.inside.flight cut.inbox c.self.view_is there found c.activity.view_is c.take.ensures.left c.in_ok-put.ensures;
    }
