use Rattle.std.proofs.Common.{◌≡◌, sym, ap, ◌∙◌, subst}
use Rattle.std.specs.Prelude.{Option, Some, []}
use Rattle.std.specs.FinMap.{get}
use Rattle.std.proofs.lemmas.Result.{on_ok_weaker}
use Rattle.zx_base.proofs.Options.{some_is}
use Rattle.zp_script.specs.declared.flight.Flight.{Flight}
use Rattle.zp_script.specs.Worlds.{Conn, Connection, World, conn_at}
use Rattle.zp_world.specs.Activities.{actor_of}
use Rattle.zp_world.specs.Doing.{Stepped, left}
use Rattle.zp_world.specs.Flying.{LeavesFree}
use Rattle.zp_world.specs.declared.activity.Actor.{Actor as Role}
use Rattle.zp_world.proofs.Stepping.{handed-apart, opened-apart}
use Rattle.zp_world.proofs.world.World.hand.Goals as goal

pub step-requires-clause-free : goal.step-requires-clause-free
step-requires-clause-free c =
    let there : conn_at c.args.connection c.args.self.now ≡ Some c.in-Some.activity =
    ap (λ (w : World). get w.conns c.args.connection) (sym c.self.view_is) ∙ sym c.in_ok-activity.ensures.taken ∙ c.in-Some.is in
    let serves : c.in-Some.activity.actor ≡ Connection c.in-Connection.core.value = ap (λ (x : Conn). x.actor) (sym c.activity.view_is) ∙ ap (λ (a : Role). actor_of a) c.in-Connection.is in
    subst (λ (f : Option Flight). LeavesFree f c.args.input.now) (ap (λ (x : Conn). x.flight) (sym c.activity.view_is))
    (c.requires c.in-Some.activity c.in-Connection.core.value there serves).1

pub returns-in-Connection : goal.returns-in-Connection
returns-in-Connection c =
    let apart = opened-apart c.args.connection c.args.self.now _ c.take.new.self c.self.view_is c.take.ensures.left in
    on_ok_weaker c.step.result
    (λ stepped. λ x core there is.
    handed-apart c.args.connection [] c.args.self.now x c.activity.inside.seat (actor_of c.activity.inside.actor) c.in-Connection.core.value c.activity.inside.flight c.args.input.now c.step.new.self there
    (some_is (sym there ∙ ap (λ (w : World). get w.conns c.args.connection) (sym c.self.view_is) ∙ sym c.in_ok-activity.ensures.taken ∙ c.in-Some.is) ∙ sym c.activity.view_is)
    (ap (λ (a : Role). actor_of a) c.in-Connection.is)
    (subst (λ (w : World). Stepped c.args.connection [] w (left c.activity.inside.seat) c.in-Connection.core.value c.activity.inside.flight c.args.input.now c.step.new.self) apart stepped)) c.step.ensures
