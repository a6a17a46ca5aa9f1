use Rattle.std.proofs.Common.{◌≡◌, sym, ap, ◌∙◌, subst, true}
use Rattle.std.proofs.lemmas.Result.{on_ok_weaker}
use Rattle.zp_script.specs.Faults.{is_to_carry_out}
use Rattle.zp_script.specs.Worlds.{Conn, World, conn_at}
use Rattle.zp_world.specs.Activities.{actor_of}
use Rattle.zp_world.specs.Flying.{IsActive}
use Rattle.zp_world.proofs.Carried.{carried-active, exec-out, exec-there, executes, none-out, out-fit, out-is}
use Rattle.zp_world.proofs.world.World.execute.Goals as goal

pub unreachable-requires : goal.unreachable-requires
unreachable-requires c = exec-there c.args.self.now c.args.connection c.requires (ap (λ (w : World). conn_at c.args.connection w) (sym c.self.view_is) ∙ sym c.in_ok-activity.ensures.taken ∙ c.in_default.is)

pub invariant_of-put : goal.invariant_of-put
invariant_of-put c =
    let out = out-is c.activity.inside.flight c.in-Some-asking_out.asking (sym c.asking_out.ensures ∙ c.in-Some-asking_out.is) in
    carried-active (actor_of c.activity.inside.actor) c.in-Some-asking_out.asking c.in_ok-flight.flight (subst (IsActive (actor_of c.activity.inside.actor)) out c.activity.invariant) c.in_ok-flight.ensures.answer

pub carry-requires : goal.carry-requires
carry-requires c =
    let out = out-is c.activity.inside.flight c.in-Some-asking_out.asking (sym c.asking_out.ensures ∙ c.in-Some-asking_out.is) in
    out-fit (actor_of c.activity.inside.actor) c.in-Some-asking_out.asking (subst (IsActive (actor_of c.activity.inside.actor)) out c.activity.invariant)

pub returns : goal.returns
returns c =
    let out = out-is c.activity.inside.flight c.in-Some-asking_out.asking (sym c.asking_out.ensures ∙ c.in-Some-asking_out.is) in
    on_ok_weaker c.put.result (λ put. executes _ _ _ _ c.args.connection _ _ c.in-Some-asking_out.asking c.in_ok-flight.flight _ _ c.self.view_is c.activity.view_is (sym c.in_ok-activity.ensures.taken ∙ c.in-Some.is) out c.in_ok-flight.ensures.carries c.take.ensures.left c.self-2.view_is put) c.put.ensures

pub unreachable-requires-in_default-asking_out : goal.unreachable-requires-in_default-asking_out
unreachable-requires-in_default-asking_out c =
    let carried : is_to_carry_out c.in-Some.activity.flight ≡ true = exec-out c.args.self.now c.args.connection c.in-Some.activity c.requires (ap (λ (w : World). conn_at c.args.connection w) (sym c.self.view_is) ∙ sym c.in_ok-activity.ensures.taken ∙ c.in-Some.is) in
    none-out c.activity.inside.flight (sym c.asking_out.ensures ∙ c.in_default-asking_out.is) (ap (λ (x : Conn). is_to_carry_out x.flight) c.activity.view_is ∙ carried)
