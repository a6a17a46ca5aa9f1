use Rattle.std.proofs.lemmas.Result.{on_ok_weaker}
use Rattle.zp_world.proofs.Serving.{acted-on}
use Rattle.zp_world.proofs.world.World.act_on_frame.Goals as goal

pub returns-clause-after : goal.returns-clause-after
returns-clause-after c = c.act.ensures.after

pub returns-clause-done : goal.returns-clause-done
returns-clause-done c =
    on_ok_weaker c.act.result (λ done. acted-on c.args.arrival c.args.self.now c.show_frame.new.self c.act.new.self c.args.seat c.in_ok-seat.seat c.args.core.value c.args.flight c.args.stepped.bytes _ c.args.stepped.out.items c.number.result c.number.ensures.number c.in_ok-show_frame.ensures c.in_ok-seat.ensures done) c.act.ensures.done
