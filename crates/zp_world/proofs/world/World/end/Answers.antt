use Rattle.std.proofs.Common.{refl, inr}
use Rattle.zp_world.proofs.Entered.{client-ended}
use Rattle.zp_world.proofs.Possible.{end-serves}
use Rattle.zp_world.proofs.world.World.end.Goals as goal

pub hand-requires : goal.hand-requires
hand-requires c = λ x core there is. (tt, inr (_, refl))

pub returns : goal.returns
returns c =
    let s = end-serves c.args.connection c.args.self.now c.requires in
    client-ended c.args.connection c.args.self.now c.hand.new.self c.hand.result c.end_of-place.result s (c.end_of-place.ensures s.conn s.found) c.hand.ensures
