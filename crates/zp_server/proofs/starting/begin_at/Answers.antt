use Rattle.zp_server.proofs.Placing.{placed_first}
use Rattle.zp_server.proofs.starting.begin_at.Goals as goal

pub invariant_of-result : goal.invariant_of-result
invariant_of-result g c = record { placed = placed_first _ _ c.requires.new c.requires.at }
