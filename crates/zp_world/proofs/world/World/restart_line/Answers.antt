use Rattle.zp_world.proofs.Refusing.{restart-line}
use Rattle.zp_world.proofs.world.World.restart_line.Goals as goal

pub returns : goal.returns
returns c = record { possible = restart-line c.args.self.now c.args.proxy; effect = c.in_ok-restart.ensures }
