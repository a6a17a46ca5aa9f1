use Rattle.std.proofs.Common.{[], rules}
use Rattle.zetcd_cmd.proofs.Reaching.{reached-first}
use Rattle.zetcd_cmd.proofs.script.Script.new.Goals as goal
use Rattle.zetcd_cmd.specs.Reached.{Reached}

pub returns : goal.returns
returns c =
    let reached : Reached [] c.in_ok-world.world = reached-first c.in_ok-world.world c.in_ok-world.ensures.first (record { frames = c.in_ok-world.ensures.within }) in
    search (rules, reached)
