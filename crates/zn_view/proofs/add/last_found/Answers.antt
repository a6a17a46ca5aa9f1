use Rattle.zn_view.proofs.LastParts.{last_from-none}
use Rattle.zn_view.proofs.add.last_found.Goals as goal

pub loop-part-init : goal.loop-part-init
loop-part-init c = last_from-none c.args.parts.now
