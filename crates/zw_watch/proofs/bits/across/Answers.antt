use Rattle.zw_watch.proofs.Hearing.{across-bit}
use Rattle.zw_watch.proofs.bits.across.Goals as goal

pub returns : goal.returns
returns c i below = across-bit c.args.bits i c.ranges.bits.fits below
