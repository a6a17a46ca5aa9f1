use Rattle.zw_watch.specs.Armed.{watches_of}
use Rattle.zw_watch.proofs.Hearing.{heard}
use Rattle.zw_watch.proofs.sets.PathSets.bits.Goals as goal

pub returns : goal.returns
returns c = heard (watches_of c.args.self.now) c.bits.result c.bits-2.result c.across.result c.bits.ensures c.bits-2.ensures c.across.ensures
