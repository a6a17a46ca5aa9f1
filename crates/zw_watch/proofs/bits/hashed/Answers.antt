use Rattle.std.proofs.Common.{◌∙◌}
use Rattle.zw_watch.proofs.Hearing.{hashed-next, hashed-done}
use Rattle.zw_watch.proofs.bits.hashed.Goals as goal

pub loop-byte-preserved : goal.loop-byte-preserved
loop-byte-preserved c = hashed-next c.loop-byte.hash c.args.path.now c.loop-byte.byte-index c.from.result c.loop-byte-test.true c.from.ensures ∙ c.loop-byte.invariant

pub returns : goal.returns
returns c = hashed-done _ c.args.path.now c.loop-byte.byte-index c.loop-byte-test.false ∙ c.loop-byte.invariant
