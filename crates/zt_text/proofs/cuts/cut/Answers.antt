use Rattle.std.proofs.Common.{arith, ne_eqb}
use Rattle.zt_text.proofs.PieceLaws.{Lacks-all, Lacks-more}
use Rattle.zt_text.proofs.cuts.cut.Goals as goal

pub loop-place-preserved : goal.loop-place-preserved
loop-place-preserved c = Lacks-more c.args.at c.args.bytes.now c.loop-place.place c.loop-place.invariant (omega arith) (ne_eqb _ _ c.if-byte-at.false)

pub returns-clause-first : goal.returns-clause-first
returns-clause-first c = Lacks-all c.args.at c.args.bytes.now c.loop-place.place c.loop-place.invariant (omega arith)
