use Rattle.ev_json.proofs.Lines.{line_ends, line_goes_on, line_is_all}
use Rattle.ev_json.proofs.reading.first_line.Goals as goal

pub returns-then-b-eq10 : goal.returns-then-b-eq10
returns-then-b-eq10 c = line_ends c.args.bytes.now c.loop-i.i c.loop-i-test.true c.if-b-eq10.true c.loop-i.invariant

pub loop-i-preserved : goal.loop-i-preserved
loop-i-preserved c = line_goes_on c.args.bytes.now c.loop-i.i c.loop-i-test.true c.if-b-eq10.false c.loop-i.invariant

pub returns : goal.returns
returns c = line_is_all c.args.bytes.now c.loop-i.i c.loop-i-test.false c.loop-i.invariant
