use Rattle.std.proofs.Common.{arith, min, length, ◌≤◌}
use Rattle.zn_view.proofs.Added.{none-taken, all-taken}
use Rattle.zn_view.proofs.view.View.take_all.Goals as goal

pub loop-i-init : goal.loop-i-init
loop-i-init c = none-taken c.args.self.now c.args.wants.now c.args.parts.now

pub returns-clause-ok : goal.returns-clause-ok
returns-clause-ok c =
    let at_end : min (length c.args.wants.now) (length c.args.parts.now) ≤ c.loop-i.i = omega (arith, c.min-i-end.ensures, c.loop-i-test.false) in
    (all-taken c.args.self.now c.args.wants.now c.args.parts.now c.loop-i.self c.loop-i.i at_end c.loop-i.invariant).0

pub returns-clause-records : goal.returns-clause-records
returns-clause-records c =
    let at_end : min (length c.args.wants.now) (length c.args.parts.now) ≤ c.loop-i.i = omega (arith, c.min-i-end.ensures, c.loop-i-test.false) in
    (all-taken c.args.self.now c.args.wants.now c.args.parts.now c.loop-i.self c.loop-i.i at_end c.loop-i.invariant).1
