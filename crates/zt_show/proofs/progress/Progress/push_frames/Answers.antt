use Rattle.std.proofs.Common.{arith}
use Rattle.zt_show.proofs.Passing.{AddsLines-blocked, AddsLines-more}
use Rattle.zt_show.proofs.progress.Progress.push_frames.Goals as goal

pub returns-then-not-branch : goal.returns-then-not-branch
returns-then-not-branch c =
    AddsLines-blocked c.args.frames.now c.loop-frame.frame-index c.frame-item.result c.args.text.now c.loop-frame.text c.push_frame.new.text c.in_ok-push_frame.field-0 c.args.self.now c.loop-frame.self
    (omega arith) c.frame-item.is c.loop-frame.invariant c.if-not-branch.true (rw c.as_slice.ensures at c.in_ok-push_frame.ensures)

pub loop-frame-preserved : goal.loop-frame-preserved
loop-frame-preserved c =
    AddsLines-more c.args.frames.now c.loop-frame.frame-index c.frame-item.result c.args.text.now c.loop-frame.text c.push_frame.new.text c.in_ok-push_frame.field-0 c.args.self.now c.loop-frame.self c.pass.new.self
    (omega arith) c.frame-item.is c.loop-frame.invariant c.if-not-branch.false (rw c.as_slice.ensures at c.in_ok-push_frame.ensures) (rw c.len.ensures at c.pass.ensures)
