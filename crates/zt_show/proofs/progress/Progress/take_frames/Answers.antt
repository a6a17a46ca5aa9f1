use Rattle.std.proofs.Common.{rules, w32, SFits}
use Rattle.std.proofs.lemmas.Int.{to_z-of_z}
use Rattle.zt_show.proofs.Taking.{AddsFrames-all, AddsFrames-length, AddsFrames-length_after, AddsFrames-blocked}
use Rattle.zt_show.proofs.progress.Progress.take_frames.Goals as goal

pub returns-then-not-branch-clause-adds : goal.returns-then-not-branch-clause-adds
returns-then-not-branch-clause-adds c =
    AddsFrames-blocked c.args.cutter.now c.take.new.self c.args.bytes.now c.args.text.now c.push_frames.new.text c.in-Ok.frames.items c.in_ok-push_frames-in-Ok.field-0 c.args.self.now c.push_frames.new.self c.take.new.self.rest
    c.requires c.if-not-branch.true c.in-Ok.ensures.takes (rw c.as_slice.ensures.value at c.in_ok-push_frames-in-Ok.ensures)

pub returns-in-Err-BadLength-clause-adds : goal.returns-in-Err-BadLength-clause-adds
returns-in-Err-BadLength-clause-adds c =
    let fits : SFits w32 c.in-Err-BadLength.length = search rules in
    rw c.in-Err-BadLength.length-is (simp to_z-of_z (
    AddsFrames-length c.args.cutter.now c.take.new.self c.args.bytes.now c.args.text.now c.args.self.now c.in-Err-BadLength.field-0-0 c.in-Err-BadLength.length c.take.new.self.rest c.requires
    (rw c.in-Err-BadLength.field-0-is at c.in-Err-BadLength.ensures.takes)))

pub returns-clause-adds : goal.returns-clause-adds
returns-clause-adds c =
    AddsFrames-all c.args.cutter.now c.take.new.self c.take-2.new.self c.args.bytes.now c.args.text.now c.push_frames.new.text c.in-Ok.frames.items c.in-Ok-take.field-0.items c.in_ok-push_frames-in-Ok.field-0 c.args.self.now
    c.push_frames.new.self c.requires c.if-not-branch.false c.in-Ok.ensures.takes (rw c.as_slice.ensures.value at c.in_ok-push_frames-in-Ok.ensures) c.in-Ok-take.ensures.takes

pub returns-in-Err-BadLength-take-clause-adds : goal.returns-in-Err-BadLength-take-clause-adds
returns-in-Err-BadLength-take-clause-adds c =
    let fits : SFits w32 c.in-Err-BadLength-take.length = search rules in
    let refuses = rw c.in-Err-BadLength-take.field-0-is at c.in-Err-BadLength-take.ensures.takes in
    rw c.in-Err-BadLength-take.length-is (simp to_z-of_z (
    AddsFrames-length_after c.args.cutter.now c.take.new.self c.take-2.new.self c.args.bytes.now c.args.text.now c.push_frames.new.text c.in-Ok.frames.items c.in_ok-push_frames-in-Ok.field-0 c.args.self.now c.push_frames.new.self
    c.in-Err-BadLength-take.field-0-0 c.in-Err-BadLength-take.length c.take-2.new.self.rest c.requires c.if-not-branch.false c.in-Ok.ensures.takes (rw c.as_slice.ensures.value at c.in_ok-push_frames-in-Ok.ensures) refuses))
