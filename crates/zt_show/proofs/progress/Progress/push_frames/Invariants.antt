use Rattle.std.proofs.Common.{true, take}
use Rattle.zt_show.specs.Showing.{AddsLines}
use Rattle.zt_show.proofs.progress.Progress.push_frames.Given as goal

-- the lines of the frames so far
abbrev pub invariant-loop-frame : goal.invariant-loop-frame
invariant-loop-frame l = AddsLines true (take l.frame-index l.frames) l.fn.self l.fn.text l.text l.self
