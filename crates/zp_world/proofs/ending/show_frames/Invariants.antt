-- With the lines of the frames that are left, the lines are those of all frames. The frames get fewer.
use Rattle.std.proofs.Common.{◌≡◌, ◌++◌}
use Rattle.std.specs.Vec.Iter.{into_iter_items, into_iter_len}
use Rattle.zp_script.specs.Arriving.{frame_lines}
use Rattle.zp_world.proofs.ending.show_frames.Given as goal

abbrev pub invariant-loop-bytes : goal.invariant-loop-bytes
invariant-loop-bytes l =
    l.transcript ++ frame_lines l.connection l.index l.zxid (into_iter_items l.frames) ≡ l.fn.transcript ++ frame_lines l.connection l.fn.first l.zxid (into_iter_items l.fn.frames)

abbrev pub decreases-loop-bytes : goal.decreases-loop-bytes
decreases-loop-bytes l = into_iter_len l.frames
