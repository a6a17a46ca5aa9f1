use Rattle.std.proofs.Common.{arith}
use Rattle.zt_show.specs.Showing.{showing}
use Rattle.zt_show.proofs.Taking.{Adds-end, Adds-long}
use Rattle.zt_show.proofs.progress.Progress.take_piece.Goals as goal

pub returns-then-piece-room-clause-adds : goal.returns-then-piece-room-clause-adds
returns-then-piece-room-clause-adds c =
    let old = showing c.args.cutter.now.rest c.args.self.now in
    let new = showing c.take_frames.new.cutter.rest c.take_frames.new.self in
    rw c.or_long-ending.ensures
    (Adds-long old new c.args.piece.now c.args.text.now c.take_frames.new.text c.end.new.text c.in_ok-found.found c.end.new.self (omega arith) c.in_ok-found.ensures.adds (rw c.or_long-ending.ensures at c.in_ok-end.ensures.text) c.in_ok-end.ensures.lines)

pub returns-clause-adds : goal.returns-clause-adds
returns-clause-adds c =
    let old = showing c.args.cutter.now.rest c.args.self.now in
    let new = showing c.take_frames-2.new.cutter.rest c.take_frames-2.new.self in
    (Adds-end old new c.args.piece.now c.args.text.now c.take_frames-2.new.text c.end-2.new.text c.in-Some.ending c.end-2.new.self (rw c.in-Some.is at c.in_ok-found-2.ensures.adds) c.in_ok-end-2.ensures.text c.in_ok-end-2.ensures.lines)
