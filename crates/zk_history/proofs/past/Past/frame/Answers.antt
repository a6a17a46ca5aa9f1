use Rattle.std.proofs.Common.{sym, ◌∙◌}
use Rattle.zk_transcript.specs.History.{frame_shown}
use Rattle.zk_history.specs.Pasts.{lines_of}
use Rattle.zk_history.specs.Shown.{frame_mark, is_mark}
use Rattle.zk_history.proofs.Looking.{frame-marked, found-before, found-line, found-none, shown-some, shown-none}
use Rattle.zk_history.proofs.past.Past.frame.Goals as goal

pub line_at-requires : goal.line_at-requires
line_at-requires c =
    found-before frame_mark c.args.self.now.all.now c.args.self.now.len c.args.self.now.frames c.args.connection c.args.index c.in-Some.place c.args.self.now.frames_stand (sym c.in-Some.is ∙ c.place.ensures) c.args.self.now.within

pub returns-in-Some : goal.returns-in-Some
returns-in-Some c =
    c.frame_shown.ensures
    ∙ sym (shown-some (frame_shown c.args.connection c.args.index) (λ l. is_mark (frame_mark l) c.args.connection c.args.index) (frame-marked c.args.connection c.args.index) (lines_of c.args.self.now) c.in-Some.place c.line_at.result.now
    (found-line frame_mark c.args.self.now.all.now c.args.self.now.len c.args.self.now.frames c.args.connection c.args.index c.in-Some.place c.args.self.now.frames_stand (sym c.in-Some.is ∙ c.place.ensures) c.line_at.result.now c.line_at.ensures))

pub returns-in-None : goal.returns-in-None
returns-in-None c =
    sym (shown-none (frame_shown c.args.connection c.args.index) (λ l. is_mark (frame_mark l) c.args.connection c.args.index) (frame-marked c.args.connection c.args.index) (lines_of c.args.self.now)
    (found-none frame_mark c.args.self.now.all.now c.args.self.now.len c.args.self.now.frames c.args.connection c.args.index 0 c.args.self.now.frames_stand (sym c.in-None.is ∙ c.place.ensures)))
