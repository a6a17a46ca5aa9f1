use Rattle.std.proofs.Common.{sym, ◌∙◌}
use Rattle.zk_transcript.specs.History.{open_shown}
use Rattle.zk_history.specs.Pasts.{lines_of}
use Rattle.zk_history.specs.Shown.{open_mark, is_mark}
use Rattle.zk_history.proofs.Looking.{open-marked, found-before, found-line, found-none, shown-some, shown-none}
use Rattle.zk_history.proofs.past.Past.opening.Goals as goal

pub line_at-requires : goal.line_at-requires
line_at-requires c =
    found-before open_mark c.args.self.now.all.now c.args.self.now.len c.args.self.now.opens c.args.connection 0 c.in-Some.place c.args.self.now.opens_stand (sym c.in-Some.is ∙ c.place.ensures) c.args.self.now.within

pub returns-in-Some : goal.returns-in-Some
returns-in-Some c =
    c.open_shown.ensures
    ∙ sym (shown-some (open_shown c.args.connection) (λ l. is_mark (open_mark l) c.args.connection 0) (open-marked c.args.connection) (lines_of c.args.self.now) c.in-Some.place c.line_at.result.now
    (found-line open_mark c.args.self.now.all.now c.args.self.now.len c.args.self.now.opens c.args.connection 0 c.in-Some.place c.args.self.now.opens_stand (sym c.in-Some.is ∙ c.place.ensures) c.line_at.result.now c.line_at.ensures))

pub returns-in-None : goal.returns-in-None
returns-in-None c =
    sym (shown-none (open_shown c.args.connection) (λ l. is_mark (open_mark l) c.args.connection 0) (open-marked c.args.connection) (lines_of c.args.self.now)
    (found-none open_mark c.args.self.now.all.now c.args.self.now.len c.args.self.now.opens c.args.connection 0 0 c.args.self.now.opens_stand (sym c.in-None.is ∙ c.place.ensures)))
