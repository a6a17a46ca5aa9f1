use Rattle.std.proofs.Common.{ap, ◌∙◌}
use Rattle.std.specs.Prelude.{is_some}
use Rattle.zk_transcript.specs.History.{open_shown}
use Rattle.zk_history.specs.Pasts.{lines_of}
use Rattle.zk_history.specs.Shown.{open_mark}
use Rattle.zk_history.proofs.Looking.{open-marked, is_shown}
use Rattle.zk_history.proofs.past.Past.is_opened.Goals as goal

pub returns : goal.returns
returns c =
    c.is_some.ensures ∙ ap (λ o. is_some o) c.place.ensures
    ∙ is_shown (open_shown c.args.connection) open_mark c.args.connection 0 (open-marked c.args.connection) (lines_of c.args.self.now) c.args.self.now.opens c.args.self.now.opens_stand
