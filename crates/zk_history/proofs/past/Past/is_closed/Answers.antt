use Rattle.std.proofs.Common.{ap, ◌∙◌}
use Rattle.std.specs.Prelude.{is_some}
use Rattle.zk_transcript.specs.Conversations.{close_shown}
use Rattle.zk_history.specs.Pasts.{lines_of}
use Rattle.zk_history.specs.Shown.{close_mark}
use Rattle.zk_history.proofs.Looking.{close-marked, is_shown}
use Rattle.zk_history.proofs.past.Past.is_closed.Goals as goal

pub returns : goal.returns
returns c =
    c.is_some.ensures ∙ ap (λ o. is_some o) c.place.ensures
    ∙ is_shown (close_shown c.args.connection) close_mark c.args.connection 0 (close-marked c.args.connection) (lines_of c.args.self.now) c.args.self.now.closes c.args.self.now.closes_stand
