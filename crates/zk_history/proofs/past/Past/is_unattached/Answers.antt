use Rattle.std.proofs.Common.{ap, ◌∙◌}
use Rattle.std.specs.Prelude.{is_some, not}
use Rattle.zk_transcript.specs.Legal.{attach_shown}
use Rattle.zk_history.specs.Pasts.{lines_of}
use Rattle.zk_history.specs.Shown.{attach_mark}
use Rattle.zk_history.proofs.Looking.{attach-marked, is_missing}
use Rattle.zk_history.proofs.past.Past.is_unattached.Goals as goal

pub returns : goal.returns
returns c =
    ap not (c.is_some.ensures ∙ ap (λ o. is_some o) c.place.ensures)
    ∙ is_missing (attach_shown c.args.connection) attach_mark c.args.connection 0 (attach-marked c.args.connection) (lines_of c.args.self.now) c.args.self.now.attachments c.args.self.now.attachments_stand
