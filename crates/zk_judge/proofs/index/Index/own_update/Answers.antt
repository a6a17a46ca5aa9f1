use Rattle.std.proofs.Common.{ap, ◌∙◌}
use Rattle.zk_transcript.specs.Walks.{own_update}
use Rattle.zk_judge.proofs.Placed.{own-stands}
use Rattle.zk_judge.proofs.index.Index.own_update.Goals as goal

pub returns-clause-stands : goal.returns-clause-stands
returns-clause-stands c =
    own-stands c.args.connection c.args.index c.args.self.now.lines.now c.own_update.result (c.own_update.ensures.shown ∙ ap (own_update c.args.connection c.args.index) c.args.self.now.shown)
