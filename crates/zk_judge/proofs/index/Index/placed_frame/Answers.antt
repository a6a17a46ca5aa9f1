use Rattle.std.proofs.Common.{ap, ◌∙◌}
use Rattle.zk_transcript.specs.Walks.{placed_frame}
use Rattle.zk_judge.proofs.Running.{placed-below, placed-short}
use Rattle.zk_judge.proofs.index.Index.placed_frame.Goals as goal

pub returns-clause-short : goal.returns-clause-short
returns-clause-short c =
    placed-short c.args.self.now.lines.now c.args.connection c.args.index c.placed_frame.result c.args.self.now.run (c.placed_frame.ensures.placed ∙ ap (placed_frame c.args.connection c.args.index) c.args.self.now.shown)

pub returns-clause-index : goal.returns-clause-index
returns-clause-index c =
    placed-below c.args.self.now.lines.now c.args.connection c.args.index c.placed_frame.result c.args.self.now.run (c.placed_frame.ensures.placed ∙ ap (placed_frame c.args.connection c.args.index) c.args.self.now.shown)
