use Rattle.std.proofs.Common.{sym, ◌∙◌}
use Rattle.zk_history.specs.Pasts.{lines_of}
use Rattle.zk_legal.proofs.Fitting.{asked-fits, time-fits, run-whole}
use Rattle.zk_legal.proofs.legal.may_ask.Goals as goal

pub is_committed-requires : goal.is_committed-requires
is_committed-requires c =
    let before = lines_of c.args.before.now in
    let small = sym c.is_small_frame.ensures ∙ c.if-is_small_frame.true in
    (time-fits c.args.now c.requires.time, asked-fits before c.args.state.now c.args.connection c.args.index _ c.args.now (run-whole before c.args.state.now c.requires.run) small)
