use Rattle.ev_http.proofs.Blanks.{no_head-blank}
use Rattle.ev_http.proofs.Heads.{no_head-line}
use Rattle.ev_http.proofs.head.judge_begun.Goals as goal

pub returns-then-blank-clause-more : goal.returns-then-blank-clause-more
returns-then-blank-clause-more c all _ _ _ _ _ _ = no_head-blank c.args.kind c.args.bytes.now (all c.if-blank.true)

pub returns-clause-more : goal.returns-clause-more
returns-clause-more c all old added none line grown _ =
    no_head-line c.args.kind old added c.args.bytes.now none line grown (c.ends_in_empty_line.ensures c.if-ends_in_empty_line.false)
