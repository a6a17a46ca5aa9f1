use Rattle.std.proofs.Common.{arith}
use Rattle.zp_server.proofs.Accepted.{one_served}
use Rattle.zp_server.proofs.Counting.{counted_so_far}
use Rattle.zp_server.proofs.Halting.{halts_most}
use Rattle.zp_server.proofs.Looks.{open_still}
use Rattle.zp_server.proofs.accepting.accept_one.Goals as goal

pub serve_one-requires-clause-source : goal.serve_one-requires-clause-source
serve_one-requires-clause-source g c = λ _ _. rw (counted_so_far 1 _ 1 c.args.before _ _ _ _ _ (c.in-Ok.ensures.admits 1) c.requires.accepted c.requires.few) at c.in-Ok.ensures.source

pub serve_one-requires-clause-sink : goal.serve_one-requires-clause-sink
serve_one-requires-clause-sink g c = λ _ _. rw (counted_so_far 1 _ 1 c.args.before _ _ _ _ _ (c.in-Ok.ensures.admits 1) c.requires.accepted c.requires.few) at c.in-Ok.ensures.sink

pub returns-in-Ok-clause-goes : goal.returns-in-Ok-clause-goes
returns-in-Ok-clause-goes g c = one_served _ c.serve_one.result _ _ _ _ _ _ _ (c.in-Ok.ensures.admits _) c.serve_one.ensures.goes

pub returns-in-Err-clause-goes : goal.returns-in-Err-clause-goes
returns-in-Err-clause-goes g c = halts_most _ c.in-Err.stop 1 1 _ _ _ _ _ (omega arith) (c.in-Err.ensures.admits _)

pub returns-in-Ok-clause-looked : goal.returns-in-Ok-clause-looked
returns-in-Ok-clause-looked g c = open_still c.serve_one.result _ _ _ c.in-Ok.ensures.looked c.serve_one.ensures.own
