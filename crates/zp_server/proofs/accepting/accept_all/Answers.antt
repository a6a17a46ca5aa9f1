use Rattle.std.proofs.Common.{◌≡◌, [], arith}
use Rattle.zp_server.proofs.Counting.{counted_from_none, logs_begun, one_more_on}
use Rattle.zp_server.proofs.Halting.{stops_at}
use Rattle.zp_server.proofs.Looks.{open_again, open_first}
use Rattle.zp_server.proofs.accepting.accept_all.Goals as goal

pub clients-init : goal.clients-init
clients-init g c = (logs_begun _ _ _ c.requires.idle, open_first _)

pub accept_one-requires-clause-accepted : goal.accept_one-requires-clause-accepted
accept_one-requires-clause-accepted g c = λ _ _. counted_from_none _ c.clients.before _ _ _ _ _ c.clients.invariant.0 c.requires.fresh (omega arith)

pub clients-preserved : goal.clients-preserved
clients-preserved g c = (one_more_on _ c.clients.before _ _ _ _ _ _ c.clients.invariant.0 c.in-Ok.ensures.goes, open_again c.clients.before _ _ _ c.clients.invariant.1 c.in-Ok.ensures.looked)

pub returns-in-Err-clause-stops : goal.returns-in-Err-clause-stops
returns-in-Err-clause-stops g c = stops_at _ c.in-Err.stop c.clients.before c.args.limit [] _ _ _ _ _ (omega arith) c.clients.invariant.0 c.in-Err.ensures.goes

pub returns-clause-stops : goal.returns-clause-stops
returns-clause-stops g c = let all : c.clients.before ≡ c.args.limit = omega arith in rw all at c.clients.invariant.0

pub returns-clause-looked : goal.returns-clause-looked
returns-clause-looked g c = let all : c.clients.before ≡ c.args.limit = omega arith in rw all at c.clients.invariant.1
