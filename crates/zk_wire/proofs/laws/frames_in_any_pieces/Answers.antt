use Rattle.zk_jute.proofs.Framing.{one_framing}
use Rattle.zk_wire.proofs.Pieces.{at_first, takes_on, calls_from_first}
use Rattle.zk_wire.proofs.laws.frames_in_any_pieces.Goals as goal

pub returns-clause-any_pieces : goal.returns-clause-any_pieces
returns-clause-any_pieces c = calls_from_first

pub returns-clause-starts : goal.returns-clause-starts
returns-clause-starts c = at_first

pub returns-clause-goes_on : goal.returns-clause-goes_on
returns-clause-goes_on c = takes_on

pub returns-clause-only : goal.returns-clause-only
returns-clause-only c = one_framing
