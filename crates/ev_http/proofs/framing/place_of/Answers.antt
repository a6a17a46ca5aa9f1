use Rattle.std.proofs.Common.{arith}
use Rattle.ev_http.proofs.Places.{stands}
use Rattle.ev_http.proofs.framing.place_of.Goals as goal

pub returns : goal.returns
returns c = λ k all is count few le. stands k all c.args.head.now c.args.number _ c.last_lines.result is (omega (arith, count, le)) (omega (arith, count, few, le, c.saturating_sub.ensures, c.saturating_add.ensures)) c.last_lines.ensures.begins
