use Rattle.std.proofs.Common.{take}
use Rattle.zx_outside.specs.Reading.{HasNoFeed}
use Rattle.ev_http.proofs.lines.feed_from.Given as goal

abbrev pub invariant-loop-at : goal.invariant-loop-at
invariant-loop-at l = HasNoFeed (take l.from l.bytes) → HasNoFeed (take l.at l.bytes)
