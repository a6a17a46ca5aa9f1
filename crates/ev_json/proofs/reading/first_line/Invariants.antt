use Rattle.std.proofs.Common.{◌≡◌, ◌++◌, take, drop}
use Rattle.ev_json.specs.Bodies.{first_line}
use Rattle.ev_json.proofs.reading.first_line.Given as goal

abbrev pub invariant-loop-i : goal.invariant-loop-i
invariant-loop-i l = first_line l.bytes ≡ take l.i l.bytes ++ first_line (drop l.i l.bytes)
