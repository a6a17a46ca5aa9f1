use Rattle.std.proofs.Common.{◌-◌}
use Rattle.zx_outside.specs.Counts.{InputCounts}
use Rattle.zx_outside.specs.Reading.{GivesNone}
use Rattle.zetcd_cmd.specs.Streams.{Waited}
use Rattle.zetcd_cmd.proofs.streams.next_piece.Given as goal

abbrev pub invariant-turns : goal.invariant-turns
invariant-turns g l = record {
  none : GivesNone (g.I.Source.given l.fn.input) (g.I.Source.given l.input) (g.I.Source.left l.fn.input) (g.I.Source.left l.input);
  waited : (start : InputCounts) → Waited start l.fn.idle (g.I.Source.counts l.fn.input) → Waited start l.idle (g.I.Source.counts l.input);
}

abbrev pub decreases-turns : goal.decreases-turns
decreases-turns g l = 1000 - l.idle
