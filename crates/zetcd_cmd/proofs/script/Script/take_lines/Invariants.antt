use Rattle.std.proofs.Common.{◌≡◌, length}
use Rattle.zetcd_cmd.specs.Scripting.{Appends}
use Rattle.zetcd_cmd.proofs.Progress.{Goes}
use Rattle.zetcd_cmd.proofs.script.Script.take_lines.Given as goal

abbrev pub invariant-lines : goal.invariant-lines
invariant-lines l = record {
  goes : Goes l.fn.self l.bytes l.self l.rest;
  room : l.self.room ≡ l.fn.self.room;
  grown : Appends l.fn.self.world l.self.world;
}

abbrev pub decreases-lines : goal.decreases-lines
decreases-lines l = length l.rest
