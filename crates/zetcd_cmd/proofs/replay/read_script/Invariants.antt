use Rattle.std.proofs.Common.{◌≡◌, ℕ, List, vec_len}
use Rattle.zx_outside.specs.Reading.{Gives}
use Rattle.zetcd_cmd.specs.Scripting.{ScriptStands}
use Rattle.zetcd_cmd.specs.Streams.{MayWait}
use Rattle.zetcd_cmd.proofs.Appending.{IsOut}
use Rattle.zetcd_cmd.proofs.replay.read_script.Given as goal

abbrev pub invariant-pieces : goal.invariant-pieces
invariant-pieces g l = record {
  seen : (seen : List ℕ) × Gives seen (g.I.Source.given l.fn.input) (g.I.Source.given l.input) (g.I.Source.left l.fn.input) (g.I.Source.left l.input) × ScriptStands seen l.script;
  wide : vec_len l.buffer ≡ 65536;
  waited : MayWait (g.I.Source.counts l.fn.input) l.idle (g.I.Source.counts l.input);
  is_out : IsOut l.written l.script.world.lines (g.O.Sink.taken l.fn.out) (g.O.Sink.taken l.out);
  unharmed : g.O.Sink.counts l.out ≡ g.O.Sink.counts l.fn.out;
}

abbrev pub decreases-pieces : goal.decreases-pieces
decreases-pieces g l = l.script.room
