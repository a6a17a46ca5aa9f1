use Rattle.std.proofs.Common.{◌≡◌, ℕ, List, [], vec_len}
use Rattle.zt_show.specs.Shown.{joined}
use Rattle.zt_show.specs.Showing.{ShowingFollows}
use Rattle.zx_outside.specs.Reading.{Gives}
use Rattle.zx_outside.specs.Writing.{Takes}
use Rattle.zetcd_cmd.specs.Streams.{MayWait}
use Rattle.zetcd_cmd.proofs.show.show_pieces.Given as goal

abbrev pub invariant-pieces : goal.invariant-pieces
invariant-pieces g l = record {
  seen :
      (seen : List ℕ) × (lines : List (List ℕ)) × Gives seen (g.I.Source.given l.fn.input) (g.I.Source.given l.input) (g.I.Source.left l.fn.input) (g.I.Source.left l.input)
      × Takes (joined lines) (g.O.Sink.taken l.fn.out) (g.O.Sink.taken l.out) × ShowingFollows seen lines l.show;
  empty : l.text ≡ [];
  wide : vec_len l.buffer ≡ 65536;
  waited : MayWait (g.I.Source.counts l.fn.input) l.idle (g.I.Source.counts l.input);
  unharmed : g.O.Sink.counts l.out ≡ g.O.Sink.counts l.fn.out;
}

abbrev pub decreases-pieces : goal.decreases-pieces
decreases-pieces g l = l.show.progress.room
