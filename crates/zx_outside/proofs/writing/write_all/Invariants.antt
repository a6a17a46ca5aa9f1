use Rattle.std.proofs.Common.{◌≡◌, ◌≤◌, ◌-◌, length, take}
use Rattle.zx_outside.specs.Writing.{Takes}
use Rattle.zx_outside.proofs.writing.write_all.Given as goal

abbrev pub invariant-pieces : goal.invariant-pieces
invariant-pieces g l = record {
  within : l.at ≤ length l.bytes;
  taken : Takes (take l.at l.bytes) (g.O.Sink.taken l.fn.out) (g.O.Sink.taken l.out);
  unharmed : g.O.Sink.counts l.out ≡ g.O.Sink.counts l.fn.out;
  named : g.O.Sink.name l.out ≡ g.O.Sink.name l.fn.out;
}

abbrev pub decreases-pieces : goal.decreases-pieces
decreases-pieces g l = length l.bytes - l.at
