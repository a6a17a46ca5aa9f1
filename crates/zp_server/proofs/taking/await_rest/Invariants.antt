use Rattle.std.proofs.Common.{◌≡◌, ℕ, true, []}
use Rattle.std.specs.Prelude.{Contains}
use Rattle.zw_hub.specs.Readers.{ReaderState}
use Rattle.zx_net.specs.Nets.{NetCounts}
use Rattle.zp_server.specs.Logs.{Logs}
use Rattle.zp_server.proofs.taking.await_rest.Given as goal

abbrev pub invariant-takes : goal.invariant-takes
invariant-takes g l = (goal.iterator-takes g).can_next l.iterator' × (goal.iterator-takes g).is_finite l.iterator' × (l.desk.own ≡ l.fn.desk.own) × ((r : ReaderState) → Contains l.fn.desk.free.items r → Contains l.desk.free.items r)
    × ((size : ℕ) (net : NetCounts) → Logs size true 0 [] l.fn.desk.busy.items l.desk.busy.items
    (record { net = net; out = record { taken = g.O.Sink.taken l.fn.out; counts = g.O.Sink.counts l.fn.out }; book = g.B.Book.told l.fn.book })
    (record { net = net; out = record { taken = g.O.Sink.taken l.out; counts = g.O.Sink.counts l.out }; book = g.B.Book.told l.book }))
