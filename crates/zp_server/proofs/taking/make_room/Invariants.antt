use Rattle.std.proofs.Common.{◌≡◌, ℕ, false, []}
use Rattle.zx_net.specs.Nets.{NetCounts}
use Rattle.zp_server.specs.Logs.{Logs}
use Rattle.zp_server.proofs.taking.make_room.Given as goal

abbrev pub invariant-takes : goal.invariant-takes
invariant-takes g l = (goal.iterator-takes g).can_next l.iterator' × (goal.iterator-takes g).is_finite l.iterator' × (l.desk.own ≡ l.fn.desk.own) × ((size : ℕ) (net : NetCounts) → Logs size false 0 [] l.fn.desk.busy.items l.desk.busy.items
    (record { net = net; out = record { taken = g.O.Sink.taken l.fn.out; counts = g.O.Sink.counts l.fn.out }; book = g.B.Book.told l.fn.book })
    (record { net = net; out = record { taken = g.O.Sink.taken l.out; counts = g.O.Sink.counts l.out }; book = g.B.Book.told l.book }))
