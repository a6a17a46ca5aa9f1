use Rattle.std.proofs.Common.{false, [], length}
use Rattle.ev_addresses.specs.Lists.{addresses_in}
use Rattle.zp_server.specs.Logs.{Logs, counting}
use Rattle.zp_server.specs.Looking.{FindsOpenFor}
use Rattle.zp_server.proofs.accepting.accept_all.Given as goal

abbrev pub invariant-clients : goal.invariant-clients
invariant-clients g l = Logs (length (addresses_in l.fn.endpoint)) false l.before (counting l.before) [] l.desk.busy.items
    (record { net = g.N.Net.counts l.fn.net; out = record { taken = g.O.Sink.taken l.fn.out; counts = g.O.Sink.counts l.fn.out }; book = g.B.Book.told l.fn.book })
    (record { net = g.N.Net.counts l.net; out = record { taken = g.O.Sink.taken l.out; counts = g.O.Sink.counts l.out }; book = g.B.Book.told l.book })
    × FindsOpenFor l.before l.fn.desk.own l.desk.own
