use Rattle.std.proofs.Common.{◌≡◌, ◌≤◌}
use Rattle.zw_follow.specs.Dials.{IsBetween, telling}
use Rattle.zw_follow.specs.Publishing.{IsPlaced}
use Rattle.zw_follow.proofs.following.follow_streams.Given as goal

abbrev pub invariant-streams : goal.invariant-streams
invariant-streams g l =
    (goal.iterator-streams g).can_next l.iterator' × (goal.iterator-streams g).is_finite l.iterator' × (l.barren ≤ 10) × (g.Q.StopWord.set_readings l.stop ≡ g.Q.StopWord.set_readings l.fn.stop) × IsPlaced l.hub.list l.place
    × IsBetween (telling g.N.In.Source.given g.N.In.Source.left g.N.In.Source.counts g.N.In.Source.ended g.N.In.Source.name g.N.Out.Sink.taken g.N.Out.Sink.counts g.N.Out.Sink.name) l.fn.endpoint
    (record { counts = g.N.Net.counts l.fn.net; no_room = g.N.Net.no_room l.fn.net; streams = g.N.Net.streams l.fn.net }) (record { counts = g.N.Net.counts l.net; no_room = g.N.Net.no_room l.net; streams = g.N.Net.streams l.net })
    (l.fn.place).revision l.fn.hub.list l.hub.list (l.place).revision l.barren l.at
