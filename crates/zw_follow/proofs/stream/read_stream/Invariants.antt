use Rattle.std.proofs.Common.{◌≡◌, ◌<◌}
use Rattle.ev_http.specs.Taking.{told}
use Rattle.zw_follow.specs.Streams.{IsFollowing}
use Rattle.zw_follow.proofs.stream.read_stream.Given as goal

abbrev pub invariant-lines : goal.invariant-lines
invariant-lines g l =
    (goal.iterator-lines g).can_next l.iterator' × (goal.iterator-lines g).is_finite l.iterator' × (g.Q.StopWord.set_readings l.stop ≡ g.Q.StopWord.set_readings l.fn.stop) × (l.minutes < 25)
    × IsFollowing (told g.S.Source.given g.S.Source.left g.S.Source.counts g.S.Source.ended g.S.Source.name) (l.fn.lines).source l.lines l.fn.hub.list l.hub.list (l.fn.place).revision l.place l.follower l.taken l.minutes
