use Rattle.std.proofs.Common.{take}
use Rattle.std.specs.Prelude.{Ok}
use Rattle.zs_reaper.specs.Calling.{Makes, link_told}
use Rattle.zs_reaper.specs.Reaping.{ReapsEach}
use Rattle.zs_reaper.proofs.reaping.reap_each.Given as goal

abbrev pub invariant-sessions : goal.invariant-sessions
invariant-sessions g l = Makes (ReapsEach (take l.session-index l.sessions) (Ok l.is_damaged)) (link_told g.L.Etcd.told g.L.Etcd.failures l.fn.link) (link_told g.L.Etcd.told g.L.Etcd.failures l.link)
