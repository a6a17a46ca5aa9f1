use Rattle.zs_reaper.specs.Calling.{Makes, link_told}
use Rattle.zs_reaper.proofs.Paging.{GoesOn}
use Rattle.zs_reaper.specs.Turning.{max_lists}
use Rattle.zs_reaper.proofs.turning.pages.Given as goal

abbrev pub invariant-pages : goal.invariant-pages
invariant-pages g l =
    Makes (GoesOn max_lists l.made l.fn.from l.end l.next l.is_damaged) (link_told g.L.Etcd.told g.L.Etcd.failures l.fn.link) (link_told g.L.Etcd.told g.L.Etcd.failures l.link)
