use Rattle.zs_reap.specs.Steps.{MayStepReaper}
use Rattle.zs_reaper.specs.Calling.{Makes, link_told}
use Rattle.zs_reaper.proofs.Walking.{Stands}
use Rattle.zs_reaper.proofs.reaping.reap_one.Given as goal

abbrev pub invariant-asks : goal.invariant-asks
invariant-asks g l = record {
  stood : Makes (Stands l.session l.reaper l.answer l.asked) (link_told g.L.Etcd.told g.L.Etcd.failures l.fn.link) (link_told g.L.Etcd.told g.L.Etcd.failures l.link);
  may : MayStepReaper l.reaper l.answer;
}
