use Rattle.std.proofs.Common.{◌≡◌}
use Rattle.zd_etcd.specs.Serving.{accepts}
use Rattle.zd_etcd.proofs.serving.accept_all.Given as goal

abbrev pub invariant-accepts : goal.invariant-accepts
invariant-accepts g l = g.N.Net.counts l.net ≡ accepts l.accepted (g.N.Net.counts l.initial.net)
