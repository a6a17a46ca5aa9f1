use Rattle.std.proofs.Common.{List, ℕ, refl, ap, subst}
use Rattle.std.specs.Prelude.{Option}
use Rattle.zetcd_cmd.specs.Serving.{EtcdServes}
use Rattle.zetcd_cmd.proofs.Proxyings.{only_serve}
use Rattle.zetcd_cmd.proofs.Stressings.{never_listens}
use Rattle.zetcd_cmd.proofs.top.zetcd.Goals as goal

pub returns-in-Some-clause-usage : goal.returns-in-Some-clause-usage
returns-in-Some-clause-usage g c = c.in-Some.ensures.usage

pub returns-in-Some-etcd_words-clause-etcd : goal.returns-in-Some-etcd_words-clause-etcd
returns-in-Some-etcd_words-clause-etcd g c = λ listen limit is.
    subst (λ (taken : Option (List ℕ)). EtcdServes c.run_etcd.result listen limit (g.N.Net.counts c.args.net.now) (g.N.Net.counts c.run_etcd.new.net) taken (g.O.Sink.taken c.run_etcd.new.out))
    (ap g.O.Sink.taken (c.in-None.ensures.untouched refl).1) (c.run_etcd.ensures.told listen limit is)

pub returns-in-None-etcd_words-clause-net : goal.returns-in-None-etcd_words-clause-net
returns-in-None-etcd_words-clause-net g c = λ not is. absurd (not (only_serve c.args.words.now (c.in-None.ensures.none refl) (c.in-None-etcd_words.ensures.none refl)))

pub returns-in-Some-etcd_words-clause-stress : goal.returns-in-Some-etcd_words-clause-stress
returns-in-Some-etcd_words-clause-stress g c = λ number connections steps is. absurd (never_listens c.args.words.now number connections steps (c.in-None.ensures.none refl) is)

pub returns-in-None-etcd_words-clause-stress : goal.returns-in-None-etcd_words-clause-stress
returns-in-None-etcd_words-clause-stress g c = λ number connections steps is. absurd (never_listens c.args.words.now number connections steps (c.in-None.ensures.none refl) is)
