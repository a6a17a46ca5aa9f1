use Rattle.std.proofs.Common.{ap}
use Rattle.std.specs.Prelude.{Err}
use Rattle.ev_call.specs.declared.etcd.CallFault.{CallFault}
use Rattle.ev_failover.proofs.Storing.{store_denies}
use Rattle.ev_failover.proofs.memory_endpoints.carried.Goals as goal

pub returns-in-Err-Failed-clause-denied : goal.returns-in-Err-Failed-clause-denied
returns-in-Err-Failed-clause-denied c = λ listed failed. store_denies c.args.link.now c.args.ask.now c.requires.works (c.in-Err-Failed.ensures.fails (ap (λ (e : CallFault). Err e) c.in-Err-Failed.field-0-is))
