use Rattle.std.proofs.Common.{inl, [], ap}
use Rattle.std.specs.Prelude.{Some}
use Rattle.ev_link.proofs.dial_cluster.asked_first.Goals as goal

pub returns-in-Ok-clause-dials : goal.returns-in-Ok-clause-dials
returns-in-Ok-clause-dials g c = inl (c.asked.ensures.asked [] (ap Some c.in-Ok.ensures.dialled.0), c.in-Ok.ensures.dialled.1)
