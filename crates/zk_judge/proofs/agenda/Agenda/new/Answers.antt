use Rattle.std.proofs.Common.{refl}
use Rattle.zk_judge.proofs.Agendas.{new-agenda}
use Rattle.zk_judge.proofs.agenda.Agenda.new.Goals as goal

pub returns-clause-agenda : goal.returns-clause-agenda
returns-clause-agenda c = λ lines. new-agenda lines _ refl c.new.ensures c.new-2.ensures.items
