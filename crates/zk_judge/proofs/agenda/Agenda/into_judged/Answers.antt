use Rattle.std.proofs.Common.{inl, inr}
use Rattle.zk_judge.proofs.Agendas.{none-listed}
use Rattle.zk_judge.proofs.agenda.Agenda.into_judged.Goals as goal

pub returns-clause-all : goal.returns-clause-all
returns-clause-all c = λ lines n is last has. elim has [
  | inl e ↦ absurd (none-listed lines c.args.self n e.0 is last e.1)
  | inr e ↦ e
]
