use Rattle.std.proofs.Common.{inl, inr, refl}
use Rattle.zk_judge.proofs.Agendas.{put-agenda, put-kept, put-new}
use Rattle.zk_judge.proofs.agenda.Agenda.with_waiting.Goals as goal

pub returns-clause-agenda : goal.returns-clause-agenda
returns-clause-agenda c = λ lines is stands waits. put-agenda lines c.args.self _ c.args.moment c.args.conversation c.in_ok-waiting.ensures refl refl is stands waits

pub returns-clause-kept : goal.returns-clause-kept
returns-clause-kept c = λ n has. elim has [
  | inl e ↦ inl (e.0, put-kept c.args.self.waiting c.in_ok-waiting.waiting c.args.moment c.args.conversation c.in_ok-waiting.ensures n e.0 e.1)
  | inr e ↦ inr e
]

pub returns-clause-has : goal.returns-clause-has
returns-clause-has c = inl (c.args.moment, put-new c.args.self.waiting c.in_ok-waiting.waiting c.args.moment c.args.conversation c.in_ok-waiting.ensures)
