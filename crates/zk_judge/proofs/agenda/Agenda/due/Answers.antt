use Rattle.std.proofs.Common.{List, inl, inr, refl, sym, subst}
use Rattle.std.specs.List.{All, Contains}
use Rattle.zk_judge.specs.Staged.{IsStanding, connections}
use Rattle.zk_judge.specs.declared.conversations.Conversation.{Conversation}
use Rattle.zk_judge.proofs.Agendas.{taken-agenda, taken-or-left}
use Rattle.zk_judge.proofs.agenda.Agenda.due.Goals as goal

pub returns-clause-due : goal.returns-clause-due
returns-clause-due c = λ lines is. subst (λ (xs : List Conversation). All (IsStanding lines c.args.self.next) xs) (sym c.without-taken.ensures.own) (is.waiting c.args.self.next)

pub returns-clause-agenda : goal.returns-clause-agenda
returns-clause-agenda c = λ lines is within. taken-agenda lines c.args.self _ c.without-taken.ensures.others refl refl is within

pub returns-clause-kept : goal.returns-clause-kept
returns-clause-kept c = λ n has. elim has [
  | inl e ↦ elim (taken-or-left c.args.self.waiting c.without-taken.result.1 c.args.self.next c.without-taken.ensures.others n e.0 e.1) [
    | inl f ↦ inl (subst (λ (xs : List Conversation). Contains (connections xs) n) (sym c.without-taken.ensures.own) f)
    | inr f ↦ inr (inl f)
  ]
  | inr e ↦ inr (inr e)
]
