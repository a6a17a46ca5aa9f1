use Rattle.std.proofs.Common.{◌≡◌, ℕ, List, inl, inr, ap, ◌∙◌, length, subst, rules, arith}
use Rattle.std.specs.List.{Contains}
use Rattle.std.proofs.lemmas.List.Elements.{All-pop, Contains-push_cases}
use Rattle.zk_judge.specs.Agendas.{HasConversation}
use Rattle.zk_judge.specs.Staged.{IsStanding, connections}
use Rattle.zk_judge.proofs.Opened.{connections-push, none-contained}
use Rattle.zk_judge.proofs.judging.advanced.Goals as goal

pub conversations-preserved : goal.conversations-preserved
conversations-preserved c =
    let lines = c.args.index.now.lines.now in
    let x = c.in-Some.conversation in
    let popped = ap connections c.in-Some.ensures.items ∙ connections-push _ x in
    record {
      due = (All-pop (IsStanding lines c.args.agenda.next) c.conversations.due.items _ _ c.pop.ensures.items c.conversations.invariant.due).0;
      agenda = c.in_ok-later.ensures.agenda;
      next = c.in_ok-later.ensures.next ∙ c.conversations.invariant.next;
      kept = λ n in'. elim (c.conversations.invariant.kept n in') [
        | inr e ↦ inr (c.in_ok-later.ensures.kept n e)
        | inl e ↦ elim (Contains-push_cases _ x.connection n (subst (λ (cs : List ℕ). Contains cs n) popped e)) [
          | inl f ↦ inl f
          | inr same ↦ inr (subst (λ (m : ℕ). HasConversation c.in_ok-later.later m) (c.in_ok-advanced.ensures.connection ∙ same) c.in_ok-later.ensures.has)
        ]
      ];
    }

pub returns-clause-kept : goal.returns-clause-kept
returns-clause-kept c = λ n in'.
    let none : length c.conversations.due.items ≡ 0 = first_of (search rules, omega (arith, c.in_default.ensures.cases)) in
    elim (c.conversations.invariant.kept n in') [
      | inl e ↦ absurd (none-contained c.conversations.due.items n none e)
      | inr e ↦ e
    ]
