use Rattle.std.proofs.Common.{ℕ, List, ◌∷◌, [], inl, inr, ap, sym, ◌∙◌, subst}
use Rattle.std.specs.List.{Contains}
use Rattle.std.proofs.lemmas.List.Elements.{Contains-append_left, Contains-push}
use Rattle.zk_judge.specs.Staged.{connections}
use Rattle.zk_judge.proofs.Opened.{connections-push}
use Rattle.zk_judge.proofs.agenda.Agenda.with_judged.Goals as goal

pub returns-clause-kept : goal.returns-clause-kept
returns-clause-kept c = λ n has.
    let judged = c.args.self.judged.items in
    let x = c.args.conversation in
    elim has [
      | inl e ↦ inl e
      | inr e ↦ inr (subst (λ (cs : List ℕ). Contains cs n) (sym (ap connections c.in_ok-push.ensures.items ∙ connections-push judged x)) (Contains-append_left (connections judged) (x.connection ∷ []) n e))
    ]

pub returns-clause-has : goal.returns-clause-has
returns-clause-has c =
    let judged = c.args.self.judged.items in
    let x = c.args.conversation in
    inr (subst (λ (cs : List ℕ). Contains cs x.connection) (sym (ap connections c.in_ok-push.ensures.items ∙ connections-push judged x)) (Contains-push (connections judged) x.connection))
