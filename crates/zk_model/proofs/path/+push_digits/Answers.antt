use Rattle.std.proofs.Common.{ap, ◌∙◌, ◌+◌, ◌%◌, ◌++◌, ◌∷◌, [], List, ℕ}
use Rattle.zk_model.proofs.SequencePaths.{fixed_digits-more}
use Rattle.zk_model.proofs.path.+push_digits.Goals as goal

pub returns : goal.returns
returns t c =
    c.in_ok-push.ensures.items
    ∙ ap (λ (x : List ℕ). x ++ (48 + c.args.number % 10) ∷ []) c.in_ok-push_digits.ensures
    ∙ fixed_digits-more c.args.text.now.items c.args.count c.args.number c.if-count-eq0.false
