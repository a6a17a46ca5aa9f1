use Rattle.std.proofs.Common.{sym, subst, ap, ◌∙◌, ◌≡◌, ◌++◌, true, List, ℕ}
use Rattle.zk_model.specs.Paths.{is_path, sequence_path, fixed_digits}
use Rattle.zk_model.proofs.SequencePaths.{sequence-valid}
use Rattle.zk_model.proofs.path.Path.numbered.Goals as goal

pub invariant_of-result : goal.invariant_of-result
invariant_of-result c =
    let text : c.push_digits.new.text.items ≡ sequence_path c.args.prefix.now c.args.number =
    c.in_ok-push_digits.ensures
    ∙ ap (λ (x : List ℕ). x ++ fixed_digits 10 c.args.number)
    (c.in_ok-extend_from_slice.ensures.items ∙ ap (λ (x : List ℕ). x ++ c.args.prefix.now) c.in_ok-text.ensures.items) in
    subst (λ (x : List ℕ). is_path x ≡ true) (sym text) (sequence-valid c.args.prefix.now c.args.number c.requires)
