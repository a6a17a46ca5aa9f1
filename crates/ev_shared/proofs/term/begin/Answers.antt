use Rattle.std.proofs.Common.{rules, ◌∙◌, ◌++◌, ◌∷◌, [], List, ap}
use Rattle.std.proofs.lemmas.Fn.{filter_same}
use Rattle.ev_shared.specs.declared.term.Term.{Term}
use Rattle.ev_shared.proofs.term.begin.Goals as goal

pub returns : goal.returns
returns c = c.push_reserved.ensures.items ∙ ap (λ (ts : List Term). ts ++ c.args.term ∷ []) (filter_same _ _ _ (λ x b f' k. search rules) _ _ c.retain.ensures.filtered)
