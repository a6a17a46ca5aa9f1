use Rattle.std.proofs.Common.{◌∷◌, [], ◌++◌, ap, ◌∙◌}
use Rattle.json.specs.Reads.{token_of}
use Rattle.ev_fields.proofs.Pushed.{pushed, pushed_tokens, with_comma}
use Rattle.ev_fields.proofs.text.Text.token.Goals as goal

pub invariant_of-result : goal.invariant_of-result
invariant_of-result c = pushed c.self.inside _ (token_of c.args.token) c.self.invariant c.requires c.ends.ensures (with_comma c.self.inside (token_of c.args.token) c.begins.result _ _ c.begins.ensures c.in_ok-text.ensures c.in_ok-text-2.ensures)

pub returns : goal.returns
returns c =
    pushed_tokens c.self.inside (record { text = c.in_ok-text-2.text; after_value = c.ends.result }) (token_of c.args.token) c.self.invariant c.requires c.ends.ensures (with_comma c.self.inside (token_of c.args.token) c.begins.result _ _ c.begins.ensures c.in_ok-text.ensures c.in_ok-text-2.ensures)
    ∙ ap (λ l. l ++ token_of c.args.token ∷ []) c.self.view_is
