use Rattle.std.proofs.Common.{false, ◌∷◌, [], ◌++◌, refl, ap, string_bytes, ◌∙◌}
use Rattle.json.specs.Token.{key}
use Rattle.ev_fields.specs.Names.{snake}
use Rattle.ev_fields.proofs.Escapes.{quoted-name}
use Rattle.ev_fields.proofs.Pushed.{pushed, pushed_tokens, key_with_comma}
use Rattle.ev_fields.proofs.text.Text.name.Goals as goal

pub invariant_of-result : goal.invariant_of-result
invariant_of-result c =
    pushed c.self.inside _ (key (snake c.args.name)) c.self.invariant tt refl (key_with_comma c.self.inside (snake c.args.name) _ _ c.in_ok-text.ensures (c.in_ok-text-2.ensures ∙ ap (λ l. string_bytes c.in_ok-text.text ++ l) (c.key_text.ensures ∙ quoted-name c.args.name)))

pub returns : goal.returns
returns c =
    pushed_tokens c.self.inside (record { text = c.in_ok-text-2.text; after_value = false }) (key (snake c.args.name)) c.self.invariant tt refl (key_with_comma c.self.inside (snake c.args.name) _ _ c.in_ok-text.ensures (c.in_ok-text-2.ensures ∙ ap (λ l. string_bytes c.in_ok-text.text ++ l) (c.key_text.ensures ∙ quoted-name c.args.name))) ∙ ap (λ l. l ++ key (snake c.args.name) ∷ []) c.self.view_is
