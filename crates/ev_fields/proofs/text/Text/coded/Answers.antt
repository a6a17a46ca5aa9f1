use Rattle.std.proofs.Common.{true, ◌∷◌, [], ◌++◌, refl, ap, ◌∙◌}
use Rattle.json.specs.Token.{string}
use Rattle.base64.specs.Engines.{standard}
use Rattle.base64.specs.GeneralPurpose.{encode_of}
use Rattle.ev_fields.proofs.Pushed.{pushed, pushed_tokens, string_with_comma}
use Rattle.ev_fields.proofs.text.Text.coded.Goals as goal

pub invariant_of-result : goal.invariant_of-result
invariant_of-result c =
    let text = encode_of standard c.args.bytes.now in
    pushed c.self.inside _ (string text) c.self.invariant tt refl (string_with_comma c.self.inside text _ _ c.in_ok-text.ensures c.in_ok-text-2.ensures)

pub returns : goal.returns
returns c =
    let text = encode_of standard c.args.bytes.now in
    pushed_tokens c.self.inside (record { text = c.in_ok-text-2.text; after_value = true }) (string text) c.self.invariant tt refl (string_with_comma c.self.inside text _ _ c.in_ok-text.ensures c.in_ok-text-2.ensures) ∙ ap (λ l. l ++ string text ∷ []) c.self.view_is
