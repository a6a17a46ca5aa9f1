use Rattle.std.proofs.Common.{IsUtf8, subst, sym, ap, ◌∙◌}
use Rattle.std.proofs.str.Laws.{IsUtf8-had}
use Rattle.json.specs.Print.{print}
use Rattle.ev_fields.proofs.Pushed.{tokens-printed}
use Rattle.ev_fields.proofs.text.Text.into_bytes.Goals as goal

pub returns-clause-text : goal.returns-clause-text
returns-clause-text c = ap (λ v. v.items) c.into_bytes.ensures.value ∙ c.self.invariant.text ∙ ap print (sym (tokens-printed c.self.inside c.self.invariant) ∙ c.self.view_is)

pub returns-clause-utf8 : goal.returns-clause-utf8
returns-clause-utf8 c = subst IsUtf8 (c.self.invariant.text ∙ ap print (sym (tokens-printed c.self.inside c.self.invariant) ∙ c.self.view_is)) (IsUtf8-had _ c.self.inside.text.ok)
