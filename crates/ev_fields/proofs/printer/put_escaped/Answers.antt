use Rattle.std.proofs.Common.{◌≡◌, [], ◌∷◌, ◌++◌, IsUtf8, string_bytes, subst, sym, ap, ◌∙◌, append-nil}
use Rattle.std.proofs.lemmas.Str.{IsUtf8-append}
use Rattle.std.proofs.str.Laws.{IsUtf8-had}
use Rattle.json.specs.Token.{string}
use Rattle.json.specs.Print.{print, print_from, quoted}
use Rattle.ev_fields.proofs.printer.put_escaped.Goals as goal

pub unreachable-requires : goal.unreachable-requires
unreachable-requires c =
    let before : c.string.new.self.before ≡ string_bytes c.args.text = c.string.ensures.room.0 ∙ c.new-writer.ensures.before ∙ ap (λ v. v.items) c.into_bytes.ensures.value in
    let items = c.into_inner.ensures.items ∙ ap (λ l. l ++ print c.string.new.self.tokens) before in
    let bad = c.in-Err.ensures.succeeds (subst IsUtf8 (sym items) (IsUtf8-append (string_bytes c.args.text) _ (IsUtf8-had _ c.args.text.ok) c.into_inner.ensures.utf8)) in
    absurd cc

pub returns : goal.returns
unfolding print_from
returns c =
    let before : c.string.new.self.before ≡ string_bytes c.args.text = c.string.ensures.room.0 ∙ c.new-writer.ensures.before ∙ ap (λ v. v.items) c.into_bytes.ensures.value in
    let written : c.string.new.self.tokens ≡ string c.args.content.now ∷ [] = c.in_ok-string.ensures.ok ∙ ap (λ l. l ++ string c.args.content.now ∷ []) c.new-writer.ensures.tokens in
    ap (λ v. v.items) c.in-Ok.ensures.ok ∙ c.into_inner.ensures.items ∙ (λ i. before i ++ print (written i)) ∙ ap (λ l. string_bytes c.args.text ++ l) (append-nil (quoted c.args.content.now))
