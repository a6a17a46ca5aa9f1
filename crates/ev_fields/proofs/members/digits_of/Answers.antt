use Rattle.std.proofs.Common.{◌≡◌, true, rules, sym, ◌∙◌}
use Rattle.std.specs.List.{list_all}
use Rattle.std.specs.Char.{is_ascii_digit}
use Rattle.std.proofs.lemmas.Bool.{eqb-false}
use Rattle.ev_fields.proofs.Digits.{digits64-ok, digits64-err}
use Rattle.ev_fields.proofs.members.digits_of.Goals as goal

pub returns-in-Ok : goal.returns-in-Ok
returns-in-Ok c =
    let all : list_all is_ascii_digit c.args.text.now ≡ true = search rules in
    digits64-ok c.args.text.now c.parse.result c.in-Ok.number (eqb-false _ _ (sym c.is_empty.ensures ∙ c.if-is_empty.false)) all c.parse.ensures.value.0 c.in-Ok.is

pub returns-in-Err : goal.returns-in-Err
returns-in-Err c =
    let all : list_all is_ascii_digit c.args.text.now ≡ true = search rules in
    digits64-err c.args.text.now c.parse.result _ (eqb-false _ _ (sym c.is_empty.ensures ∙ c.if-is_empty.false)) all c.parse.ensures.value.0 c.in-Err.is
