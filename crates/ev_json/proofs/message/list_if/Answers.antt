use Rattle.std.proofs.Common.{sym, ◌∙◌}
use Rattle.std.proofs.lemmas.Bool.{eqb-true, eqb-false}
use Rattle.ev_fields.proofs.Tokens.{opened-empty, list_if-some}
use Rattle.ev_json.proofs.message.list_if.Goals as goal

pub returns-then-is_empty : goal.returns-then-is_empty
returns-then-is_empty g c = λ before fs h. opened-empty g.M.Message.shape before c.args.out fs c.args.name c.args.items.now (eqb-true _ _ (sym c.is_empty.ensures ∙ c.if-is_empty.true)) h

pub returns : goal.returns
returns g c = rw (list_if-some g.M.Message.shape c.args.name c.args.items.now (eqb-false _ _ (sym c.is_empty.ensures ∙ c.if-is_empty.false))) c.list.ensures
