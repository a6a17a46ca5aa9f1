use Rattle.std.proofs.Common.{sym, ◌∙◌}
use Rattle.std.proofs.lemmas.Bool.{eqb-true, eqb-false}
use Rattle.ev_json.specs.Messages.{event_data}
use Rattle.ev_fields.specs.declared.field.Field.TheVariants.{Events}
use Rattle.ev_fields.proofs.Tokens.{opened-empty, list_if-some}
use Rattle.ev_json.proofs.line_text.events_if.Goals as goal

pub returns-then-is_empty : goal.returns-then-is_empty
returns-then-is_empty c = λ before fs h. opened-empty event_data before c.args.out fs Events c.args.kvs.now (eqb-true _ _ (sym c.is_empty.ensures ∙ c.if-is_empty.true)) h

pub returns : goal.returns
returns c = rw (list_if-some event_data Events c.args.kvs.now (eqb-false _ _ (sym c.is_empty.ensures ∙ c.if-is_empty.false))) c.events.ensures
