use Rattle.std.proofs.Common.{sym, ◌∙◌, arith}
use Rattle.zetcd_cmd.proofs.Servings.{digits_above}
use Rattle.zetcd_cmd.proofs.words.digits.Goals as goal

pub returns-then-value-from : goal.returns-then-value-from
returns-then-value-from c =
    sym (digits_above c.args.text.now c.loop-byte.value c.loop-byte.byte-index _ c.loop-byte.invariant.told (omega arith) (sym c.decimal_digit.ensures ∙ c.in_ok-digit.was) (omega arith))
