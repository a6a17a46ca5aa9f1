use Rattle.std.proofs.Common.{sym, ◌∙◌, arith}
use Rattle.zt_text.proofs.Digits.{number-above}
use Rattle.zt_text.proofs.argument.number.Goals as goal

pub returns-then-value-from : goal.returns-then-value-from
returns-then-value-from c =
    sym (number-above c.args.word.now c.loop-byte.value c.loop-byte.byte-index _ c.loop-byte.invariant.told (omega arith) (sym c.decimal_digit.ensures ∙ c.in_ok-digit.was) (omega arith))
