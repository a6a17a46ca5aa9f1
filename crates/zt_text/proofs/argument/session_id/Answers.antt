use Rattle.std.proofs.Common.{get_or, sym, ◌∙◌, arith}
use Rattle.zt_text.proofs.Digits.{hex_digit-small, hex_value_fits}
use Rattle.zt_text.proofs.argument.session_id.Goals as goal

pub overflow_mul-value : goal.overflow_mul-value
overflow_mul-value c = omega (arith, hex_value_fits c.loop-byte.value c.loop-byte.byte-index c.loop-byte.invariant.small (omega arith))

pub overflow_add-value : goal.overflow_add-value
overflow_add-value c =
    let small = hex_digit-small (get_or c.args.word.now c.loop-byte.byte-index 0) c.in_ok-digit.digit (sym c.hex_digit.ensures ∙ c.in_ok-digit.was) in
    omega (arith, hex_value_fits c.loop-byte.value c.loop-byte.byte-index c.loop-byte.invariant.small (omega arith), small)
