use Rattle.std.proofs.Common.{sym, ◌∙◌, arith}
use Rattle.zt_lines.proofs.Naturals.{natural-above}
use Rattle.zt_lines.specs.Words.{max_place}
use Rattle.zt_lines.proofs.numbers.place.Goals as goal

pub returns-in_err-value : goal.returns-in_err-value
returns-in_err-value c =
    c.from_residual-in_err-value.ensures ∙ sym (natural-above max_place c.args.word.now c.loop-byte.value c.loop-byte.byte-index _ c.loop-byte.invariant.told (omega arith) (sym c.decimal_digit.ensures ∙ c.in_ok-digit.was) c.in_err-value.ensures)
