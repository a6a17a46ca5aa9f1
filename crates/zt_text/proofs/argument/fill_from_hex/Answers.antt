use Rattle.std.proofs.Common.{sym, ◌∙◌, arith}
use Rattle.zt_text.proofs.Digits.{filled_all, filled_more, filled_none}
use Rattle.zt_text.proofs.argument.fill_from_hex.Goals as goal

pub returns-in_default : goal.returns-in_default
returns-in_default c =
    filled_none c.args.word.now c.loop-at.at c.loop-at.out c.loop-at.invariant (omega arith) (omega arith) (sym c.hex_byte.ensures ∙ c.in_default.is)

pub loop-at-preserved : goal.loop-at-preserved
loop-at-preserved c =
    filled_more c.args.word.now c.loop-at.at c.loop-at.out _ c.loop-at.invariant (omega arith) (omega arith) (sym c.hex_byte.ensures ∙ c.in-Some.is)

pub returns : goal.returns
returns c = filled_all c.args.word.now c.loop-at.at c.loop-at.out c.loop-at.invariant (omega arith) (omega arith)
