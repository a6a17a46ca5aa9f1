use Rattle.std.proofs.Common.{sym, arith}
use Rattle.zt_text.proofs.Digits.{hex_pairs-odd}
use Rattle.zt_text.proofs.argument.hex_pairs.Goals as goal

pub returns-then-word-ne0 : goal.returns-then-word-ne0
returns-then-word-ne0 c = sym (hex_pairs-odd c.args.word.now (omega arith))
