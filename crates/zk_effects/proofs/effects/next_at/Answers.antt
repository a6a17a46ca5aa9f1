use Rattle.std.proofs.Common.{arith}
use Rattle.zk_effects.proofs.KeptEffects.{next-skip}
use Rattle.zk_effects.proofs.effects.next_at.Goals as goal

pub returns-then-is_update : goal.returns-then-is_update
returns-then-is_update c = λ all shown within later. (omega arith, omega (arith, within), λ j u low high at. omega (arith, low, high))

pub returns-else-is_update : goal.returns-else-is_update
returns-else-is_update c = λ all shown within later.
    next-skip all c.args.place c.args.next c.args.line.now shown (λ u is. (let yes = c.is_update.ensures u is in let no = c.if-is_update.false in absurd (cc))) later
