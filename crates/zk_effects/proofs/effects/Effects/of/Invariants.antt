use Rattle.std.proofs.Common.{◌≡◌}
use Rattle.zk_effects.specs.Effects.{AreEffects}
use Rattle.zk_effects.proofs.effects.Effects.of.Given as goal

abbrev pub invariant-loop-line : goal.invariant-loop-line
invariant-loop-line l = record {
  place : l.cursor.past.len ≡ l.line-index;
  over : l.cursor.past.all.now ≡ l.all;
  each : AreEffects l.all l.line-index l.table;
}
