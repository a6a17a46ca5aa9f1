use Rattle.std.proofs.Common.{sym, ◌∙◌, refl}
use Rattle.std.proofs.lemmas.Bool.{false≢true}
use Rattle.zn_layout.proofs.Rising.{rising-more, rising-sorted, not_sorted}
use Rattle.zn_layout.proofs.list.are_rising.Goals as goal

pub returns-then-not-is_before : goal.returns-then-not-is_before
returns-then-not-is_before c = (
  λ t. absurd (false≢true t),
  λ sorted. absurd (not_sorted c.args.paths.now c.loop-i.i c.index-paths-i.result c.index-paths-i-in-loop-i.result c.loop-i.auto.i c.loop-i-test.true c.index-paths-i.is c.index-paths-i-in-loop-i.is
      (sym c.is_before.ensures ∙ c.if-not-is_before.true) sorted),
)

pub loop-i-preserved : goal.loop-i-preserved
loop-i-preserved c = rising-more c.args.paths.now c.loop-i.i c.index-paths-i.result c.index-paths-i-in-loop-i.result c.loop-i.auto.i c.loop-i-test.true c.index-paths-i.is c.index-paths-i-in-loop-i.is
    (sym c.is_before.ensures ∙ c.if-not-is_before.false) c.loop-i.invariant

pub returns : goal.returns
returns c = (λ t. rising-sorted c.args.paths.now c.loop-i.i c.loop-i-test.false c.loop-i.invariant, λ s. refl)
