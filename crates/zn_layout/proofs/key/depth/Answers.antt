use Rattle.std.proofs.Common.{sym, ◌∙◌, rules}
use Rattle.zn_layout.proofs.Depth.{depth-root, depth-count}
use Rattle.zn_layout.proofs.key.depth.Goals as goal

pub returns-then-eq-clause-is : goal.returns-then-eq-clause-is
returns-then-eq-clause-is c = sym (depth-root c.args.path.now (sym c.eq.ensures ∙ c.if-eq.true))

pub returns-else-eq-clause-is : goal.returns-else-eq-clause-is
returns-else-eq-clause-is c = rw (depth-count c.args.path.now (sym c.eq.ensures ∙ c.if-eq.false)) (search rules)
