-- The first wants are taken: as many as an ask may have, or all.
use Rattle.std.proofs.Common.{sym, ap, ◌∙◌, arith, take}
use Rattle.std.proofs.lemmas.List.{take_at}
use Rattle.zp_step.specs.Looking.{max_ranges}
use Rattle.zp_core.proofs.Fronts.{front-all}
use Rattle.zp_core.proofs.round.front.Goals as goal

pub returns-in-None-clause-front : goal.returns-in-None-clause-front
returns-in-None-clause-front c =
    let left = c.front.wants.items in
    sym (ap (take max_ranges) (sym c.front.invariant.0) ∙ front-all c.front.first left max_ranges c.front.invariant.1 (sym c.front.wants.ok.0 ∙ c.in-None.ensures.cases.0))

pub returns-clause-front : goal.returns-clause-front
returns-clause-front c = sym (ap (take max_ranges) (sym c.front.invariant.0) ∙ take_at c.front.first c.front.wants.items max_ranges (omega arith))
