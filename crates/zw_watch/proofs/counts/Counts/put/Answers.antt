use Rattle.std.proofs.Common.{◌<◌, ◌∙◌, ap, sym, subst, get_or, set}
use Rattle.std.specs.Prelude.{min}
use Rattle.std.specs.Int.{bit_at}
use Rattle.zw_watch.proofs.Counting.{shown-set, shown-clear}
use Rattle.zw_watch.proofs.counts.Counts.put.Goals as goal
use Rattle.zw_watch.proofs.counts.Counts.put.Goals.{then-count-eq0, else-count-eq0}

pub invariant_of-self : goal.invariant_of-self
invariant_of-self c i below =
    let counts = c.self.inside.counts in
    let within = subst (λ n. c.args.place < n) (sym c.self.told) c.requires in
    elim c.if-count-eq0.branch [
      | then-count-eq0 w ↦
          ap (λ bits. bit_at bits i) w.self-is
          ∙ shown-clear counts c.self.inside.bits c.args.place c.requires within c.self.invariant i below
          ∙ ap (λ n. min 1 (get_or (set counts c.args.place n) i 0)) (sym w.if-count-eq0.true)
      | else-count-eq0 w ↦ ap (λ bits. bit_at bits i) w.self-is ∙ shown-set counts c.self.inside.bits c.args.place c.args.count c.requires within w.if-count-eq0.false c.self.invariant i below
    ]
