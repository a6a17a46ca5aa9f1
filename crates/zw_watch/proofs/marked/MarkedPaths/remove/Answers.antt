use Rattle.std.proofs.Common.{◌∙◌, sym, subst, get_or}
use Rattle.zk_model.specs.Watches.{PathSet}
use Rattle.zw_watch.specs.Bits.{IsCounted, IsPut, taken}
use Rattle.zw_watch.proofs.Counting.{counted-taken, counted-absent}
use Rattle.zw_watch.proofs.Hearing.{place-below}
use Rattle.zw_watch.proofs.marked.MarkedPaths.remove.Goals as goal

pub invariant_of-self : goal.invariant_of-self
invariant_of-self c =
    let old = c.self.inside.counts in
    let new = c.take.new.self in
    subst (λ (s : PathSet). IsCounted s new) (sym c.remove-was.ensures.rest)
    (counted-taken c.self.inside.paths c.args.path.now old new (sym c.remove-was.ensures.was ∙ c.if-was.true) (place-below c.args.path.now) c.self.invariant
    (subst (λ place. IsPut place (taken (get_or old place 0)) old new) c.place_of.ensures.place c.take.ensures))

pub invariant_of-self-else-was : goal.invariant_of-self-else-was
invariant_of-self-else-was c =
    subst (λ (s : PathSet). IsCounted s c.self.inside.counts) (sym c.remove-was.ensures.rest)
    (counted-absent c.self.inside.paths c.args.path.now c.self.inside.counts (sym c.remove-was.ensures.was ∙ c.if-was.false) c.self.invariant)
