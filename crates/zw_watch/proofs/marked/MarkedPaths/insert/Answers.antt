use Rattle.std.proofs.Common.{◌∙◌, ap, sym, subst, get_or}
use Rattle.std.specs.FinMap.{contains_key}
use Rattle.zk_model.specs.Watches.{PathSet}
use Rattle.zk_model.proofs.SetLaws.{insert-there}
use Rattle.zw_watch.specs.Bits.{IsCounted, IsPut, added}
use Rattle.zw_watch.proofs.Counting.{counted-added}
use Rattle.zw_watch.proofs.Hearing.{place-below}
use Rattle.zw_watch.proofs.marked.MarkedPaths.insert.Goals as goal

pub returns-then-contains-clause-ok : goal.returns-then-contains-clause-ok
returns-then-contains-clause-ok c = insert-there c.args.self.now c.args.path.now (ap (λ (s : PathSet). contains_key s c.args.path.now) (sym c.self.view_is) ∙ sym c.contains.ensures ∙ c.if-contains.true)

pub invariant_of-self-2 : goal.invariant_of-self-2
invariant_of-self-2 c =
    let old = c.self.inside.counts in
    let new = c.add.new.self in
    subst (λ (s : PathSet). IsCounted s new) (sym c.in_ok-insert.ensures.ok)
    (counted-added c.self.inside.paths c.args.path.now old new (sym c.contains.ensures ∙ c.if-contains.false) (place-below c.args.path.now) c.self.invariant
    (subst (λ place. IsPut place (added (get_or old place 0)) old new) c.place_of.ensures.place c.add.ensures))
