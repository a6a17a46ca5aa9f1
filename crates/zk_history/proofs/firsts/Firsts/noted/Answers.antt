use Rattle.std.proofs.Common.{ap, sym, ◌∙◌}
use Rattle.std.specs.BTreeMap as tree
use Rattle.zk_history.specs.Shown.{mark_order, is_mark, kept, place_in}
use Rattle.zk_history.proofs.Marks.{noted-new, noted-old}
use Rattle.zk_history.proofs.firsts.Firsts.noted.Goals as goal
use Rattle.zk_history.proofs.firsts.Firsts.noted.Goals.{then-not-contains_key+in_ok-insert, else-not-contains_key}

pub returns : goal.returns
returns c = λ d i.
    elim c.if-not-contains_key.branch [
      | then-not-contains_key+in_ok-insert w ↦
          ap (λ p. tree.get mark_order p (d, i)) w.places-is
          ∙ noted-new (λ q. tree.get mark_order c.args.self.places q) (λ q. tree.get mark_order w.insert.new.self q) c.in-Some.mark c.args.place (sym w.if-not-contains_key.ensures) w.in_ok-insert.ensures.updates.0 d i
          ∙ ap (λ o. kept (place_in c.args.self d i) (is_mark o d i) c.args.place) (sym c.in-Some.is)
      | else-not-contains_key w ↦
          ap (λ p. tree.get mark_order p (d, i)) w.places-is
          ∙ noted-old (λ q. tree.get mark_order c.args.self.places q) c.in-Some.mark c.args.place (sym w.if-not-contains_key.ensures) d i
          ∙ ap (λ o. kept (place_in c.args.self d i) (is_mark o d i) c.args.place) (sym c.in-Some.is)
    ]
