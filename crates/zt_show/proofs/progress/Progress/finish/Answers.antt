use Rattle.std.proofs.Common.{arith, ◌∙◌}
use Rattle.zt_show.specs.Showing.{showing}
use Rattle.zt_show.proofs.Taking.{Finishes-from, ends_whole, ends_cut}
use Rattle.zt_show.proofs.progress.Progress.finish.Goals.{then-place-self, else-place-self}
use Rattle.zt_show.proofs.progress.Progress.finish.Goals as goal

pub returns : goal.returns
returns c = λ rest.
    let old = showing rest c.args.self.now in
    let place = c.saturating_sub-place.ensures in
    (Finishes-from old c.args.text.now c.end.new.text c.if-place-self.ending c.end.new.self
    (elim c.if-place-self.branch [
      | then-place-self w ↦ λ seen lines f. w.ending-is ∙ ends_whole old c.saturating_sub-place.result (omega arith) (omega arith) seen lines f
      | else-place-self w ↦ λ seen lines f. w.ending-is ∙ ends_cut old c.saturating_sub-place.result (omega arith) (λ e. omega arith) seen lines f
    ])
    c.in_ok-end.ensures.text c.in_ok-end.ensures.lines)
