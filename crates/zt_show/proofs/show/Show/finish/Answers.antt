use Rattle.std.proofs.Common.{◌++◌, List, ℕ, ap, ◌∙◌}
use Rattle.zt_show.specs.Showing.{showing}
use Rattle.zt_show.proofs.Taking.{Finishes-appended}
use Rattle.zt_show.proofs.show.Show.finish.Goals as goal

pub returns-clause-adds : goal.returns-clause-adds
returns-clause-adds c =
    rw (← c.self.view_is)
    (Finishes-appended c.in_ok-ending.ending c.self.inside.cutter.rest c.self.inside.progress c.self.inside.has_failed (showing c.self.inside.cutter.rest c.finish.new.self) c.clear.new.self c.finish.new.text c.args.text.now c.append.new.self
    c.if-self.false c.clear.ensures (c.in_ok-ending.ensures c.self.inside.cutter.rest) (c.in_ok-append.ensures.ok ∙ ap (λ (t : List ℕ). c.args.text.now ++ t) c.as_slice.ensures))
