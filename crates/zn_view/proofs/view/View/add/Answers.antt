-- The first round's revision is the view's.
use Rattle.std.proofs.Common.{ap, ◌∙◌, ◌≡◌, ℤ, true, false, w64, rules}
use Rattle.std.proofs.lemmas.Int.{to_z-of_z}
use Rattle.zn_view.specs.Adding.{is_new}
use Rattle.zn_view.specs.Seen.{View}
use Rattle.zn_view.proofs.Added.{begun-with}
use Rattle.zn_view.proofs.view.View.add.Goals.{then-new, else-new}
use Rattle.zn_view.proofs.view.View.add.Goals as goal

pub returns-clause-ok : goal.returns-clause-ok
returns-clause-ok c =
    let old = c.args.self.now in
    elim c.if-new.branch [
      | then-new w ↦
          let new : is_new old ≡ true = search rules in
          w.self-is ∙ w.begin_at.ensures
          ∙ ap (λ (r : ℤ). record c.take_or_leave.new.self { revision = r }) (to_z-of_z w64 _ c.ranges.revision)
          ∙ ap (λ (v : View). record v { revision = c.args.revision }) c.in_ok-take_or_leave.ensures.ok
          ∙ begun-with true old c.args.revision c.args.wants.now c.args.parts.now new
      | else-new w ↦
          let begun : is_new old ≡ false = search rules in
          w.self-is ∙ c.in_ok-take_or_leave.ensures.ok ∙ begun-with false old c.args.revision c.args.wants.now c.args.parts.now begun
    ]
