use Rattle.std.proofs.Common.{◌++◌, sym, ap, ◌∙◌}
use Rattle.std.specs.FinMap.{entries}
use Rattle.zp_script.specs.Worlds.{Conns}
use Rattle.zp_world.proofs.Restarting.{numbers_among}
use Rattle.zp_world.proofs.Within.{entries-same}
use Rattle.zp_world.proofs.activities.Activities.open_at.Goals as goal

pub loop-number-init : goal.loop-number-init
loop-number-init c =
    ap (λ ls. ls ++ numbers_among c.args.proxy c.into_iter-number-iterator.result) c.new-numbers.ensures.items
    ∙ ap (numbers_among c.args.proxy)
    (c.into_iter-number-iterator.ensures.into_iter_gives ∙ c.iter-number-items.ensures.rest ∙ sym (entries-same c.self.inside.by_number.entries c.iter-number-items.ensures.ordered)
    ∙ ap (λ (m : Conns). entries m) c.self.view_is)
