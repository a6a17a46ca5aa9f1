use Rattle.std.proofs.Common.{◌∙◌, ap}
use Rattle.std.specs.FinMap.{remove}
use Rattle.std.proofs.lemmas.List.{at_drop_all}
use Rattle.zw_watch.proofs.Undoing.{without-next, without-all}
use Rattle.zw_watch.proofs.noted.remove_all.Goals as goal

pub loop-path-preserved : goal.loop-path-preserved
loop-path-preserved c before h =
    without-next c.loop-path.paths c.remove.new.self before c.args.noted.now c.loop-path.path-index c.path-item.result c.loop-path-test.true c.path-item.is
    (c.remove.ensures.rest ∙ ap (remove c.loop-path.paths) c.path.view_is) (c.loop-path.invariant before h)

pub returns : goal.returns
returns c before h = without-all c.loop-path.paths before _ (at_drop_all (λ ps. ps) c.args.noted.now c.loop-path.path-index c.loop-path-test.false) (c.loop-path.invariant before h)
