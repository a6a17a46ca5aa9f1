use Rattle.std.proofs.Common.{◌∙◌, ap, ℤ, w64}
use Rattle.std.proofs.lemmas.Int.{to_z-of_z}
use Rattle.zw_watch.specs.Rounds.{told_of}
use Rattle.zw_watch.specs.SeenPaths.{see_paths}
use Rattle.zw_watch.proofs.SetWatches.{see_paths-next, see_paths-done}
use Rattle.zw_watch.proofs.sets.PathSets.see_paths.Goals as goal

pub loop-path-preserved : goal.loop-path-preserved
loop-path-preserved c = record {
  told = see_paths-next _ _ _ c.args.seen.now c.loop-path.path-index c.path-item.result c.loop-path-test.true c.path-item.is c.in_ok-see.ensures.ok ∙ c.loop-path.invariant.told;
  undo = λ before h. c.see.ensures.undo before (c.loop-path.invariant.undo before h);
}

pub returns-in_err-see-clause-undo : goal.returns-in_err-see-clause-undo
returns-in_err-see-clause-undo c before h = c.see.ensures.undo before (c.loop-path.invariant.undo before h)

pub returns-clause-ok : goal.returns-clause-ok
returns-clause-ok c =
    see_paths-done _ _ c.args.seen.now c.loop-path.path-index c.loop-path-test.false
    ∙ c.loop-path.invariant.told
    ∙ ap (λ (z : ℤ). see_paths z (told_of c.args.self.now c.args.round.now) c.args.seen.now) (to_z-of_z w64 _ c.ranges.relative)
