use Rattle.std.proofs.Common.{◌∙◌, ap, ℤ, w64}
use Rattle.std.proofs.lemmas.Int.{to_z-of_z}
use Rattle.std.proofs.lemmas.Result.{IfOk-weaker}
use Rattle.zk_model.specs.Watches.{Watches}
use Rattle.zw_watch.specs.Armed.{watches_of}
use Rattle.zw_watch.specs.SeenPaths.{see_paths, unseen}
use Rattle.zw_watch.proofs.SetWatches.{is_set-watches}
use Rattle.zw_watch.proofs.armed.Armed.rearm.Goals as goal

pub returns-clause-set : goal.returns-clause-set
returns-clause-set c = IfOk-weaker c.rearm.result _ _ (λ ns is. is_set-watches c.args.relative c.args.self.now c.args.seen.now _ (
    is
    ∙ ap (λ (z : ℤ). see_paths z (unseen (watches_of c.self.inside.paths)) c.args.seen.now) (to_z-of_z w64 _ c.ranges.relative)
    ∙ ap (λ (w : Watches). see_paths c.args.relative (unseen w) c.args.seen.now) c.self.view_is)) c.rearm.ensures.ok
