use Rattle.std.proofs.Common.{◌++◌, ◌∷◌, [], sym, ap, ◌∙◌}
use Rattle.std.specs.FinMap.{get}
use Rattle.std.proofs.lemmas.Result.{on_ok_weaker}
use Rattle.zx_base.proofs.Options.{some_is}
use Rattle.zk_service.specs.declared.cause.Cause.TheVariants as cause
use Rattle.zk_service.specs.declared.cause.Ended.TheVariants as ended
use Rattle.zk_transcript.specs.declared.transcript.TranscriptLine.TheVariants.{Close as CloseLine}
use Rattle.zp_script.specs.StepOutcomes.{left_by}
use Rattle.zp_script.specs.Worlds.{World}
use Rattle.zp_world.specs.Activities.{actor_of}
use Rattle.zp_world.proofs.Stepping.{ends-apart, opened-apart}
use Rattle.zp_world.proofs.world.World.stop.Goals as goal

pub returns : goal.returns
returns c =
    let apart = opened-apart c.args.number c.args.self.now _ c.take.new.self c.self.view_is c.take.ensures.left in
    on_ok_weaker c.close.result
    (λ closed. λ x there.
    closed
    ∙ ends-apart c.args.number c.args.self.now c.show_end.new.self x c.activity.inside.seat (actor_of c.activity.inside.actor) c.activity.inside.flight (ended.Cause cause.Restart)
    (some_is (sym there ∙ ap (λ (w : World). get w.conns c.args.number) (sym c.self.view_is) ∙ sym c.in_ok-activity.ensures.taken ∙ c.in-Some.is) ∙ sym c.activity.view_is)
    (c.in_ok-show_end.ensures ∙ ap (λ (v : World). record v { lines = v.lines ++ CloseLine c.args.number (ended.Cause cause.Restart) ∷ []; strays = v.strays ++ left_by c.activity.inside.flight }) apart)) c.close.ensures
