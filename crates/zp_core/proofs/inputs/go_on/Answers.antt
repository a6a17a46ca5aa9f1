-- Each frame that waits is taken up in turn, and at last none is to be.
use Rattle.std.proofs.Common.{◌≡◌, ◌<◌, ℕ, List, length, arith, sym, ap, subst}
use Rattle.zp_step.specs.Keepalives.{TakesUp}
use Rattle.zp_step.specs.Stages.{Core}
use Rattle.zp_core.specs.Going.{GoesOn, IsAtRest, IsNext}
use Rattle.zp_core.specs.Meanings.{core_of, ready, stage_of}
use Rattle.zp_core.proofs.GoingOn.{continues-ends, continues-takes, takes_up-waits}
use Rattle.zp_core.proofs.inputs.go_on.Goals as goal

pub frames-preserved : goal.frames-preserved
frames-preserved c =
    let next : IsNext c.frames.client (stage_of c.frames.stage) c.next_frame.new.client c.in-Some.frame = c.in-Some.ensures in
    let here = core_of c.frames.client (stage_of c.frames.stage) in
    let after = core_of c.take_next.new.client (stage_of c.take_next.new.stage) in
    let taken = subst (λ (x : Core). TakesUp x c.in-Some.frame c.args.now after c.in_ok-more.more) next.rest c.in_ok-more.ensures in
    rw c.in_ok-append.ensures
    (continues-takes c.args.now (core_of c.args.client.now (stage_of c.args.stage.now)) here after c.args.actions.now.items c.frames.actions.items c.in_ok-more.more c.in-Some.frame c.next_frame.new.client.waiting.items
    c.frames.invariant next.is_ready next.first taken)

pub frames-smaller : goal.frames-smaller
frames-smaller c =
    let next : IsNext c.frames.client (stage_of c.frames.stage) c.next_frame.new.client c.in-Some.frame = c.in-Some.ensures in
    let after = core_of c.take_next.new.client (stage_of c.take_next.new.stage) in
    let left : c.take_next.new.client.waiting.items ≡ c.next_frame.new.client.waiting.items =
    takes_up-waits (ready c.next_frame.new.client) after c.in-Some.frame c.args.now c.in_ok-more.more c.in_ok-more.ensures in
    let less : length c.take_next.new.client.waiting.items < length c.frames.client.waiting.items =
    omega (arith, ap (λ (l : List (List ℕ)). length l) left, ap (λ (l : List (List ℕ)). length l) next.first) in
    less

pub returns : goal.returns
returns c =
    let rest : IsAtRest c.frames.client (stage_of c.frames.stage) c.next_frame.new.client = c.in_default.ensures in
    let from = core_of c.args.client.now (stage_of c.args.stage.now) in
    subst (λ (x : Core). GoesOn c.args.now from c.args.actions.now.items x c.frames.actions.items) (ap (λ (y : Core). record y { stage = stage_of c.frames.stage }) (sym rest.0))
    (continues-ends c.args.now from (core_of c.frames.client (stage_of c.frames.stage)) c.args.actions.now.items c.frames.actions.items c.frames.invariant rest.1)
