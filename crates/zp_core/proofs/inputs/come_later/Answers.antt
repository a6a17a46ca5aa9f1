-- By its length a frame has a header or not.
use Rattle.std.proofs.Common.{◌<◌, ◌≤◌, length, sym, subst, arith}
use Rattle.std.proofs.lemmas.Result.{IfOk-weaker}
use Rattle.zk_service.specs.declared.cause.Cause.TheVariants as cause
use Rattle.zp_core.specs.Meanings.{Shuts}
use Rattle.zp_core.specs.declared.moves.Move.{Move}
use Rattle.zp_core.specs.Handling.{ComesLater}
use Rattle.zp_core.proofs.Coming.{later-closes, later-waits}
use Rattle.zp_core.proofs.inputs.come_later.Goals as goal

pub returns-then-frame-lt-HEADER : goal.returns-then-frame-lt-HEADER
returns-then-frame-lt-HEADER c =
    let short : length c.args.frame.now < 8 = omega arith in
    IfOk-weaker c.close.result (Shuts (cause.NoHeader c.args.client.now.taken)) (ComesLater c.args.client.now c.args.stage c.args.frame.now c.args.client.now)
    (λ m s. later-closes c.args.client.now c.args.stage c.args.frame.now m short s) c.close.ensures

pub returns : goal.returns
returns c =
    let long : 8 ≤ length c.args.frame.now = omega arith in
    subst (λ (m : Move). ComesLater c.args.client.now c.args.stage c.args.frame.now c.queue.new.client m) (sym c.rest.ensures)
    (later-waits c.args.client.now c.queue.new.client c.args.stage c.args.frame.now long c.in_ok-queue.ensures)
