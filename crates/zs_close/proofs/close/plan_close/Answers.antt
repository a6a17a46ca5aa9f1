-- What was seen decides.
use Rattle.std.specs.Prelude.{ℕ}
use Rattle.zk_model.specs.declared.request.Request.TheVariants as req
use Rattle.zn_view.specs.Deciding.{IsGood}
use Rattle.zs_close.proofs.Closes.{IsPlannedClose, if_planned, close-decides, close-good, close-planned, close-tested}
use Rattle.zs_close.proofs.KeysRead.{whole-life, whole-session, whole-parents}
use Rattle.zs_close.proofs.close.plan_close.Goals as goal

pub close-requires-clause-life : goal.close-requires-clause-life
close-requires-clause-life c = whole-life c.args.who c.args.view.now c.requires.whole

pub close-requires-clause-seen : goal.close-requires-clause-seen
close-requires-clause-seen c = whole-session c.args.who c.args.view.now c.requires.whole

pub close-requires-clause-parents : goal.close-requires-clause-parents
close-requires-clause-parents c = whole-parents c.args.who c.args.view.now c.requires.whole

pub returns-clause-decision : goal.returns-clause-decision
returns-clause-decision c = close-decides c.args.who c.args.view.now c.requires.real c.in_ok-decision.decision c.in_ok-decision.ensures

pub returns-clause-tested : goal.returns-clause-tested
returns-clause-tested c = close-tested c.args.who c.args.view.now c.requires.real c.in_ok-decision.decision c.in_ok-decision.ensures

pub returns-clause-plan : goal.returns-clause-plan
returns-clause-plan c = if_planned (IsPlannedClose c.args.who c.args.view.now) (λ p. (now : ℕ) → IsGood req.Close c.args.who now c.args.view.now p) c.in_ok-decision.decision
    (λ p is. close-good c.args.who c.args.view.now c.requires.real p is)
    (close-planned c.args.who c.args.view.now c.requires.real c.in_ok-decision.decision c.in_ok-decision.ensures)
