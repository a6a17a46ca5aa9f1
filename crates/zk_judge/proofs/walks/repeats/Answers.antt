use Rattle.std.proofs.Common.{◌≡◌, ℕ, List, Option, subst, IfOk}
use Rattle.zk_least.specs.LeastWalk.{repeats}
use Rattle.zk_judge.proofs.walks.repeats.Goals as goal

pub returns-in-Some : goal.returns-in-Some
returns-in-Some c = subst (λ (o : Option (ℕ × List ℕ)). IfOk c.is_plain.result (λ b. b ≡ repeats o c.args.reply.now)) c.in-Some.ensures.placed c.is_plain.ensures
