use Rattle.std.proofs.Common.{pos, Some, None, sym, ◌∙◌}
use Rattle.zk_jute.specs.Requests.{Asks}
use Rattle.zk_judge.proofs.PlainAnswers.{with-armed}
use Rattle.zk_judge.proofs.frames.other_said.Goals as goal

pub returns-in-Some : goal.returns-in-Some
returns-in-Some c = with-armed c.args.watches (Asks (pos 0) c.args.request.now) (Some c.in-Some.reply) (c.requires (pos 0)) (sym c.in-Some.is ∙ c.in_ok-reply.ensures)

pub returns-in-None : goal.returns-in-None
returns-in-None c = with-armed c.args.watches (Asks (pos 0) c.args.request.now) None (c.requires (pos 0)) (sym c.in-None.is ∙ c.in_ok-reply.ensures)
