use Rattle.std.proofs.Common.{ℕ, Option, ap, sym, ◌∙◌, drop}
use Rattle.zk_transcript.specs.Walks.{packets}
use Rattle.zk_judge.specs.Seen.{walker_of}
use Rattle.zk_judge.specs.Waiting.{goes_on, tries_of}
use Rattle.zk_judge.proofs.Replied.{goes-none}
use Rattle.zk_judge.proofs.waits.wait_for_tries.Goals as goal

pub returns-in-None-clause-walked : goal.returns-in-None-clause-walked
returns-in-None-clause-walked c =
    sym (ap (λ (o : Option (ℕ × Option ℕ)). goes_on c.args.index.now.lines.now c.args.party.connection c.args.party.session (walker_of c.args.walker) (drop c.args.taken (packets c.args.party.connection c.args.index.now.lines.now)) (tries_of o)) c.in-None.is ∙ goes-none c.args.index.now.lines.now c.args.party.connection c.args.party.session (walker_of c.args.walker) (drop c.args.taken (packets c.args.party.connection c.args.index.now.lines.now)))
