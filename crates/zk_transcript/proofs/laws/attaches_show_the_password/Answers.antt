use Rattle.zk_transcript.proofs.Conditions.{attach-shows, attach-after}
use Rattle.zk_transcript.proofs.laws.attaches_show_the_password.Goals as goal

pub returns-clause-shown : goal.returns-clause-shown
returns-clause-shown c = attach-shows

pub returns-clause-after : goal.returns-clause-after
returns-clause-after c = attach-after
