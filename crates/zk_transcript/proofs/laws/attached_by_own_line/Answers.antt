use Rattle.zk_transcript.proofs.Attachments.{attached-by_own_line}
use Rattle.zk_transcript.proofs.laws.attached_by_own_line.Goals as goal

pub returns : goal.returns
returns c = attached-by_own_line
