use Rattle.zk_transcript.proofs.Attachments.{attached-to_own_line}
use Rattle.zk_transcript.proofs.laws.attached_to_own_line.Goals as goal

pub returns : goal.returns
returns c = attached-to_own_line
