use Rattle.zk_transcript.proofs.Attachments.{attached-latest}
use Rattle.zk_transcript.proofs.laws.attached_last.Goals as goal

pub returns : goal.returns
returns c = attached-latest
