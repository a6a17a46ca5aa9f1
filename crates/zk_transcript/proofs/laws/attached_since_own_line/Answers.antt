use Rattle.zk_transcript.proofs.Requests.{unmoved-until}
use Rattle.zk_transcript.proofs.laws.attached_since_own_line.Goals as goal

pub returns : goal.returns
returns c = λ lines c k moment own id x legal at lt here. unmoved-until lines c k moment own legal at lt id x here
