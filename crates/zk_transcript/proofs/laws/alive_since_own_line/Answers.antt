use Rattle.zk_transcript.proofs.Requests.{alive-until}
use Rattle.zk_transcript.proofs.laws.alive_since_own_line.Goals as goal

pub returns : goal.returns
returns c = λ lines c k moment own id x legal at lt here. alive-until lines c k moment own legal at lt id x here
