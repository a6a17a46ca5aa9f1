use Rattle.zp_verdict_laws.proofs.Running.{few-counted, lines-count-frames}
use Rattle.zp_verdict_laws.proofs.laws.frames_are_counted_by_their_lines.Goals as goal

pub returns : goal.returns
returns c = record { few = few-counted; run = lines-count-frames }
