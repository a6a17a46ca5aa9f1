use Rattle.zp_settle_laws.proofs.Bytes.{first-counts, happens-counts}
use Rattle.zp_settle_laws.proofs.laws.the_bytes_of_frames_are_counted.Goals as goal

pub returns : goal.returns
returns c = record { first = first-counts; happens = happens-counts }
