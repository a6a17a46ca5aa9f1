use Rattle.std.proofs.Common.{ap, w64}
use Rattle.std.proofs.Output.{has_written_of_eq}
use Rattle.std.proofs.lemmas.Int.{to_z-of_z}
use Rattle.ev_faults.specs.Words.{behind_words}
use Rattle.ev_faults.proofs.fault.write_behind.Goals as goal

pub returns : goal.returns
returns g c = λ plain ok. has_written_of_eq _ _ _ _ _ (ap behind_words (to_z-of_z w64 c.args.rev c.ranges.rev)) (c.write.ensures.writes plain ok)
