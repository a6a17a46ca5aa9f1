use Rattle.std.proofs.Common.{ap₂, w64}
use Rattle.std.proofs.Output.{has_written_of_eq}
use Rattle.std.proofs.lemmas.Int.{to_z-of_z}
use Rattle.ev_faults.specs.Words.{gap_words}
use Rattle.ev_faults.proofs.fault.write_gap.Goals as goal

pub returns : goal.returns
returns g c = λ plain ok. has_written_of_eq _ _ _ _ _ (ap₂ gap_words (to_z-of_z w64 c.args.expected c.ranges.expected) (to_z-of_z w64 c.args.found c.ranges.found)) (c.write.ensures.writes plain ok)
