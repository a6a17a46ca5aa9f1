use Rattle.zn_layout.specs.Records.{trigger_bytes}
use Rattle.zn_layout.specs.ReadingSteps.{IsValidTrigger}
use Rattle.zn_layout.proofs.Lists.{AreTaken, triggers_same}
use Rattle.zn_layout.proofs.list.Reader.triggers.Given as goal

abbrev pub invariant-loop : goal.invariant-loop
invariant-loop l = AreTaken trigger_bytes IsValidTrigger triggers_same l.fn.self l.counter l.triggers.items l.self
