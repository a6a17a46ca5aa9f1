use Rattle.zk_jute.specs.JuteWriting.{string_bytes}
use Rattle.zn_layout.specs.ReadingSteps.{IsValidPath}
use Rattle.zn_layout.proofs.Lists.{AreTaken, paths_same}
use Rattle.zn_layout.proofs.list.Reader.paths.Given as goal

abbrev pub invariant-loop : goal.invariant-loop
invariant-loop l = AreTaken string_bytes IsValidPath paths_same l.fn.self l.counter l.paths.items l.self
