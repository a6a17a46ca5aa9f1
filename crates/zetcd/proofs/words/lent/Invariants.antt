use Rattle.std.proofs.Common.{◌≡◌, take, map, string_bytes}
use Rattle.zetcd.proofs.Arguments.{texts}
use Rattle.zetcd.proofs.words.lent.Given as goal

abbrev pub invariant-loop-word : goal.invariant-loop-word
invariant-loop-word l = texts l.all.items ≡ map string_bytes (take l.word-index l.words)
