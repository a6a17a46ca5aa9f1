use Rattle.std.proofs.Common.{◌≡◌, ◌++◌, take}
use Rattle.zt_text.specs.Written.{spaced_after}
use Rattle.zt_text.proofs.word.push_spaced.Given as goal

-- the words so far
abbrev pub invariant-loop-word : goal.invariant-loop-word
invariant-loop-word l = l.out.items ≡ l.initial.out.items ++ spaced_after (take l.word-index l.words)
