use Rattle.std.proofs.Common.{take}
use Rattle.zt_text.specs.Scripts.{Lacks}
use Rattle.zt_text.proofs.cuts.cut.Given as goal

-- none so far
abbrev pub invariant-loop-place : goal.invariant-loop-place
invariant-loop-place l = Lacks l.at (take l.place l.bytes)
