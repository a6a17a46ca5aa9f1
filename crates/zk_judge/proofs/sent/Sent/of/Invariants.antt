use Rattle.std.proofs.Common.{◌≡◌, ℕ, ◌++◌, drop}
use Rattle.zk_judge.specs.Sent.{places_in, sent_from}
use Rattle.zk_judge.proofs.sent.Sent.of.Given as goal

abbrev pub invariant-loop-place : goal.invariant-loop-place
invariant-loop-place l = (c : ℕ) → sent_from c 0 l.lines ≡ places_in l.sent c ++ sent_from c l.place (drop l.place l.lines)
