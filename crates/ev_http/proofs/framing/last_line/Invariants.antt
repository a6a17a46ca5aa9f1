use Rattle.std.proofs.Common.{◌≡◌, ◌+◌, ◌-◌, ◌<◌, ◌≤◌, ℕ, length, get_or}
use Rattle.ev_http.proofs.framing.last_line.Given as goal

abbrev pub invariant-bytes : goal.invariant-bytes
invariant-bytes l = record {
  within : l.at ≤ length l.bytes - 1;
  no_feed : (k : ℕ) → l.at ≤ k → k + 1 < length l.bytes → get_or l.bytes k 0 ≡ 10 → ⊥;
}

abbrev pub decreases-bytes : goal.decreases-bytes
decreases-bytes l = l.at
