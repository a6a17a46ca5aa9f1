-- Counts never fall, and rise by one at most.
use Rattle.std.proofs.Common.{◌≡◌, ℕ, ◌+◌, ◌-◌, ◌^◌, ◌<◌, min, arith}
use Rattle.zx_outside.specs.Counts.{one_more}

-- one more, as a saturating sum, for a count that has 64 bits
pub min-is-one_more : (count : ℕ) → count < 2 ^ 64 → min (count + 1) (2 ^ 64 - 1) ≡ one_more count
min-is-one_more count within = omega arith
