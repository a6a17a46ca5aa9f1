-- All paths so far are before it.
use Rattle.std.proofs.Common.{◌≡◌, ℕ, ◌<◌, ◌≤◌, ◌-◌, true, length, get_or}
use Rattle.ev_types.specs.Ranges.{comes_before}
use Rattle.zn_updates.proofs.owned.place_of.Given as goal

abbrev pub invariant-loop-place : goal.invariant-loop-place
invariant-loop-place l = (l.place ≤ length l.paths) × ((k : ℕ) → k < l.place → comes_before (get_or l.paths k l.path) l.path ≡ true)

abbrev pub decreases-loop-place : goal.decreases-loop-place
decreases-loop-place l = length l.paths - l.place
