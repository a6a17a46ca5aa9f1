use Rattle.std.proofs.Common.{length, ◌-◌, ◌≡◌, ◌≤◌, ◌++◌, take, drop}
use Rattle.zn_view.specs.declared.snapshot.SeenKey.{SeenKey}
use Rattle.zn_view.specs.Laying.{placed}
use Rattle.zn_view.proofs.view.place_of.Given as goal

abbrev pub invariant-loop-place : goal.invariant-loop-place
invariant-loop-place l = ((x : SeenKey) → x.key ≡ l.key → placed x l.keys ≡ take l.place l.keys ++ placed x (drop l.place l.keys)) × (l.place ≤ length l.keys)

abbrev pub decreases-loop-place : goal.decreases-loop-place
decreases-loop-place l = length l.keys - l.place
