-- Bounds of short lists of a session's nodes.
use Rattle.std.proofs.Common.{◌≡◌, List, [], sym, subst, arith}
use Rattle.std.specs.List.Sorted.{IsStrictlySortedBy}
use Rattle.zx_base.specs.Maps.{Bytes}
use Rattle.zn_layout.specs.Records.{ArePaths}

pub none_within : (ps : List Bytes) → ps ≡ [] → ArePaths ps
unfolding IsStrictlySortedBy
none_within ps e = subst ArePaths (sym e) (record { count = omega arith; valid = λ k d lt. absurd (omega arith); rising = tt })
