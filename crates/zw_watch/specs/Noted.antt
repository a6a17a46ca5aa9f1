-- The paths that a setWatches put into a set.
use Rattle.std.specs.Prelude.{◌≡◌, List, None, if◌then◌else◌}
use Rattle.std.specs.FinMap.{get}
use Rattle.zk_model.specs.PathSets.{has}
use Rattle.zk_model.specs.Watches.{PathSet}
use Rattle.zx_base.specs.Maps.{Bytes}

-- the set without the noted paths is the one that was there before
abbrev pub IsWithout : PathSet → List Bytes → PathSet → Type 0
IsWithout now noted before = (q : Bytes) → get before q ≡ (if has q noted then None else get now q)
