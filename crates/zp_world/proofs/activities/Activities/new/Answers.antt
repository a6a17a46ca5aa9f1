use Rattle.std.proofs.Common.{List, sym, subst, ℕ}
use Rattle.std.specs.FinMap.{from_entries}
use Rattle.zp_script.specs.Worlds.{Conn}
use Rattle.zp_world.specs.Activities.{AreWithin}
use Rattle.zp_world.proofs.Within.{within-empty}
use Rattle.zp_world.proofs.activities.Activities.new.Goals as goal

pub invariant_of-result : goal.invariant_of-result
invariant_of-result c = subst (λ (es : List (ℕ × Conn)). AreWithin (from_entries es)) (sym c.new.ensures.empty) within-empty
