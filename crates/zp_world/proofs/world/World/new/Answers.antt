use Rattle.std.proofs.Common.{subst, arith}
use Rattle.zp_script.specs.Worlds.{World}
use Rattle.zp_world.specs.Activities.{AreWithin}
use Rattle.zp_world.proofs.Beginning.{begun-stands}
use Rattle.zp_world.proofs.world.World.new.Goals as goal

pub over-requires-clause-stands : goal.over-requires-clause-stands
over-requires-clause-stands c = begun-stands (c.begin_stands.ensures 0 (omega arith)) _ c.in_ok-store.ensures

pub returns-clause-within : goal.returns-clause-within
returns-clause-within c = subst (λ (w : World). AreWithin w.conns) c.world.view_is c.are_within.ensures
