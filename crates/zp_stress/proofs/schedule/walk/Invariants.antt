-- What walks the rest walks all, for the same number of connections.
use Rattle.std.proofs.Common.{◌≡◌, ◌-◌, length}
use Rattle.zp_script.specs.Worlds.{World}
use Rattle.zp_stress.specs.Schedules.{Walks}
use Rattle.zp_stress.proofs.schedule.walk.Given as goal

abbrev pub invariant-loop-done : goal.invariant-loop-done
invariant-loop-done l = record {
  long : length l.lasts.items ≡ l.connections;
  walks : (end : World) → Walks l.connections (l.steps - l._done) l.words l.lasts.items l.world end → Walks l.connections l.steps l.fn.words l.fn.lasts.items l.fn.world end;
}
