-- Which update the transcript shows for an ask, where its transaction changes the head.
use Rattle.std.specs.Prelude.{ℕ, ℤ, Option, Some, None}
use Rattle.zk_service.specs.declared.update.UpdateKind.{UpdateKind}
use Rattle.zk_service.specs.declared.update.UpdateKind.TheVariants.{Reaped}
use Rattle.zs_reap.specs.declared.reap.Phase.{Phase as ReapPhase}
use Rattle.zs_reap.specs.declared.reap.Phase.TheVariants.{Removing}
use Rattle.zp_script.specs.Worlds.{Actor, Connection, Reaper, Closed}
use Rattle.zp_step.specs.Kinds.{kind_in_stage}

abbrev pub kind_of_reap : ℤ → ReapPhase → Option UpdateKind
kind_of_reap id (Removing again) = Some (Reaped id)
kind_of_reap id _ = None

-- the update that the connection or the reaper of this number has asked for; None where it has asked for none
abbrev pub kind_asked : ℕ → Actor → Option UpdateKind
kind_asked c (Connection core) = kind_in_stage c core core.stage
kind_asked c (Reaper reap) = kind_of_reap reap.session reap.phase
kind_asked c Closed = None
