use denote.RattleType.{RattleType}
use denote.Param.Send.{IsSend, IsSync, part_keyless}
use Rattle.zx_history.specs.contracts.ghost_history.GhostHistory.{the_row}
use Rattle.zx_history.proofs.ghost_history.GhostHistory.TheSendSync.Send.{send}

pub sync : (T : RattleType) → IsSend T → IsSync (the_row T)
sync T t = record { shared = λ d x o κ q. part_keyless (the_row T) (send T t) q d x o }
