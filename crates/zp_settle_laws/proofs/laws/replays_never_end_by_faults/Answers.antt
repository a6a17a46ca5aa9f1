use Rattle.zp_settle_laws.proofs.Outside.{replays-never-end-by}
use Rattle.zp_settle_laws.proofs.Undamaged.{replays-show-no-damage}
use Rattle.zp_settle_laws.proofs.laws.replays_never_end_by_faults.Goals as goal

pub returns : goal.returns
returns c = record { outside = replays-never-end-by; damaged = replays-show-no-damage }
