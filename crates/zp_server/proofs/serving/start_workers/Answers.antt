use Rattle.std.proofs.Common.{◌∙◌}
use Rattle.zp_server.proofs.Ending.{starts_later}
use Rattle.zp_server.proofs.serving.start_workers.Goals as goal

pub returns-in-Ok-start_reapers : goal.returns-in-Ok-start_reapers
returns-in-Ok-start_reapers g c = c.in-Ok-start_reapers.ensures ∙ c.in-Ok.ensures

pub returns-in-Err-start_reapers : goal.returns-in-Err-start_reapers
returns-in-Err-start_reapers g c = starts_later c.in-Err-start_reapers.refused _ _ _ c.in-Ok.ensures c.in-Err-start_reapers.ensures
