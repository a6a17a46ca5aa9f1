use Rattle.std.proofs.Common.{◌∙◌, refl}
use Rattle.zp_server.proofs.Ending.{starts_later}
use Rattle.zp_server.proofs.starting.start_reapers.Goals as goal

pub reapers-init : goal.reapers-init
reapers-init g c = refl

pub reapers-preserved : goal.reapers-preserved
reapers-preserved g c = c.in-Ok.ensures ∙ c.reapers.invariant

pub returns-in-Err : goal.returns-in-Err
returns-in-Err g c = starts_later c.in-Err.refused _ _ _ c.reapers.invariant c.in-Err.ensures

pub returns : goal.returns
returns g c = c.reapers.invariant
