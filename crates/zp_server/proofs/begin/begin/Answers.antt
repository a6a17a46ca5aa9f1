use Rattle.zp_server.proofs.Heads.{begins_found, begins_made, begins_unnamed, copied_some}
use Rattle.zp_server.proofs.begin.begin.Goals as goal

pub returns-in-Err : goal.returns-in-Err
returns-in-Err g c = begins_unnamed _ _ _ _ _ c.in-Err.ensures.failures c.in-Err.ensures.told

pub returns-then-is_some : goal.returns-then-is_some
returns-then-is_some g c = begins_found _ _ _ _ _ _ _ _ _ c.in-Ok.ensures.failures c.in-Ok.ensures.told c.in-Ok-look.ensures.fits c.in-Ok-look.ensures.asks (copied_some _ _ _ _ c.if-is_some.true c.is_some.ensures c.head_in.ensures) c.place_in.ensures

pub returns : goal.returns
returns g c = begins_made _ _ _ _ _ _ _ _ _ _ _ _ c.in-Ok.ensures.failures c.in-Ok.ensures.told c.in-Ok-look.ensures.asks (copied_some _ _ _ _ c.if-is_some.false c.is_some.ensures c.head_in.ensures) c.make.ensures.fits c.make.ensures.asks c.place_of.ensures
