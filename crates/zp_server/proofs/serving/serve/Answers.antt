use Rattle.std.proofs.Common.{refl, inl}
use Rattle.zp_server.proofs.Ending.{ended, unasked}
use Rattle.zp_server.proofs.Heads.{begins_failures}
use Rattle.zp_server.proofs.serving.serve.Goals as goal

pub returns-in-Err : goal.returns-in-Err
returns-in-Err g c = unasked _ _ c.in-Err.stop c.finish.result _ _ _ _ _ _ _ _ c.in-Err.ensures refl refl c.finish.ensures

pub returns-in-Err-new : goal.returns-in-Err-new
returns-in-Err-new g c = inl refl

pub returns : goal.returns
returns g c = ended _ c.serve_from-stopped.result c.finish-2.result _ _ _ _ _ _ _ _ _ (begins_failures _ _ _ _ c.in-Ok.ensures) c.serve_from-stopped.ensures refl refl c.finish-2.ensures
