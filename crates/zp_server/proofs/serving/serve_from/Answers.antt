use Rattle.std.proofs.Common.{◌∙◌, refl, inl, inr}
use Rattle.zp_server.proofs.Ending.{refused}
use Rattle.zp_server.proofs.serving.serve_from.Goals as goal

pub returns-in-Err : goal.returns-in-Err
returns-in-Err g c = inl refl

pub open-requires : goal.open-requires
open-requires g c = c.requires.place

pub returns-in-Err-open : goal.returns-in-Err-open
returns-in-Err-open g c = inl refl

pub returns-in-Err-start_workers : goal.returns-in-Err-start_workers
returns-in-Err-start_workers g c = refused _ c.in-Err-start_workers.refused _ _ _ _ _ _ _ refl c.in-Err-start_workers.ensures refl refl refl

pub returns : goal.returns
returns g c = inr c.serve_clients-stopped.ensures.clients
