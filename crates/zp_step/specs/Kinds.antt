-- Which update a connection's transaction is, where it changes the head.
use Rattle.std.specs.Prelude.{ℕ, ℤ, Option, Some, None}
use Rattle.zk_model.specs.declared.request.Request.{Request}
use Rattle.zk_model.specs.declared.request.Request.TheVariants as req
use Rattle.zk_service.specs.declared.update.UpdateKind.{UpdateKind}
use Rattle.zk_service.specs.declared.update.UpdateKind.TheVariants.{Session as NewSession, Attach, Asked, Closed as ClosedSession}
use Rattle.zs_session.specs.declared.connect.Connect.{Connect}
use Rattle.zs_session.specs.declared.connect.Phase.{Phase}
use Rattle.zs_session.specs.declared.connect.Phase.TheVariants.{Creating, Attaching}
use Rattle.zp_step.specs.Stages.{Core, Stage, Connecting, Committing}

-- the transaction by which a connect gets its session
abbrev pub kind_of_connect : ℕ → Connect → Phase → Option UpdateKind
kind_of_connect c x Creating = Some (NewSession x.fresh.id c)
kind_of_connect c x (Attaching seen life) = Some (Attach x.request.session c)
kind_of_connect c x _ = None

-- the request in frame i of c, of this session, planned at this time (in milliseconds)
abbrev pub kind_of_request : ℕ → ℕ → ℤ → ℕ → Request → UpdateKind
kind_of_request c i id time req.Close = ClosedSession id c i
kind_of_request c i id time _ = Asked c i time

abbrev pub kind_in_stage : ℕ → Core → Stage → Option UpdateKind
kind_in_stage c core (Connecting x) = kind_of_connect c x x.phase
kind_in_stage c core (Committing xid r v p time) = Some (kind_of_request c core.next core.who.session time r)
kind_in_stage c core _ = None
