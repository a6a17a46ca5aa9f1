use Rattle.std.proofs.Common.{sym, subst}
use Rattle.zp_conn.specs.Serving.{Serves}
use Rattle.zp_conn.proofs.serving.serve_in_turn.Goals as goal

pub returns-clause-serves : goal.returns-clause-serves
returns-clause-serves g c = subst (Serves _ _ _) (sym c.ended_by.ensures) (c.run-why.ensures.ends c.flush-result.result _ _ c.flush-result.ensures.flushes)
