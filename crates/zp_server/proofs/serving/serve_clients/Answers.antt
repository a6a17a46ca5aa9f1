use Rattle.std.proofs.Common.{◌∙◌, refl, inl}
use Rattle.zp_server.proofs.Ending.{listened, unbound, unlisted}
use Rattle.zp_server.proofs.serving.serve_clients.Goals as goal

pub returns-in-Err-clause-clients : goal.returns-in-Err-clause-clients
returns-in-Err-clause-clients g c = inl refl

pub returns-in-Err-bind-clause-clients : goal.returns-in-Err-bind-clause-clients
returns-in-Err-bind-clause-clients g c = unbound _ _ _ _ _ c.in-Err-bind.ensures.counts refl refl

pub returns-then-not-write_all-clause-clients : goal.returns-then-not-write_all-clause-clients
returns-then-not-write_all-clause-clients g c = unlisted _ _ _ _ _ _ (c.as_slice.ensures.value ∙ c.in-Ok.ensures) c.in-Ok-bind.ensures.counts refl (rw c.if-not-write_all.true at c.write_all.ensures)

pub returns-clause-clients : goal.returns-clause-clients
returns-clause-clients g c = listened _ c.serve_at-stopped.result _ _ _ _ _ _ c.serve_at-stopped.ensures.stops (c.as_slice.ensures.value ∙ c.in-Ok.ensures) c.in-Ok-bind.ensures.counts refl (rw c.if-not-write_all.false at c.write_all.ensures)
