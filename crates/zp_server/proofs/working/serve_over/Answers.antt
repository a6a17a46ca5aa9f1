use Rattle.std.proofs.Common.{ap, ◌∙◌}
use Rattle.zp_server.proofs.Keeping.{closed_told, link_still, served_of, sink_still, told_still}
use Rattle.zp_server.proofs.working.serve_over.Goals as goal

pub invariant_of-result : goal.invariant_of-result
invariant_of-result g c = record {
  kept = served_of _ _ _ _ _ _ _ _ _ _ _ _ _ _ _ _ _ _ _ _ c.serve_in_turn-cause.ensures.serves c.args.ready.nothing
      (ap g.T.Trace.told c.new-told.ensures)
      (told_still _ _ _ _ _ _ _ _ c.hang_up.ensures.given c.hang_up.ensures.left c.hang_up.ensures.counts c.hang_up.ensures.ended)
      (sink_still _ _ _ _ c.let_go.ensures.taken c.let_go.ensures.counts)
      (link_still _ _ _ _ _ _ c.hang_up-2.ensures.asks c.hang_up-2.ensures.results c.hang_up-2.ensures.failures)
      (ap g.T.Trace.told c.into_trace.ensures)
      (c.hang_up.ensures.named ∙ c.serve_in_turn-cause.ensures.source ∙ c.args.ready.source_named)
      (c.let_go.ensures.named ∙ c.serve_in_turn-cause.ensures.sink ∙ c.args.ready.sink_named);
}

pub returns : goal.returns
returns g c = closed_told _ _ _ _ c.serve_in_turn-cause.ensures.serves
