use Rattle.std.specs.Prelude.{Ok, Err}
use Rattle.zw_follow.specs.Dials.{telling}
use Rattle.zw_follow.proofs.Dialling.{dials_none, dials_read, goes_on_unopened, opens_at, settled}
use Rattle.zw_follow.proofs.following.follow_stream.Goals as goal

pub returns-in-Err-clause-goes_on : goal.returns-in-Err-clause-goes_on
returns-in-Err-clause-goes_on g c = goes_on_unopened (telling g.N.In.Source.given g.N.In.Source.left g.N.In.Source.counts g.N.In.Source.ended g.N.In.Source.name g.N.Out.Sink.taken g.N.Out.Sink.counts g.N.Out.Sink.name) c.in-Err.end _ _ _ _ _ _ c.in-Err.ensures c.requires.placed

pub returns-in-Err-clause-dials : goal.returns-in-Err-clause-dials
returns-in-Err-clause-dials g c = dials_none (telling g.N.In.Source.given g.N.In.Source.left g.N.In.Source.counts g.N.In.Source.ended g.N.In.Source.name g.N.Out.Sink.taken g.N.Out.Sink.counts g.N.Out.Sink.name) c.args.endpoint.now c.in-Err.end _ _ _ _ _ (opens_at (telling g.N.In.Source.given g.N.In.Source.left g.N.In.Source.counts g.N.In.Source.ended g.N.In.Source.name g.N.Out.Sink.taken g.N.Out.Sink.counts g.N.Out.Sink.name) (Err c.in-Err.end) _ _ _ _ c.requires.placed.revision_least c.requires.placed.revision_most c.in-Err.ensures)

pub read_stream-end-requires-clause-first : goal.read_stream-end-requires-clause-first
read_stream-end-requires-clause-first g c = c.in-Ok.ensures.0

pub returns-clause-dials : goal.returns-clause-dials
returns-clause-dials g c = settled (telling g.N.In.Source.given g.N.In.Source.left g.N.In.Source.counts g.N.In.Source.ended g.N.In.Source.name g.N.Out.Sink.taken g.N.Out.Sink.counts g.N.Out.Sink.name) c.args.endpoint.now c.read_stream-end.result _ _ _ _ _ _ _ _ _ _ _ _ _ c.settle.ensures.counts c.settle.ensures.no_room c.settle.ensures.streams
    (dials_read (telling g.N.In.Source.given g.N.In.Source.left g.N.In.Source.counts g.N.In.Source.ended g.N.In.Source.name g.N.Out.Sink.taken g.N.Out.Sink.counts g.N.Out.Sink.name) c.in-Ok.lines c.args.endpoint.now _ _ _ _ _ _ _ _ _ (opens_at (telling g.N.In.Source.given g.N.In.Source.left g.N.In.Source.counts g.N.In.Source.ended g.N.In.Source.name g.N.Out.Sink.taken g.N.Out.Sink.counts g.N.Out.Sink.name) (Ok c.in-Ok.lines) _ _ _ _ c.requires.placed.revision_least c.requires.placed.revision_most c.in-Ok.ensures) c.read_stream-end.ensures.reads)
