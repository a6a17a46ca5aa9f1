use denote.Param.Send.{IsSend, param_send, sendable}
use Rattle.std.proofs.Crossing.{crosses}
use Rattle.std.proofs.alloc.Global.TheSendSync as heap
use Rattle.zd_etcd.proofs.Crossing.{shared_send, shared_sync}
use Rattle.zd_etcd.proofs.serving.serve_one.Lts as lts
use Rattle.zd_etcd.proofs.serving.serve_one.Goals as goal

-- the job may go to another thread
pub start-requires-send-F : goal.start-requires-send-F
start-requires-send-F g c κs within =
    let w = c.type_bounds.send-W in
    let k = c.type_bounds.send-C in
    let i = c.type_bounds.send-N-In in
    let o = c.type_bounds.send-N-Out in
    let inner : IsSend (lts.arg-2-2 g.row.W g.row.N g.row.P g.row.C g.row.N-Door g.row.N-In g.row.N-Out g.row.P-Handle g.W.laws g.N.laws g.P.laws g.C.laws g.N.Door.laws g.N.In.laws g.N.Out.laws g.P.Handle.laws g.W.copy g.W.Wait-dict g.W.Clock-dict g.W.Clone-dict g.N.Net-dict g.N.In.Source-dict g.N.Out.Sink-dict g.P.Spawner-dict g.P.Handle.Threads-dict g.C.Clock-dict g.C.Destruct-dict g.N.Door.Destruct-dict g.N.In.Destruct-dict g.N.Out.Destruct-dict κs) = search (sendable, crosses, heap.the_field_send, shared_send, shared_sync) depth 20 in
    param_send 2 _ inner
