use Rattle.std.proofs.Common.{ℤ, List, ℕ, Ok, ap₂, subst, w64}
use Rattle.std.proofs.lemmas.Int.{to_z-of_z}
use Rattle.ev_http.specs.Chunked.{last_chunk}
use Rattle.ev_json.specs.Messages.{canceled_text}
use Rattle.ev_http.specs.Sinks.{sink_told}
use Rattle.ev_gateway.specs.Streaming.{WroteFront, line_chunk}
use Rattle.ev_gateway.proofs.Streaming.{both, by_wrote}
use Rattle.ev_gateway.proofs.watching.cancel.Goals as goal

pub returns-in-Ok : goal.returns-in-Ok
returns-in-Ok g c =
    let began = (sink_told g.K.Sink.taken g.K.Sink.counts g.K.Sink.name c.args.sink.now) in
    let said = (sink_told g.K.Sink.taken g.K.Sink.counts g.K.Sink.name c.send_canceled.new.sink) in
    let ended = (sink_told g.K.Sink.taken g.K.Sink.counts g.K.Sink.name c.send_last_chunk.new.sink) in
    let same = ap₂ (λ (a b : ℤ). line_chunk (canceled_text a b)) (to_z-of_z w64 c.args.floor c.ranges.floor) (to_z-of_z w64 c.args.revision c.ranges.revision) in
    let line = subst (λ (t : List ℕ). WroteFront (Ok tt) t began said) same c.in-Ok.ensures in
    both c.send_last_chunk.result (line_chunk (canceled_text c.args.floor c.args.revision)) last_chunk began said ended line (by_wrote c.send_last_chunk.result last_chunk said ended c.send_last_chunk.ensures)
