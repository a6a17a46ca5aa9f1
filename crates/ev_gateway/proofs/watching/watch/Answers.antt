use Rattle.std.proofs.Common.{ℤ, List, ℕ, ◌++◌, ◌≤◌, Bool, true, arith, ap, subst, w64, to_z, of_z, rules, FitsSigned}
use Rattle.std.proofs.lemmas.Int.{to_z-of_z}
use Rattle.ev_http.specs.Chunked.{last_chunk}
use Rattle.ev_http.specs.Taking.{told}
use Rattle.ev_json.specs.Messages.{canceled_text}
use Rattle.ev_gateway.specs.Looking.{Looks}
use Rattle.ev_http.specs.Sinks.{sink_told}
use Rattle.ev_gateway.specs.Streaming.{WroteFront, line_chunk}
use Rattle.ev_gateway.proofs.Looking.{one_look_more}
use Rattle.ev_gateway.proofs.Streaming.{broken, by_wrote, canceled, closed, further, starved, unbegun}
use Rattle.ev_gateway.proofs.watching.watch.Goals as goal

pub returns-in-Err : goal.returns-in-Err
returns-in-Err g c =
    let began = (sink_told g.K.Sink.taken g.K.Sink.counts g.K.Sink.name c.args.sink.now) in
    let here = (sink_told g.K.Sink.taken g.K.Sink.counts g.K.Sink.name c.begin.new.sink) in
    let first = (told g.S.Source.given g.S.Source.left g.S.Source.counts g.S.Source.ended g.S.Source.name c.args.source.now) in
    let created = to_z w64 (of_z w64 c.revision.result) in
    unbegun c.in-Err.fault c.args.key.now c.args.from created first began here c.in-Err.ensures

pub puts-preserved : goal.puts-preserved
puts-preserved g c =
    let began = (sink_told g.K.Sink.taken g.K.Sink.counts g.K.Sink.name c.args.sink.now) in
    let here = (sink_told g.K.Sink.taken g.K.Sink.counts g.K.Sink.name c.puts.sink) in
    let first = (told g.S.Source.given g.S.Source.left g.S.Source.counts g.S.Source.ended g.S.Source.name c.args.source.now) in
    let now = (told g.S.Source.given g.S.Source.left g.S.Source.counts g.S.Source.ended g.S.Source.name c.puts.source) in
    let later = (told g.S.Source.given g.S.Source.left g.S.Source.counts g.S.Source.ended g.S.Source.name c.waits.new.source) in
    let next = c.in-Waits.ensures in
    let positive : 1 ≤ c.in-Waits.revision = omega (arith, c.puts.invariant.2, next.0) in
    let quiet : Looks true now later = subst (λ (b : Bool). Looks b now later) c.if-not-waits.false c.waits.ensures in
    let came = further c.args.key.now c.args.from c.puts.next c.in-Waits.revision began here c.puts.invariant.4 next.0 in
    (tt, tt, positive, next.1, came, one_look_more first now later c.puts.invariant.5 quiet)

pub returns-in-Err-send_put : goal.returns-in-Err-send_put
returns-in-Err-send_put g c =
    let began = (sink_told g.K.Sink.taken g.K.Sink.counts g.K.Sink.name c.args.sink.now) in
    let here = (sink_told g.K.Sink.taken g.K.Sink.counts g.K.Sink.name c.puts.sink) in
    let first = (told g.S.Source.given g.S.Source.left g.S.Source.counts g.S.Source.ended g.S.Source.name c.args.source.now) in
    let now = (told g.S.Source.given g.S.Source.left g.S.Source.counts g.S.Source.ended g.S.Source.name c.puts.source) in
    broken c.in-Err-send_put.fault c.args.key.now c.args.from c.puts.next c.in-Put.kv first now began here (sink_told g.K.Sink.taken g.K.Sink.counts g.K.Sink.name c.send_put.new.sink) c.puts.invariant.4 c.puts.invariant.5 c.in-Put.ensures c.in-Err-send_put.ensures

pub returns-in-Compacted : goal.returns-in-Compacted
returns-in-Compacted g c =
    let began = (sink_told g.K.Sink.taken g.K.Sink.counts g.K.Sink.name c.args.sink.now) in
    let here = (sink_told g.K.Sink.taken g.K.Sink.counts g.K.Sink.name c.puts.sink) in
    let first = (told g.S.Source.given g.S.Source.left g.S.Source.counts g.S.Source.ended g.S.Source.name c.args.source.now) in
    let now = (told g.S.Source.given g.S.Source.left g.S.Source.counts g.S.Source.ended g.S.Source.name c.puts.source) in
    let end = (sink_told g.K.Sink.taken g.K.Sink.counts g.K.Sink.name c.cancel.new.sink) in
    let floor = c.in-Compacted.floor in
    let present = to_z w64 (of_z w64 c.revision-in-Compacted.result) in
    let fits : FitsSigned w64 floor = search rules in
    let same = ap (λ (a : ℤ). line_chunk (canceled_text a present) ++ last_chunk) (to_z-of_z w64 floor fits) in
    canceled c.told_whole.result c.cancel.result c.args.key.now c.args.from c.puts.next floor present first now began here end c.told_whole.ensures c.puts.invariant.4 c.puts.invariant.5 c.in-Compacted.ensures
    (subst (λ (t : List ℕ). WroteFront c.cancel.result t here end) same c.cancel.ensures)

pub returns-in-Closed : goal.returns-in-Closed
returns-in-Closed g c =
    let began = (sink_told g.K.Sink.taken g.K.Sink.counts g.K.Sink.name c.args.sink.now) in
    let here = (sink_told g.K.Sink.taken g.K.Sink.counts g.K.Sink.name c.puts.sink) in
    let first = (told g.S.Source.given g.S.Source.left g.S.Source.counts g.S.Source.ended g.S.Source.name c.args.source.now) in
    let now = (told g.S.Source.given g.S.Source.left g.S.Source.counts g.S.Source.ended g.S.Source.name c.puts.source) in
    let end = (sink_told g.K.Sink.taken g.K.Sink.counts g.K.Sink.name c.send_last_chunk.new.sink) in
    closed c.told_whole-in-Closed.result c.send_last_chunk.result c.args.key.now c.args.from c.puts.next first now began here end c.told_whole-in-Closed.ensures c.puts.invariant.4 c.puts.invariant.5 (by_wrote c.send_last_chunk.result last_chunk here end c.send_last_chunk.ensures)

pub returns-in-Memory : goal.returns-in-Memory
returns-in-Memory g c =
    let began = (sink_told g.K.Sink.taken g.K.Sink.counts g.K.Sink.name c.args.sink.now) in
    let here = (sink_told g.K.Sink.taken g.K.Sink.counts g.K.Sink.name c.puts.sink) in
    let first = (told g.S.Source.given g.S.Source.left g.S.Source.counts g.S.Source.ended g.S.Source.name c.args.source.now) in
    let now = (told g.S.Source.given g.S.Source.left g.S.Source.counts g.S.Source.ended g.S.Source.name c.puts.source) in
    starved c.args.key.now c.args.from c.puts.next first now began here c.puts.invariant.4 c.puts.invariant.5
