use Rattle.std.proofs.lemmas.Result.{err_from_is_err_and}
use Rattle.ev_fields.specs.Kinds.{each}
use Rattle.ev_fields.specs.Places.{data_at, items_at}
use Rattle.ev_json.proofs.Loop.{goes_on, ends, is_done}
use Rattle.ev_json.proofs.list.each.Goals as goal

pub returns-in_err-read : goal.returns-in_err-read
returns-in_err-read g c =
    let p = err_from_is_err_and c.from_residual.result c.from_residual.ensures.1 in
    rw (p.1, p.2) (ends g.T.Read.reading c.in_err-read.field-0.0 c.loop-value.list.items (items_at c.loop-value.values) (items_at c.next.new.self) (data_at c.in-Some.value) (each g.T.Read.reading (items_at c.args.values)) c.in-Some.ensures.value c.in_err-read.ensures c.loop-value.invariant)

pub loop-value-preserved : goal.loop-value-preserved
loop-value-preserved g c =
    rw c.in_ok-push.ensures.items (goes_on g.T.Read.reading c.loop-value.list.items (items_at c.loop-value.values) (items_at c.next.new.self) (data_at c.in-Some.value) c.in_ok-read.field-0 (each g.T.Read.reading (items_at c.args.values)) c.in-Some.ensures.value c.in_ok-read.ensures c.loop-value.invariant)

pub returns : goal.returns
returns g c = is_done g.T.Read.reading c.loop-value.list.items (items_at c.loop-value.values) (each g.T.Read.reading (items_at c.args.values)) c.in_default.ensures.value c.loop-value.invariant
