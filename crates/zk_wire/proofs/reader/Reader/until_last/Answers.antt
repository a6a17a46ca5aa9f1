use Rattle.std.proofs.lemmas.Result.{err_from_is_err_and}
use Rattle.zk_jute.specs.JuteReading.{all_until_last}
use Rattle.zk_jute.proofs.Items.{goes_on, is_done}
use Rattle.zk_wire.proofs.Loop.{ends_listed}
use Rattle.zk_wire.proofs.reader.Reader.until_last.Goals as goal

pub returns-in_err-item : goal.returns-in_err-item
returns-in_err-item g c =
    let p = err_from_is_err_and c.from_residual.result c.from_residual.ensures.1 in
    rw (p.1, p.2) (ends_listed g.T.Listed.next_at c.in_err-item.field-0.0 c.loop-items.items.items c.loop-items.self c.next.new.reader c.next.new.reader (all_until_last g.T.Listed.next_at c.args.self.now) c.loop-items.invariant c.in_err-item.ensures)

pub loop-items-preserved : goal.loop-items-preserved
loop-items-preserved g c =
    let more = rw c.in-Some.is at c.in_ok-item.ensures in
    rw c.in_ok-push.ensures.items (goes_on g.T.Listed.next_at g.met.T.Listed.shortens c.loop-items.items.items c.loop-items.self c.next.new.reader c.in-Some.item (all_until_last g.T.Listed.next_at c.args.self.now) c.loop-items.invariant more)

pub returns : goal.returns
returns g c =
    let last = rw c.in_default.is at c.in_ok-item.ensures in
    rw c.from_vec.ensures (is_done g.T.Listed.next_at c.loop-items.items.items c.loop-items.self c.next.new.reader (all_until_last g.T.Listed.next_at c.args.self.now) c.loop-items.invariant last)
