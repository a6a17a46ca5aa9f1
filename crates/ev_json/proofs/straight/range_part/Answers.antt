use Rattle.std.proofs.Common.{rules}
use Rattle.ev_json.proofs.Spellings.{range_spelled}
use Rattle.ev_json.proofs.straight.range_part.Goals as goal

pub returns : goal.returns
returns c =
    let h = range_spelled c.args.bytes.now c.in_ok-_revision.rest.now c.in_ok-rest.rest.now c.in_ok-kvs.rest.now c.flag_if-more.result.1.now c.in_ok-count.rest.now c.in_ok-rest-2.rest.now c.in_ok-_revision._revision.now c.from_vec-kvs.result c.flag_if-more.result.0 c.in_ok-count.count c.in_ok-count-2.count
    (search rules) (search rules) (rw c.from_vec-kvs.ensures c.in_ok-kvs.ensures) (search rules) (search rules) (search rules) (search rules) in
    search (rules, h)
