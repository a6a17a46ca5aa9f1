use Rattle.std.proofs.Common.{rules}
use Rattle.ev_json.proofs.Spellings.{deleted_spelled}
use Rattle.ev_json.proofs.straight.deleted.Goals as goal

pub returns : goal.returns
returns c =
    let h = deleted_spelled c.args.bytes.now c.in_ok-_revision.rest.now c.in_ok-rest.rest.now c.in_ok-deleted.rest.now c.in_ok-rest-2.rest.now c.in_ok-_revision._revision.now c.in_ok-deleted.deleted c.in_ok-deleted-2.deleted
    (search rules) (search rules) (search rules) (search rules) (search rules) in
    search (rules, h)
