use Rattle.std.proofs.Common.{rules}
use Rattle.ev_json.proofs.Spellings.{put_spelled}
use Rattle.ev_json.proofs.straight.put_done.Goals as goal

pub returns : goal.returns
returns c = put_spelled c.args.bytes.now c.in_ok-_revision.rest.now c.in_ok-rest.rest.now c.in_ok-_revision._revision.now (search rules) (search rules)
