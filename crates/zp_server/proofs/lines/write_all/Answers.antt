use Rattle.zp_server.proofs.Written.{writes_all}
use Rattle.zp_server.proofs.lines.write_all.Goals as goal

pub returns : goal.returns
returns g c = writes_all c.write_all.result c.args.bytes.now _ _ c.write_all.ensures.taken c.write_all.ensures.front c.write_all.ensures.count c.write_all.ensures.unharmed
