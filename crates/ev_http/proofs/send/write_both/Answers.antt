use Rattle.ev_http.proofs.Sending.{wrote_both}
use Rattle.ev_http.proofs.send.write_both.Goals as goal

pub returns-in-Ok : goal.returns-in-Ok
returns-in-Ok g c = wrote_both c.write_all-in-Ok.result c.args.head.now c.args.body.now _ _ _ _ _ _ _ _ _ c.in-Ok.ensures c.write_all-in-Ok.ensures
