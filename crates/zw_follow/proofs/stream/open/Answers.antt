use Rattle.std.proofs.Common.{rules}
use Rattle.zw_follow.proofs.Dialling.{opens_lines, opens_none, opens_undialled}
use Rattle.zw_follow.proofs.stream.open.Goals as goal

pub returns-in-Err : goal.returns-in-Err
returns-in-Err g c = opens_undialled _ c.in-Err.fault c.undialled.result _ _ _ _ c.undialled.ensures (search rules)

pub returns-in-Ok-send_request : goal.returns-in-Ok-send_request
returns-in-Ok-send_request g c = opens_lines _ c.new.result c.in-Ok.ends.0 _ _ _ _ c.new.ensures.source c.new.ensures.first
    (record { counts = search rules; no_room = search rules; gives = search rules; fresh = search rules; sink = c.in-Ok.ends.1; fresh_sink = search rules; after = c.send_request.new.sink; sends = search rules })

pub returns-in-Err-send_request : goal.returns-in-Err-send_request
returns-in-Err-send_request g c = opens_none _ c.in-Err-send_request.fault c.unsent.result _ _ _ _ c.unsent.ensures
    (record { source = c.in-Ok.ends.0; answers = record { counts = search rules; no_room = search rules; gives = search rules; fresh = search rules; sink = c.in-Ok.ends.1; fresh_sink = search rules; after = c.send_request.new.sink; sends = search rules } })
