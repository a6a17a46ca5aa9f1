use Rattle.std.proofs.Common.{◌≤◌, ◌+◌, [], ◌++◌, length, ap, arith}
use Rattle.ev_http.specs.Body.{announced}
use Rattle.ev_http.proofs.Takings.{Took-append}
use Rattle.ev_http.proofs.Reading.{counted_taken, body_stops}
use Rattle.ev_http.proofs.body.read_body.Goals as goal

pub parts-preserved : goal.parts-preserved
parts-preserved g c =
    let was = c.parts.invariant in
    let got = c.in-Ok.ensures.part in
    let took = Took-append _ _ _ _ _ _ _ _ _ was.1 got.1 in
    let goes = got.2 [] c.args.tally.now.taken c.args.framing was.0 was.2 (counted_taken c.args.tally.now.taken c.take_part.new.tally.taken (was.0 ++ got.0) was.4 took.taken) in
    (was.0 ++ got.0, took, goes.0, goes.1, was.4)

pub returns-in-Err : goal.returns-in-Err
returns-in-Err g c =
    let was = c.parts.invariant in
    let got = c.in-Err.ensures.part in
    let took = Took-append _ _ _ _ _ _ _ _ _ was.1 got.1 in
    let goes = got.2 [] c.args.tally.now.taken c.args.framing was.0 was.2 (counted_taken c.args.tally.now.taken c.take_part.new.tally.taken (was.0 ++ got.0) was.4 took.taken) in
    let fits : length c.take_part.new.body.items + announced c.parts.part ≤ 8388608 = omega (arith, c.is_too_long.ensures.no c.if-is_too_long.false, ap length c.in-Err.ensures.stays) in
    record { body = (was.0 ++ got.0, took, body_stops c.in-Err.fault c.parts.part c.args.tally.now.taken c.args.framing _ (was.0 ++ got.0) _ _ c.take_part.new.tally goes (c.is_whole.ensures.no c.if-is_whole.false) fits) }
