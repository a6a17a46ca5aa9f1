use Rattle.std.proofs.Common.{◌+◌, ◌-◌, [], ◌++◌, Ok, Err, rules}
use Rattle.ev_http.specs.declared.taking.Piece.TheVariants as piece
use Rattle.ev_http.specs.Taking.{told}
use Rattle.ev_http.proofs.Takings.{Took-none, Took-append, Grows-none, line_after}
use Rattle.ev_http.proofs.taking.take_line.Goals as goal

pub pieces-init : goal.pieces-init
pieces-init g c = ([], Took-none _ _ c.requires.within, Grows-none _ _)

pub returns-in-Ok-Last : goal.returns-in-Ok-Last
returns-in-Ok-Last g c =
    let was = c.pieces.invariant in
    let got = rw c.in-Ok-Last.field-0-is at c.in-Ok-Last.ensures.line in
    let source = told g.S.Source.given g.S.Source.left g.S.Source.counts g.S.Source.ended g.S.Source.name c.take_some.new.source in
    record { line = (was.0 ++ got.0, Took-append _ _ _ _ _ _ _ _ _ was.1 got.1, line_after (Ok piece.Last) _ _ _ _ _ _ _ source c.take_some.new.tally was.2 (search rules) got.2) }

pub pieces-preserved : goal.pieces-preserved
pieces-preserved g c =
    let was = c.pieces.invariant in
    let got = rw c.in-Ok-Part.field-0-is at c.in-Ok-Part.ensures.line in
    let source = told g.S.Source.given g.S.Source.left g.S.Source.counts g.S.Source.ended g.S.Source.name c.take_some.new.source in
    (was.0 ++ got.0, Took-append _ _ _ _ _ _ _ _ _ was.1 got.1, line_after (Ok piece.Part) _ _ _ _ _ _ _ source c.take_some.new.tally was.2 (search rules) got.2)

pub returns-in-Err : goal.returns-in-Err
returns-in-Err g c =
    let was = c.pieces.invariant in
    let got = c.in-Err.ensures.line in
    record { line = (was.0 ++ got.0, Took-append _ _ _ _ _ _ _ _ _ was.1 got.1, line_after (Err c.in-Err.fault) _ _ _ _ _ _ _ _ _ was.2 (search rules) got.2) }
