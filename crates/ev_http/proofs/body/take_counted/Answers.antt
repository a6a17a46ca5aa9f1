use Rattle.std.proofs.Common.{[], ◌++◌, refl}
use Rattle.ev_http.specs.Taking.{told}
use Rattle.ev_http.proofs.Takings.{Took-none}
use Rattle.ev_http.proofs.Bodies.{counted_whole}
use Rattle.ev_http.proofs.body.take_counted.Goals as goal

pub returns-then-left-eq0-clause-part : goal.returns-then-left-eq0-clause-part
returns-then-left-eq0-clause-part g c =
    let source = told g.S.Source.given g.S.Source.left g.S.Source.counts g.S.Source.ended g.S.Source.name c.args.source.now in
    ([], Took-none _ _ c.requires.within, λ line before. counted_whole c.args.left (before ++ c.args.body.now.items) [] (before ++ c.args.body.now.items) source c.args.tally.now c.if-left-eq0.true refl refl line)
