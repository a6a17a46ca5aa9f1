use Rattle.std.proofs.Common.{Some, None, ◌<◌, length, List, ℕ, refl, subst}
use Rattle.ev_http.specs.declared.body.Part.TheVariants as part
use Rattle.ev_http.specs.Taking.{told}
use Rattle.ev_http.specs.Body.{TrailerAnswer}
use Rattle.ev_http.proofs.Chunks.{trailer_next, trailer_fails, trailer_full, trailer_grows, line_ends, line_stops}
use Rattle.ev_http.proofs.body.take_trailer.Goals as goal

pub returns-in-Ok-End-clause-part : goal.returns-in-Ok-End-clause-part
returns-in-Ok-End-clause-part g c =
    let source = told g.S.Source.given g.S.Source.left g.S.Source.counts g.S.Source.ended g.S.Source.name c.take_line.new.source in
    let got = rw c.in-Ok-End.field-0-is at c.in-Ok-End.ensures.line in
    (got.0, got.1, λ body. line_ends _ (part.Trailer c.args.place c.args.fields) c.args.line.now.items got.0 c.take_line.new.line.items body 16386 source c.take_line.new.tally (trailer_grows c.args.place c.args.fields 16386 c.args.line.now.items got.0 c.take_line.new.line.items body) got.2.0 got.2.1 refl tt)

pub returns-in-Ok-Full-clause-part : goal.returns-in-Ok-Full-clause-part
returns-in-Ok-Full-clause-part g c =
    let source = told g.S.Source.given g.S.Source.left g.S.Source.counts g.S.Source.ended g.S.Source.name c.take_line.new.source in
    let got = rw c.in-Ok-Full.field-0-is at c.in-Ok-Full.ensures.line in
    (got.0, got.1, λ body. trailer_full c.args.place c.args.fields 16386 c.args.line.now.items got.0 c.take_line.new.line.items body source c.take_line.new.tally got.2.0 got.2.1)

pub returns-in-Err-clause-part : goal.returns-in-Err-clause-part
returns-in-Err-clause-part g c =
    let source = told g.S.Source.given g.S.Source.left g.S.Source.counts g.S.Source.ended g.S.Source.name c.take_line.new.source in
    let got = c.in-Err.ensures.line in
    (got.0, got.1, λ body. line_stops c.in-Err.fault (part.Trailer c.args.place c.args.fields) c.args.line.now.items got.0 c.take_line.new.line.items body 16386 source c.take_line.new.tally (trailer_grows c.args.place c.args.fields 16386 c.args.line.now.items got.0 c.take_line.new.line.items body) got.2)

pub returns-in-Some-clause-part : goal.returns-in-Some-clause-part
returns-in-Some-clause-part g c =
    let source = told g.S.Source.given g.S.Source.left g.S.Source.counts g.S.Source.ended g.S.Source.name c.take_line.new.source in
    let got = rw c.in-Ok-LineFeed.field-0-is at c.in-Ok-LineFeed.ensures.line in
    let answer = subst (λ (x : List ℕ). c.args.fields < length x → TrailerAnswer (Some c.in-Some.part) c.args.place c.args.fields x) c.as_slice.ensures.value c.in-Some.ensures.answer in
    (got.0, got.1, λ body. trailer_next c.in-Some.part c.args.place c.args.fields 16386 c.args.line.now.items got.0 c.take_line.new.line.items body source c.take_line.new.tally got.2 answer)

pub returns-in-None-clause-part : goal.returns-in-None-clause-part
returns-in-None-clause-part g c =
    let source = told g.S.Source.given g.S.Source.left g.S.Source.counts g.S.Source.ended g.S.Source.name c.take_line.new.source in
    let got = rw c.in-Ok-LineFeed.field-0-is at c.in-Ok-LineFeed.ensures.line in
    let answer = subst (λ (x : List ℕ). c.args.fields < length x → TrailerAnswer None c.args.place c.args.fields x) c.as_slice.ensures.value c.in-None.ensures.answer in
    (got.0, got.1, λ body. trailer_fails c.args.place c.args.fields 16386 c.args.line.now.items got.0 c.take_line.new.line.items body source c.take_line.new.tally got.2 answer)
