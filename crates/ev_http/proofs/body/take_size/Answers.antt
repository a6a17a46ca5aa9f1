use Rattle.std.proofs.Common.{Some, Ok, List, ℕ, refl, sym, subst}
use Rattle.httparse.specs.Grammar.{NeverHasChunkLine}
use Rattle.ev_http.specs.declared.body.Part.TheVariants as part
use Rattle.ev_http.specs.Taking.{told, IsLine}
use Rattle.ev_http.specs.Body.{SizeAnswer, IsNoChunk, TakesPart}
use Rattle.ev_http.proofs.Chunks.{size_whole, size_fails, size_full, size_cut, size_grows, line_ends, line_stops}
use Rattle.ev_http.proofs.body.take_size.Goals as goal

pub returns-then-is_no_size-clause-part : goal.returns-then-is_no_size-clause-part
returns-then-is_no_size-clause-part g c =
    let source = told g.S.Source.given g.S.Source.left g.S.Source.counts g.S.Source.ended g.S.Source.name c.take_line.new.source in
    let got = rw c.in-Ok-End.field-0-is at c.in-Ok-End.ensures.line in
    let never = subst NeverHasChunkLine c.as_slice-in-Ok-End.ensures.value (c.is_no_size.ensures.yes c.if-is_no_size.true) in
    (got.0, got.1, λ body. size_cut c.args.place 1026 c.args.line.now.items got.0 c.take_line.new.line.items body source c.take_line.new.tally got.2.0 never)

pub returns-else-is_no_size-clause-part : goal.returns-else-is_no_size-clause-part
returns-else-is_no_size-clause-part g c =
    let source = told g.S.Source.given g.S.Source.left g.S.Source.counts g.S.Source.ended g.S.Source.name c.take_line.new.source in
    let got = rw c.in-Ok-End.field-0-is at c.in-Ok-End.ensures.line in
    let may : NeverHasChunkLine c.take_line.new.line.items → ⊥ = λ never. c.is_no_size.ensures.no c.if-is_no_size.false (subst NeverHasChunkLine (sym c.as_slice-in-Ok-End.ensures.value) never) in
    (got.0, got.1, λ body. line_ends _ (part.Size c.args.place) c.args.line.now.items got.0 c.take_line.new.line.items body 1026 source c.take_line.new.tally (size_grows c.args.place 1026 c.args.line.now.items got.0 c.take_line.new.line.items body) got.2.0 got.2.1 refl may)

pub returns-in-Ok-Full-clause-part : goal.returns-in-Ok-Full-clause-part
returns-in-Ok-Full-clause-part g c =
    let source = told g.S.Source.given g.S.Source.left g.S.Source.counts g.S.Source.ended g.S.Source.name c.take_line.new.source in
    let got = rw c.in-Ok-Full.field-0-is at c.in-Ok-Full.ensures.line in
    (got.0, got.1, λ body. size_full c.args.place 1026 c.args.line.now.items got.0 c.take_line.new.line.items body source c.take_line.new.tally got.2.0 got.2.1)

pub returns-in-Err-clause-part : goal.returns-in-Err-clause-part
returns-in-Err-clause-part g c =
    let source = told g.S.Source.given g.S.Source.left g.S.Source.counts g.S.Source.ended g.S.Source.name c.take_line.new.source in
    let got = c.in-Err.ensures.line in
    (got.0, got.1, λ body. line_stops c.in-Err.fault (part.Size c.args.place) c.args.line.now.items got.0 c.take_line.new.line.items body 1026 source c.take_line.new.tally (size_grows c.args.place 1026 c.args.line.now.items got.0 c.take_line.new.line.items body) got.2)

pub returns-in-Some-clause-part : goal.returns-in-Some-clause-part
returns-in-Some-clause-part g c =
    let source = told g.S.Source.given g.S.Source.left g.S.Source.counts g.S.Source.ended g.S.Source.name c.take_line.new.source in
    let got = rw c.in-Ok-LineFeed.field-0-is at c.in-Ok-LineFeed.ensures.line in
    let answer = subst (λ (x : List ℕ). IsLine x → SizeAnswer (Some c.in-Some.part) c.args.place c.take_line.new.tally.taken x) c.as_slice.ensures.value c.in-Some.ensures.answer in (
      got.0,
      got.1,
      λ body. subst (λ (x : List ℕ). TakesPart (Ok c.in-Some.part) (part.Size c.args.place) c.args.line.now.items body got.0 x body source c.take_line.new.tally) (sym c.clear.ensures.items)
          (size_whole c.in-Some.part c.args.place c.args.line.now.items got.0 c.take_line.new.line.items body 1026 source c.take_line.new.tally got.2 answer),
    )

pub returns-in-None-clause-part : goal.returns-in-None-clause-part
returns-in-None-clause-part g c =
    let source = told g.S.Source.given g.S.Source.left g.S.Source.counts g.S.Source.ended g.S.Source.name c.take_line.new.source in
    let got = rw c.in-Ok-LineFeed.field-0-is at c.in-Ok-LineFeed.ensures.line in
    let answer = subst (λ (x : List ℕ). IsLine x → IsNoChunk x) c.as_slice.ensures.value c.in-None.ensures.answer in
    (got.0, got.1, λ body. size_fails c.args.place c.args.line.now.items got.0 c.take_line.new.line.items body source c.take_line.new.tally got.2 answer)
