use Rattle.std.proofs.Common.{◌++◌, Ok, Some, subst, sym}
use Rattle.ev_http.specs.declared.body.Part.{Part}
use Rattle.ev_http.specs.declared.body.Part.TheVariants as part
use Rattle.ev_http.specs.Taking.{told}
use Rattle.ev_http.specs.Body.{TakesPart}
use Rattle.ev_http.proofs.Bodies.{content_more, takes_bytes-before}
use Rattle.ev_http.proofs.body.take_content.Goals as goal

pub returns-in-Ok-Some-clause-part : goal.returns-in-Ok-Some-clause-part
returns-in-Ok-Some-clause-part g c =
    let source = told g.S.Source.given g.S.Source.left g.S.Source.counts g.S.Source.ended g.S.Source.name c.take_bytes.new.source in
    let got = rw c.in-Ok-Some.field-0-is at c.in-Ok-Some.ensures.bytes in (
      got.0,
      got.1,
      λ line before. subst (λ (p : Part). TakesPart (Ok p) (part.Content c.args.place c.args.left) line (before ++ c.args.body.now.items) got.0 line (before ++ c.take_bytes.new.body.items) source c.take_bytes.new.tally) (sym c.after_content.ensures)
          (content_more _ c.args.place c.args.left (before ++ c.args.body.now.items) got.0 (before ++ c.take_bytes.new.body.items) source c.take_bytes.new.tally (takes_bytes-before (Ok (Some c.in-Ok-Some.count)) before c.args.body.now.items got.0 c.take_bytes.new.body.items c.args.left source c.take_bytes.new.tally got.2) line),
    )
