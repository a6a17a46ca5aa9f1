use Rattle.std.proofs.Common.{rules, arith, ◌≡◌, map, take, Err, refl, sym, ap, ◌∙◌, length-take-le}
use Rattle.httparse.specs.Spans.{header_bytes}
use Rattle.ev_http.specs.declared.framing.Framing.TheVariants.{ToEnd}
use Rattle.ev_http.specs.declared.head.Kind.TheVariants as kind
use Rattle.ev_http.specs.Framing.{framing_after}
use Rattle.ev_http.proofs.Framings.{same_count, span_fault}
use Rattle.ev_http.proofs.response.response_framing.Goals as goal

pub returns-in-Err-clause-judges : goal.returns-in-Err-clause-judges
returns-in-Err-clause-judges c = λ h is eq few.
    let spans = c.in-Some.spans in
    let fields = c.whole_response.new.fields in
    let at = c.in-Some.ensures.found h is eq few in
    let fits = c.in-Some.ensures.within.section.count_fits in
    let count = same_count c.args.head.now fields spans.headers h.fields at.fields fits in
    let broken : framing_after kind.Response ToEnd (map (header_bytes c.args.head.now) (take spans.headers fields)) ≡ Err c.in-Err.number = search rules in
    let within = span_fault kind.Response c.args.head.now (take spans.headers fields) c.in-Err.number broken in (
      search rules,
      c.in-Err.number,
      ap (framing_after kind.Response ToEnd) (sym at.fields) ∙ broken,
      c.place_of.ensures kind.Response h.fields (h, is, refl, eq) count (omega (arith, few, count)) (omega (arith, within, length-take-le spans.headers fields fits)),
    )
