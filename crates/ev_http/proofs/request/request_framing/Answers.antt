use Rattle.std.proofs.Common.{rules, arith, ◌≡◌, length, map, take, Err, refl, sym, ap, ◌∙◌, length-take-le}
use Rattle.httparse.specs.Spans.{header_bytes}
use Rattle.ev_http.specs.declared.framing.Framing.TheVariants.{ToEnd}
use Rattle.ev_http.specs.declared.head.Kind.TheVariants as kind
use Rattle.ev_http.specs.Framing.{framing_after, whole_framing}
use Rattle.ev_http.proofs.Framings.{same_count, whole_fault}
use Rattle.ev_http.proofs.request.request_framing.Goals as goal

pub returns-in-Err : goal.returns-in-Err
returns-in-Err c = λ h is eq few.
    let spans = c.in-Some.spans in
    let fields = c.whole_request.new.fields in
    let at = c.in-Some.ensures.found h is eq few in
    let fits = c.in-Some.ensures.within.section.count_fits in
    let count = same_count c.args.head.now fields spans.headers h.fields at.fields fits in
    let broken : whole_framing kind.Request (length (take spans.headers fields)) (framing_after kind.Request ToEnd (map (header_bytes c.args.head.now) (take spans.headers fields))) ≡ Err c.in-Err.number = search rules in
    let within = whole_fault c.args.head.now (take spans.headers fields) c.in-Err.number broken in
    let inside = length-take-le spans.headers fields fits in (
      search rules,
      c.in-Some-route_of.route,
      search rules,
      c.in-Err.number,
      ap (λ x. whole_framing kind.Request (length h.fields) (framing_after kind.Request ToEnd x)) (sym at.fields)
          ∙ ap (λ n. whole_framing kind.Request n (framing_after kind.Request ToEnd (map (header_bytes c.args.head.now) (take spans.headers fields)))) (count ∙ sym inside) ∙ broken,
      c.place_of.ensures kind.Request h.fields (h, is, refl, eq) count (omega (arith, few, count)) (omega (arith, within, inside)),
    )
