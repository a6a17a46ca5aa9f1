use Rattle.std.proofs.Common.{◌++◌, ◌≡◌, ◌≤◌, Ok, List, ℕ, length, refl, subst}
use Rattle.httparse.specs.Grammar.{ResponseHead, IsResponseHead, print_response}
use Rattle.ev_http.specs.Taking.{told}
use Rattle.ev_http.specs.Messages.{JudgesResponse}
use Rattle.ev_http.proofs.Takings.{Took-append}
use Rattle.ev_http.proofs.Messages.{response_goes, head_start, took_fresh}
use Rattle.ev_http.proofs.response.take_response.Goals as goal

pub returns-in-Ok-response_framing : goal.returns-in-Ok-response_framing
returns-in-Ok-response_framing g c =
    let source = told g.S.Source.given g.S.Source.left g.S.Source.counts g.S.Source.ended g.S.Source.name c.read_body.new.source in
    let head = c.in-Ok.ensures.head in
    let body = c.read_body.ensures.body in
    let took = Took-append _ _ _ _ _ _ _ _ _ head.1 body.1 in
    let start = head_start head.0 c.read_head.new.tally.taken c.new-tally.result.taken c.new-tally.ensures.taken head.1.taken head.2.2.short in
    let judges = subst (λ (x : List ℕ). (h : ResponseHead) → IsResponseHead h → x ≡ print_response h → length h.fields ≤ 64 → JudgesResponse (Ok c.in-Ok-response_framing.framing) h x) c.as_slice.ensures.value c.in-Ok-response_framing.ensures.judges in (
      head.0 ++ body.0,
      c.read_body.new.tally,
      took_fresh _ _ _ _ _ _ _ c.new-tally.ensures.turns c.new-tally.ensures.taken refl took,
      response_goes c.read_body.result c.in-Ok-response_framing.framing c.in-Ok.head.items head.0 body.0 head.2.1 c.read_head.new.tally.taken source c.read_body.new.tally head.2.0 head.2.2 judges start body.2,
    )
