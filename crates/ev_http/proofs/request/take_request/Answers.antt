use Rattle.std.proofs.Common.{◌++◌, ◌≡◌, ◌≤◌, Ok, List, ℕ, length, subst, ap, ◌∙◌}
use Rattle.httparse.specs.Grammar.{RequestHead, IsRequestHead, print_request}
use Rattle.ev_http.specs.Taking.{told, failed}
use Rattle.ev_http.specs.Messages.{JudgesRequest}
use Rattle.ev_http.proofs.Takings.{Took-append}
use Rattle.ev_http.proofs.Messages.{request_goes, head_start, took_fresh, failed-with_route}
use Rattle.ev_http.proofs.request.take_request.Goals as goal

pub returns-in-Ok-request_framing : goal.returns-in-Ok-request_framing
returns-in-Ok-request_framing g c =
    let source = told g.S.Source.given g.S.Source.left g.S.Source.counts g.S.Source.ended g.S.Source.name c.read_body.new.source in
    let head = c.in-Ok.ensures.head in
    let body = c.read_body.ensures.body in
    let took = Took-append _ _ _ _ _ _ _ _ _ head.1 body.1 in
    let start = head_start head.0 c.read_head.new.tally.taken c.new-tally.result.taken c.new-tally.ensures.taken head.1.taken head.2.2.short in
    let judges = subst (λ (x : List ℕ). (h : RequestHead) → IsRequestHead h → x ≡ print_request h → length h.fields ≤ 64 → JudgesRequest (Ok (c.in-Ok-request_framing.route, c.in-Ok-request_framing.count)) h x) c.as_slice.ensures.value c.in-Ok-request_framing.ensures in (
      head.0 ++ body.0,
      c.read_body.new.tally,
      took_fresh _ _ _ _ _ _ _ c.new-tally.ensures.turns c.new-tally.ensures.taken (ap failed c.with_route.ensures ∙ failed-with_route c.in-Ok-request_framing.route c.read_body.result) took,
      request_goes c.with_route.result c.read_body.result c.in-Ok-request_framing.route c.in-Ok-request_framing.count c.in-Ok.head.items head.0 body.0 head.2.1 c.read_head.new.tally.taken source c.read_body.new.tally c.with_route.ensures head.2.0 head.2.2 judges start body.2,
    )
