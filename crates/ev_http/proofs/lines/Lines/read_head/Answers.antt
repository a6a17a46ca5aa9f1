use Rattle.std.proofs.Common.{◌≡◌, ◌≤◌, Ok, Err, List, ℕ, length, refl, subst}
use Rattle.httparse.specs.Grammar.{ResponseHead, IsResponseHead, print_response}
use Rattle.ev_http.specs.Taking.{told}
use Rattle.ev_http.specs.Messages.{JudgesResponse}
use Rattle.ev_http.proofs.Takings.{Took-same}
use Rattle.ev_http.proofs.Streams.{head_begun, head_read, head_refuses, head_stops}
use Rattle.ev_http.proofs.lines.Lines.read_head.Goals as goal

pub returns-in-Ok-response_framing-clause-part : goal.returns-in-Ok-response_framing-clause-part
returns-in-Ok-response_framing-clause-part g c =
    let source = told g.S.Source.given g.S.Source.left g.S.Source.counts g.S.Source.ended g.S.Source.name in
    let old = c.args.self.now in
    let got = c.in-Ok.ensures.head in
    let judges = subst (λ (x : List ℕ). (h : ResponseHead) → IsResponseHead h → x ≡ print_response h → length h.fields ≤ 64 → JudgesResponse (Ok c.in-Ok-response_framing.framing) h x) c.as_slice.ensures.value c.in-Ok-response_framing.ensures.judges in (
      got.0,
      got.1,
      λ taken given at.
          let head = got.2 (head_begun old.state old.line.items old.kept.items taken given old.scanned old.tally.taken (source old.source) c.requires.head at) in
          head_read c.in-Ok-response_framing.framing old.state c.first_part-part.result old.line.items old.kept.items got.0 c.take_head.new.head.items c.clear.new.self.items taken given old.scanned old.tally.taken c.take_head.new.tally.taken head.1
          (source old.source) (source c.take_head.new.source) c.requires.head at head.0 head.2 judges got.1.taken c.first_part-part.ensures c.clear.ensures.items,
    )

pub returns-in-Err-clause-part : goal.returns-in-Err-clause-part
returns-in-Err-clause-part g c =
    let source = told g.S.Source.given g.S.Source.left g.S.Source.counts g.S.Source.ended g.S.Source.name in
    let old = c.args.self.now in
    let got = c.in-Err.ensures.head in (
      got.0,
      got.1,
      λ taken given at.
          head_stops c.in-Err.fault old.state old.line.items old.kept.items got.0 c.take_head.new.head.items taken given old.scanned old.tally.taken c.take_head.new.tally (source old.source) (source c.take_head.new.source) c.requires.head at got.2 got.1.taken,
    )

pub returns-in-Err-response_framing-clause-part : goal.returns-in-Err-response_framing-clause-part
returns-in-Err-response_framing-clause-part g c =
    let source = told g.S.Source.given g.S.Source.left g.S.Source.counts g.S.Source.ended g.S.Source.name in
    let old = c.args.self.now in
    let why = c.in-Err-response_framing.fault in
    let got = c.in-Ok.ensures.head in
    let judges = subst (λ (x : List ℕ). (h : ResponseHead) → IsResponseHead h → x ≡ print_response h → length h.fields ≤ 64 → JudgesResponse (Err why) h x) c.as_slice.ensures.value c.in-Err-response_framing.ensures.judges in (
      got.0,
      Took-same _ _ _ _ _ _ _ _ c.in-Err-response_framing.ensures.calm refl refl got.1,
      λ taken given at.
          let head = got.2 (head_begun old.state old.line.items old.kept.items taken given old.scanned old.tally.taken (source old.source) c.requires.head at) in
          head_refuses why old.state old.state old.line.items old.kept.items got.0 c.take_head.new.head.items c.take_head.new.head.items taken given old.scanned old.tally.taken c.take_head.new.tally head.1
          (source old.source) (source c.take_head.new.source) c.requires.head at head.0 head.2 judges,
    )
