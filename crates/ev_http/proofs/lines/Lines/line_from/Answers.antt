use Rattle.std.proofs.Common.{◌≡◌, ◌≤◌, ◌++◌, append_assoc, arith, length, Some, Err, List, ℕ, refl, sym, ap, subst}
use Rattle.ev_http.specs.declared.fault.HttpFault.TheVariants as fault
use Rattle.ev_http.specs.declared.lines.State.{State}
use Rattle.ev_http.specs.declared.lines.State.TheVariants as state
use Rattle.ev_http.specs.Taking.{told}
use Rattle.ev_http.specs.Stream.{FoundFeed, AtLine, AnswersLine}
use Rattle.ev_http.proofs.Takings.{Took-append, Took-same, failed-calm}
use Rattle.ev_http.proofs.Streams.{cut_answers, kept_long, message_over, none_found, part_goes, part_stops}
use Rattle.ev_http.proofs.lines.Lines.line_from.Goals as goal

pub returns-in-Some : goal.returns-in-Some
returns-in-Some g c =
    let source = told g.S.Source.given g.S.Source.left g.S.Source.counts g.S.Source.ended g.S.Source.name in
    let was = c.parts.invariant in
    let now = c.parts.self in
    let new = c.cut.new.self in
    let found = subst (λ (x : List ℕ). FoundFeed (Some c.in-Some.end) x now.scanned) c.as_slice.ensures.value c.in-Some.ensures in
    record {
      line = (
        was.0,
        Took-same _ _ _ _ _ _ _ _ (failed-calm _ c.cut.ensures.calm) c.cut.ensures.tally (ap source c.cut.ensures.source) was.1,
        λ taken given at.
            cut_answers c.cut.result c.parts.part now.state new.state now.line.items new.line.items now.kept.items new.kept.items (taken ++ was.0) given c.in-Some.end now.scanned new.scanned now.tally new.tally
            (source now.source) (source new.source) was.2 (was.3 taken given at) found c.cut.ensures.cut c.cut.ensures.state c.cut.ensures.line c.cut.ensures.tally (ap source c.cut.ensures.source),
      );
    }

pub returns-then-self-gt-MAX_BODY : goal.returns-then-self-gt-MAX_BODY
returns-then-self-gt-MAX_BODY g c =
    let source = told g.S.Source.given g.S.Source.left g.S.Source.counts g.S.Source.ended g.S.Source.name in
    let was = c.parts.invariant in
    let now = c.parts.self in
    let part = c.parts.part in
    let size : c.len-self.result ≡ length now.kept.items = omega (arith, c.len-self.ensures, now.kept.ok.0) in
    record {
      line = (
        was.0,
        was.1,
        λ taken given before.
            let at = subst (λ (x : State). AtLine x now.line.items now.kept.items now.scanned now.tally.taken (source now.source) (taken ++ was.0) given) was.2 (was.3 taken given before) in
            let none = none_found c.feed_from.result now.kept.items now.scanned c.in_default.not-Some (subst (λ (x : List ℕ). FoundFeed c.feed_from.result x now.scanned) c.as_slice.ensures.value c.feed_from.ensures) at.reached.1 in
            kept_long part now.line.items now.kept.items (taken ++ was.0) given now.scanned now.tally (source now.source) at none (omega (arith, size, c.if-self-gt-MAX_BODY.true)),
      );
    }

pub returns-then-is_whole : goal.returns-then-is_whole
returns-then-is_whole g c =
    let source = told g.S.Source.given g.S.Source.left g.S.Source.counts g.S.Source.ended g.S.Source.name in
    let was = c.parts.invariant in
    let now = c.parts.self in
    let part = c.parts.part in
    let size : c.len-self.result ≡ length now.kept.items = omega (arith, c.len-self.ensures, now.kept.ok.0) in
    let short : length now.kept.items ≤ 8388608 = omega (arith, size, c.if-self-gt-MAX_BODY.false) in
    record {
      line = (
        was.0,
        was.1,
        λ taken given before.
            let at = subst (λ (x : State). AtLine x now.line.items now.kept.items now.scanned now.tally.taken (source now.source) (taken ++ was.0) given) was.2 (was.3 taken given before) in
            let none = none_found c.feed_from.result now.kept.items now.scanned c.in_default.not-Some (subst (λ (x : List ℕ). FoundFeed c.feed_from.result x now.scanned) c.as_slice.ensures.value c.feed_from.ensures) at.reached.1 in
            subst (λ (x : State). AnswersLine (Err (fault.Ended now.tally.taken)) x now.line.items now.kept.items c.len-self.result now.tally (source now.source) (taken ++ was.0) given) (sym was.2)
            (message_over now.tally.taken part now.line.items now.kept.items (taken ++ was.0) given now.scanned c.len-self.result now.tally (source now.source) at none short (c.is_whole.ensures.yes c.if-is_whole.true) refl),
      );
    }

pub returns-in-Err : goal.returns-in-Err
returns-in-Err g c =
    let source = told g.S.Source.given g.S.Source.left g.S.Source.counts g.S.Source.ended g.S.Source.name in
    let was = c.parts.invariant in
    let now = c.parts.self in
    let part = c.parts.part in
    let size : c.len-self.result ≡ length now.kept.items = omega (arith, c.len-self.ensures, now.kept.ok.0) in
    let short : length now.kept.items ≤ 8388608 = omega (arith, size, c.if-self-gt-MAX_BODY.false) in
    let got = c.in-Err.ensures.part in
    record {
      line = (
        was.0 ++ got.0,
        Took-append _ _ _ _ _ _ _ _ _ was.1 got.1,
        λ taken given before.
            let at = subst (λ (x : State). AtLine x now.line.items now.kept.items now.scanned now.tally.taken (source now.source) (taken ++ was.0) given) was.2 (was.3 taken given before) in
            let none = none_found c.feed_from.result now.kept.items now.scanned c.in_default.not-Some (subst (λ (x : List ℕ). FoundFeed c.feed_from.result x now.scanned) c.as_slice.ensures.value c.feed_from.ensures) at.reached.1 in
            let stops = part_stops c.in-Err.fault part now.line.items got.0 c.take_part.new.line.items now.kept.items c.take_part.new.body.items (taken ++ was.0) given now.scanned c.len-self.result now.tally.taken c.take_part.new.tally
            (source now.source) (source c.take_part.new.source) at got.1.taken got.2 (c.is_whole.ensures.no c.if-is_whole.false) none short c.in-Err.ensures.stays in
            subst (λ (x : State). AnswersLine (Err c.in-Err.fault) x c.take_part.new.line.items c.take_part.new.body.items c.len-self.result c.take_part.new.tally (source c.take_part.new.source) (taken ++ (was.0 ++ got.0)) given) (sym was.2)
            (subst (λ (x : List ℕ). AnswersLine (Err c.in-Err.fault) (state.Body part) c.take_part.new.line.items c.take_part.new.body.items c.len-self.result c.take_part.new.tally (source c.take_part.new.source) x given) (append_assoc taken was.0 got.0) stops),
      );
    }

pub parts-preserved : goal.parts-preserved
parts-preserved g c =
    let source = told g.S.Source.given g.S.Source.left g.S.Source.counts g.S.Source.ended g.S.Source.name in
    let was = c.parts.invariant in
    let now = c.parts.self in
    let part = c.parts.part in
    let size : c.len-self.result ≡ length now.kept.items = omega (arith, c.len-self.ensures, now.kept.ok.0) in
    let got = c.in-Ok.ensures.part in (
      was.0 ++ got.0,
      Took-append _ _ _ _ _ _ _ _ _ was.1 got.1,
      refl,
      λ taken given before.
          let at = subst (λ (x : State). AtLine x now.line.items now.kept.items now.scanned now.tally.taken (source now.source) (taken ++ was.0) given) was.2 (was.3 taken given before) in
          let none = none_found c.feed_from.result now.kept.items now.scanned c.in_default.not-Some (subst (λ (x : List ℕ). FoundFeed c.feed_from.result x now.scanned) c.as_slice.ensures.value c.feed_from.ensures) at.reached.1 in
          subst (λ (x : List ℕ). AtLine (state.Body c.in-Ok.next) c.take_part.new.line.items c.take_part.new.body.items c.len-self.result c.take_part.new.tally.taken (source c.take_part.new.source) x given) (append_assoc taken was.0 got.0)
          (part_goes part c.in-Ok.next now.line.items got.0 c.take_part.new.line.items now.kept.items c.take_part.new.body.items (taken ++ was.0) given now.scanned c.len-self.result now.tally.taken c.take_part.new.tally
          (source now.source) (source c.take_part.new.source) at got.1.taken got.2 none c.in-Ok.ensures.front size),
    )
