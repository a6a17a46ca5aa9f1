use Rattle.std.proofs.Common.{◌⊎◌, [], ◌∷◌, ◌≡◌, ◌≢◌, rules, Ok, List, ℕ, refl, sym, subst}
use Rattle.ev_http.specs.declared.body.Part.TheVariants as part
use Rattle.ev_http.specs.Taking.{told}
use Rattle.ev_http.specs.Body.{TakesPart}
use Rattle.ev_http.proofs.Chunks.{gap_whole, gap_other, gap_full, gap_cut, gap_grows, line_ends, line_stops}
use Rattle.ev_http.proofs.body.take_gap.Goals as goal

pub returns-then-not-begins_gap-clause-part : goal.returns-then-not-begins_gap-clause-part
returns-then-not-begins_gap-clause-part g c =
    let source = told g.S.Source.given g.S.Source.left g.S.Source.counts g.S.Source.ended g.S.Source.name c.take_line.new.source in
    let got = rw c.in-Ok-End.field-0-is at c.in-Ok-End.ensures.line in
    let other = subst (λ (x : List ℕ). (x ≢ []) × (x ≢ 13 ∷ [])) c.as_slice-in-Ok-End.ensures.value (c.begins_gap.ensures.no (search rules)) in
    (got.0, got.1, λ body. gap_cut c.args.place 2 c.args.line.now.items got.0 c.take_line.new.line.items body source c.take_line.new.tally got.2.0 other)

pub returns-else-not-begins_gap-clause-part : goal.returns-else-not-begins_gap-clause-part
returns-else-not-begins_gap-clause-part g c =
    let source = told g.S.Source.given g.S.Source.left g.S.Source.counts g.S.Source.ended g.S.Source.name c.take_line.new.source in
    let got = rw c.in-Ok-End.field-0-is at c.in-Ok-End.ensures.line in
    let begins = subst (λ (x : List ℕ). (x ≡ []) ⊎ (x ≡ 13 ∷ [])) c.as_slice-in-Ok-End.ensures.value (c.begins_gap.ensures.yes (search rules)) in
    (got.0, got.1, λ body. line_ends _ (part.Gap c.args.place) c.args.line.now.items got.0 c.take_line.new.line.items body 2 source c.take_line.new.tally (gap_grows c.args.place 2 c.args.line.now.items got.0 c.take_line.new.line.items body) got.2.0 got.2.1 refl begins)

pub returns-in-Ok-Full-clause-part : goal.returns-in-Ok-Full-clause-part
returns-in-Ok-Full-clause-part g c =
    let source = told g.S.Source.given g.S.Source.left g.S.Source.counts g.S.Source.ended g.S.Source.name c.take_line.new.source in
    let got = rw c.in-Ok-Full.field-0-is at c.in-Ok-Full.ensures.line in
    (got.0, got.1, λ body. gap_full c.args.place 2 c.args.line.now.items got.0 c.take_line.new.line.items body source c.take_line.new.tally got.2.0 got.2.1)

pub returns-in-Err-clause-part : goal.returns-in-Err-clause-part
returns-in-Err-clause-part g c =
    let source = told g.S.Source.given g.S.Source.left g.S.Source.counts g.S.Source.ended g.S.Source.name c.take_line.new.source in
    let got = c.in-Err.ensures.line in
    (got.0, got.1, λ body. line_stops c.in-Err.fault (part.Gap c.args.place) c.args.line.now.items got.0 c.take_line.new.line.items body 2 source c.take_line.new.tally (gap_grows c.args.place 2 c.args.line.now.items got.0 c.take_line.new.line.items body) got.2)

pub returns-then-not-is_gap-clause-part : goal.returns-then-not-is_gap-clause-part
returns-then-not-is_gap-clause-part g c =
    let source = told g.S.Source.given g.S.Source.left g.S.Source.counts g.S.Source.ended g.S.Source.name c.take_line.new.source in
    let got = rw c.in-Ok-LineFeed.field-0-is at c.in-Ok-LineFeed.ensures.line in
    let other = subst (λ (x : List ℕ). x ≢ 13 ∷ 10 ∷ []) c.as_slice.ensures.value (c.is_gap.ensures.no (search rules)) in
    (got.0, got.1, λ body. gap_other c.args.place 2 c.args.line.now.items got.0 c.take_line.new.line.items body source c.take_line.new.tally got.2 other)

pub returns-else-not-is_gap-clause-part : goal.returns-else-not-is_gap-clause-part
returns-else-not-is_gap-clause-part g c =
    let source = told g.S.Source.given g.S.Source.left g.S.Source.counts g.S.Source.ended g.S.Source.name c.take_line.new.source in
    let got = rw c.in-Ok-LineFeed.field-0-is at c.in-Ok-LineFeed.ensures.line in
    let same = subst (λ (x : List ℕ). x ≡ 13 ∷ 10 ∷ []) c.as_slice.ensures.value (c.is_gap.ensures.yes (search rules)) in (
      got.0,
      got.1,
      λ body. subst (λ (x : List ℕ). TakesPart (Ok (part.Size c.take_line.new.tally.taken)) (part.Gap c.args.place) c.args.line.now.items body got.0 x body source c.take_line.new.tally) (sym c.clear.ensures.items)
          (gap_whole c.args.place 2 c.args.line.now.items got.0 c.take_line.new.line.items body source c.take_line.new.tally got.2 same),
    )
