use Rattle.std.proofs.Common.{◌≡◌, ◌++◌, append_assoc, Err, List, ℕ, ap, subst}
use Rattle.ev_http.specs.Taking.{told}
use Rattle.ev_http.specs.Stream.{LineAnswer, fault_of}
use Rattle.ev_http.proofs.Takings.{Took-append}
use Rattle.ev_http.proofs.lines.Lines.read_line.Goals as goal

pub returns-in-Ok-clause-line : goal.returns-in-Ok-clause-line
returns-in-Ok-clause-line g c =
    let source = told g.S.Source.given g.S.Source.left g.S.Source.counts g.S.Source.ended g.S.Source.name in
    let early = c.in-Ok.ensures.part in
    let late = c.line_from.ensures.line in (
      early.0 ++ late.0,
      Took-append _ _ _ _ _ _ _ _ _ early.1 late.1,
      λ taken given at.
          subst (λ (x : List ℕ). LineAnswer c.line_from.result c.line_from.new.self (source c.line_from.new.self.source) x given) (append_assoc taken early.0 late.0)
          (late.2 (taken ++ early.0) given (early.2 taken given at)),
    )

pub returns-in-Ok-clause-again : goal.returns-in-Ok-clause-again
returns-in-Ok-clause-again g c = λ refusal was. absurd (let e = (c.part.ensures.again refusal was).0 in let is = c.in-Ok.is in cc)

pub returns-in-Err-clause-again : goal.returns-in-Err-clause-again
returns-in-Err-clause-again g c = λ refusal was.
    let again = c.part.ensures.again refusal was in
    let same : c.in-Err.fault ≡ fault_of refusal = (let e = again.0 in let is = c.in-Err.is in cc) in
    (ap Err same, again.1)
