use Rattle.std.proofs.Common.{◌≡◌, ◌+◌, ◌-◌, ◌++◌, length, take, suc, sym, ap, ◌∙◌, arith, append-nil}
use Rattle.std.proofs.lemmas.Grind.{common_steps}
use Rattle.std.proofs.lemmas.List.Elements.{All-take}
use Rattle.ev_http.specs.Taking.{IsLine}
use Rattle.ev_http.proofs.Places.{joined, line_back}
use Rattle.ev_http.proofs.framing.last_lines.Goals as goal

pub lines-preserved : goal.lines-preserved
lines-preserved c = record {
  within = grind (arith, common_steps, c.last_line-end.ensures.bound, c.lines.invariant.within);
  begins = λ before lines are all count ends.
      let k = c.args.count - (c.lines.counter + 1) in
      let more : suc k ≡ c.args.count - c.lines.counter = omega arith in
      line_back c.args.bytes.now before lines k c.lines.end c.last_line-end.result are all (All-take IsLine k lines all) (omega (arith, count)) ends
      (c.lines.invariant.begins before lines are all count ends ∙ ap (λ n. length (before ++ joined (take n lines))) (sym more)) c.last_line-end.ensures.begins;
}

pub returns : goal.returns
returns c = record {
  begins = λ before lines are all count ends.
      let none : c.args.count - c.lines.counter ≡ 0 = omega arith in
      c.lines.invariant.begins before lines are all count ends ∙ ap (λ n. length (before ++ joined (take n lines))) none ∙ ap length (append-nil before);
}
