use Rattle.std.proofs.Common.{◌≡◌, ◌+◌, length, ap, ◌∙◌, arith}
use Rattle.zk_judge.proofs.judging.judged.Goals as goal

pub loop-moment-preserved : goal.loop-moment-preserved
loop-moment-preserved c = record {
  agenda = c.in_ok-agenda-2.ensures.agenda;
  opened = λ d is. c.in_ok-agenda-2.ensures.kept d (c.loop-moment.invariant.opened d is);
  next = c.in_ok-agenda-2.ensures.next ∙ ap (λ n. n + 1) c.loop-moment.invariant.next;
  place = c.in_ok-cursor.ensures.moment ∙ ap (λ n. n + 1) c.loop-moment.invariant.place;
  over = c.in_ok-cursor.ensures.all ∙ c.loop-moment.invariant.over;
}

pub returns-clause-opened : goal.returns-clause-opened
returns-clause-opened c = λ d is.
    let lines = c.args.index.now.lines.now in
    let next : c.in_ok-over.over.next ≡ length lines + 1 = omega (arith, c.in_ok-over.ensures.agenda.next, c.in_ok-over.ensures.next, c.loop-moment.invariant.next, c.loop-moment-test.false) in
    c.into_judged.ensures.all lines d c.in_ok-over.ensures.agenda next (c.in_ok-over.ensures.kept d (c.loop-moment.invariant.opened d is))
