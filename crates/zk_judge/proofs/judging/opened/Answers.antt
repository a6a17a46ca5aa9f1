use Rattle.std.proofs.Common.{List, ◌++◌, ◌∷◌, [], ap, sym, ◌∙◌, subst, take}
use Rattle.std.proofs.lemmas.List.{take_more}
use Rattle.zk_transcript.specs.declared.transcript.TranscriptLine.{TranscriptLine}
use Rattle.zk_judge.specs.Agendas.{HasConversation}
use Rattle.zk_judge.specs.Staged.{AreOpened}
use Rattle.zk_judge.proofs.Opened.{take-end}
use Rattle.zk_judge.proofs.judging.opened.Goals as goal

pub loop-line-preserved : goal.loop-line-preserved
loop-line-preserved c =
    let lines = c.args.index.now.lines.now in
    let k = c.loop-line.line-index in
    let line = c.line-item.result in
    let next = ap (λ (l : TranscriptLine). take k lines ++ l ∷ []) c.line-item.is ∙ sym (take_more lines k line c.loop-line-test.true) in
    record {
      agenda = c.in_ok-agenda.ensures.agenda;
      next = c.in_ok-agenda.ensures.next;
      opened = subst (λ (ls : List TranscriptLine). AreOpened ls (HasConversation c.in_ok-agenda.agenda)) next (c.in_ok-agenda.ensures.opened (take k lines) c.loop-line.invariant.opened);
    }

pub returns-clause-opened : goal.returns-clause-opened
returns-clause-opened c =
    subst (λ (ls : List TranscriptLine). AreOpened ls (HasConversation c.loop-line.agenda)) (take-end c.args.index.now.lines.now c.loop-line.line-index c.loop-line-test.false) c.loop-line.invariant.opened
