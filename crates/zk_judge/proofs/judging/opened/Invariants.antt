use Rattle.std.proofs.Common.{◌≡◌, take}
use Rattle.zk_judge.specs.Agendas.{HasConversation, IsAgenda}
use Rattle.zk_judge.specs.Staged.{AreOpened}
use Rattle.zk_judge.proofs.judging.opened.Given as goal

abbrev pub invariant-loop-line : goal.invariant-loop-line
invariant-loop-line l = record {
  agenda : IsAgenda l.index.lines.now l.agenda;
  next : l.agenda.next ≡ 0;
  opened : AreOpened (take l.line-index l.index.lines.now) (HasConversation l.agenda);
}
