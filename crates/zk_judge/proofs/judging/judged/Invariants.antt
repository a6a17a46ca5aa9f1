use Rattle.std.proofs.Common.{◌≡◌}
use Rattle.zk_judge.specs.Agendas.{HasConversation, IsAgenda}
use Rattle.zk_judge.specs.Staged.{AreOpened}
use Rattle.zk_judge.proofs.judging.judged.Given as goal

abbrev pub invariant-loop-moment : goal.invariant-loop-moment
invariant-loop-moment l = record {
  agenda : IsAgenda l.index.lines.now l.agenda;
  opened : AreOpened l.index.lines.now (HasConversation l.agenda);
  next : l.agenda.next ≡ l._moment;
  place : l.cursor.past.len ≡ l._moment;
  over : l.cursor.past.all.now ≡ l.index.lines.now;
}
