use Rattle.std.proofs.Common.{◌≡◌, ℕ, ◌+◌, vec_len}
use Rattle.std.specs.Prelude.{◌⊎◌}
use Rattle.std.specs.List.{All, Contains}
use Rattle.zk_judge.specs.Agendas.{HasConversation, IsAgenda}
use Rattle.zk_judge.specs.Staged.{IsStanding, connections}
use Rattle.zk_judge.proofs.judging.advanced.Given as goal

abbrev pub invariant-conversations : goal.invariant-conversations
invariant-conversations l = record {
  due : All (IsStanding l.index.lines.now l.moment) l.due.items;
  agenda : IsAgenda l.index.lines.now l.later;
  next : l.later.next ≡ l.moment + 1;
  kept : (c : ℕ) → HasConversation l.fn.agenda c → Contains (connections l.due.items) c ⊎ HasConversation l.later c;
}

abbrev pub decreases-conversations : goal.decreases-conversations
decreases-conversations l = vec_len l.due
