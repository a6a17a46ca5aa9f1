use Rattle.std.proofs.Common.{◌≡◌, ◌++◌, drop}
use Rattle.zk_transcript.specs.Walks.{due_notices}
use Rattle.zk_judge.proofs.packets.add_notices.Given as goal

abbrev pub invariant-loop-notice : goal.invariant-loop-notice
invariant-loop-notice l = l.initial.due.items ++ due_notices l.place l.notices ≡ l.due.items ++ due_notices l.place (drop l.notice-index l.notices)
