use Rattle.std.proofs.Common.{◌≡◌, length}
use Rattle.std.specs.List.{list_all}
use Rattle.std.specs.Prelude.{Some}
use Rattle.zk_transcript.specs.Conversations.{is_before}
use Rattle.zk_transcript.specs.Walks.{packets}
use Rattle.zk_judge.specs.Sent.{packets_in}
use Rattle.zk_judge.proofs.conversations.are_before_close.Given as goal

abbrev pub invariant-packets : goal.invariant-packets
invariant-packets l = list_all (λ p. is_before p.0 (Some (l.close, l.connection))) (packets l.connection l.index.lines.now) ≡ list_all (λ p. is_before p.0 (Some (l.close, l.connection))) (packets_in l.left)

abbrev pub decreases-packets : goal.decreases-packets
decreases-packets l = length (packets_in l.left)
