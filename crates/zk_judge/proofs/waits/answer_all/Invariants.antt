use Rattle.std.proofs.Common.{◌≡◌, ◌-◌, length}
use Rattle.zk_transcript.specs.Walks.{packets}
use Rattle.zk_judge.specs.Waiting.{IsWait, is_walked}
use Rattle.zk_judge.specs.declared.waits.Walked.TheVariants as walk
use Rattle.zk_judge.proofs.waits.answer_all.Given as goal

abbrev pub invariant-replies : goal.invariant-replies
invariant-replies l = record {
  walked : is_walked l.index.lines.now (walk.Waits l.wait) ≡ is_walked l.index.lines.now (walk.Waits l.initial.wait);
  stands : IsWait l.index.lines.now l.moment l.wait;
  first : l.wait.first ≡ l.moment;
}

abbrev pub decreases-replies : goal.decreases-replies
decreases-replies l = length (packets l.wait.party.connection l.index.lines.now) - l.wait.taken
