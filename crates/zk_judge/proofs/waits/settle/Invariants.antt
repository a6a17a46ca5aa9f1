use Rattle.std.proofs.Common.{◌≡◌, ◌-◌, ◌≤◌, pos, drop, length}
use Rattle.std.specs.Prelude.{◌<ℤ◌}
use Rattle.zk_least.specs.LeastSteps.{is_least}
use Rattle.zk_transcript.specs.Walks.{packets}
use Rattle.zk_judge.specs.Fronts.{IsTold}
use Rattle.zk_judge.specs.Seen.{walker_of}
use Rattle.zk_judge.specs.Waiting.{IsEarliest}
use Rattle.zk_judge.proofs.waits.settle.Given as goal

abbrev pub invariant-replies : goal.invariant-replies
invariant-replies l = record {
  least : is_least l.index.lines.now l.party.connection l.party.session (walker_of l.walker) (drop l.taken (packets l.party.connection l.index.lines.now))
      ≡ is_least l.index.lines.now l.party.connection l.party.session (walker_of l.initial.walker) (drop l.initial.taken (packets l.party.connection l.index.lines.now));
  early : IsEarliest l.index.lines.now (walker_of l.walker) l.from;
  told : IsTold l.index.lines.now (walker_of l.walker);
  above : pos 0 <ℤ l.walker.zxid;
  within : l.taken ≤ length (packets l.party.connection l.index.lines.now);
  more : l.initial.taken ≤ l.taken;
}

abbrev pub decreases-replies : goal.decreases-replies
decreases-replies l = length (packets l.party.connection l.index.lines.now) - l.taken
