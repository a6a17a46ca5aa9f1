use Rattle.std.proofs.Common.{◌≡◌, None, drop}
use Rattle.zk_transcript.specs.Walks.{packets}
use Rattle.zk_judge.specs.Seen.{walker_of}
use Rattle.zk_judge.specs.Waiting.{tried}
use Rattle.zk_judge.proofs.Replied.{both-missed, next-try, one-missed, too-early, too-late}
use Rattle.zk_judge.proofs.waits.wait_between.Goals.{else-from-first-via-then-from-first+else-first-index, else-from-first-via-else-from-first}
use Rattle.zk_judge.proofs.waits.wait_between.Goals.{in_default-via-in-Some+then-from-second+else-second-index, in_default-via-in-Some+else-from-second, in_default-via-in_default}
use Rattle.zk_judge.proofs.waits.wait_between.Goals as goal

pub returns-in-Some-clause-walked : goal.returns-in-Some-clause-walked
returns-in-Some-clause-walked c =
    let missed : tried c.args.index.now.lines.now c.args.party.connection c.args.party.session (walker_of c.args.walker) (drop c.args.taken (packets c.args.party.connection c.args.index.now.lines.now)) c.args.first ≡ None = elim c.else-from-first.branch [
      | else-from-first-via-then-from-first+else-first-index w ↦ too-late c.args.index.now.lines.now c.args.party.connection c.args.party.session (walker_of c.args.walker) (drop c.args.taken (packets c.args.party.connection c.args.index.now.lines.now)) c.args.first w.if-first-index.false
      | else-from-first-via-else-from-first w ↦ too-early c.args.index.now.lines.now c.args.party.connection c.args.party.session (walker_of c.args.walker) (drop c.args.taken (packets c.args.party.connection c.args.index.now.lines.now)) c.args.from c.args.first c.requires.early w.if-from-first.false
    ] in
    next-try c.args.index.now.lines.now c.args.party.connection c.args.party.session (walker_of c.args.walker) (drop c.args.taken (packets c.args.party.connection c.args.index.now.lines.now)) c.args.first c.in-Some.second c.args.second missed c.in-Some.is

pub returns-in_default-clause-walked : goal.returns-in_default-clause-walked
returns-in_default-clause-walked c =
    let missed : tried c.args.index.now.lines.now c.args.party.connection c.args.party.session (walker_of c.args.walker) (drop c.args.taken (packets c.args.party.connection c.args.index.now.lines.now)) c.args.first ≡ None = elim c.else-from-first.branch [
      | else-from-first-via-then-from-first+else-first-index w ↦ too-late c.args.index.now.lines.now c.args.party.connection c.args.party.session (walker_of c.args.walker) (drop c.args.taken (packets c.args.party.connection c.args.index.now.lines.now)) c.args.first w.if-first-index.false
      | else-from-first-via-else-from-first w ↦ too-early c.args.index.now.lines.now c.args.party.connection c.args.party.session (walker_of c.args.walker) (drop c.args.taken (packets c.args.party.connection c.args.index.now.lines.now)) c.args.from c.args.first c.requires.early w.if-from-first.false
    ] in
    elim c.in_default.branch [
      | in_default-via-in-Some+then-from-second+else-second-index w ↦
          both-missed c.args.index.now.lines.now c.args.party.connection c.args.party.session (walker_of c.args.walker) (drop c.args.taken (packets c.args.party.connection c.args.index.now.lines.now)) c.args.first w.in-Some.second c.args.second missed w.in-Some.is (too-late c.args.index.now.lines.now c.args.party.connection c.args.party.session (walker_of c.args.walker) (drop c.args.taken (packets c.args.party.connection c.args.index.now.lines.now)) w.in-Some.second w.if-second-index.false)
      | in_default-via-in-Some+else-from-second w ↦
          both-missed c.args.index.now.lines.now c.args.party.connection c.args.party.session (walker_of c.args.walker) (drop c.args.taken (packets c.args.party.connection c.args.index.now.lines.now)) c.args.first w.in-Some.second c.args.second missed w.in-Some.is
          (too-early c.args.index.now.lines.now c.args.party.connection c.args.party.session (walker_of c.args.walker) (drop c.args.taken (packets c.args.party.connection c.args.index.now.lines.now)) c.args.from w.in-Some.second c.requires.early w.if-from-second.false)
      | in_default-via-in_default w ↦ one-missed c.args.index.now.lines.now c.args.party.connection c.args.party.session (walker_of c.args.walker) (drop c.args.taken (packets c.args.party.connection c.args.index.now.lines.now)) c.args.first c.args.second missed w.in_default.is
    ]
