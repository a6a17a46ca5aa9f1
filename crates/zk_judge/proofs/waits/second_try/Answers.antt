use Rattle.std.proofs.Common.{[], ◌∷◌, refl, ap, sym, ◌∙◌}
use Rattle.zk_judge.specs.Seen.{walker_of}
use Rattle.zk_judge.specs.Waiting.{gives_rest_from, packets_after}
use Rattle.zk_judge.specs.declared.walker.Walker.{Walker as Walking}
use Rattle.zk_judge.proofs.Replied.{both-missed, next-try, not-twice, one-missed, too-late}
use Rattle.zk_judge.proofs.Trying.{second-waits}
use Rattle.zk_judge.proofs.waits.second_try.Goals.{in_default-via-in-Some+then-moment-second+else-second-index, in_default-via-in-Some+else-moment-second, in_default-via-in_default}
use Rattle.zk_judge.proofs.waits.second_try.Goals as goal

pub returns-in_ok-copy-in-Some-clause-walked : goal.returns-in_ok-copy-in-Some-clause-walked
returns-in_ok-copy-in-Some-clause-walked c = λ failed.
    ap (λ (v : Walking). gives_rest_from c.args.index.now.lines.now c.args.wait.now.party (walker_of v) c.args.wait.now.taken (c.in-Some.second ∷ [])) c.in_ok-copy-in-Some.ensures
    ∙ next-try c.args.index.now.lines.now c.args.wait.now.party.connection c.args.wait.now.party.session (walker_of c.args.wait.now.walker) (packets_after c.args.index.now.lines.now c.args.wait.now.party c.args.wait.now.taken) c.args.wait.now.first c.in-Some.second c.args.wait.now.second (sym failed) c.in-Some.is

pub returns-in_ok-copy-in-Some-clause-waits : goal.returns-in_ok-copy-in-Some-clause-waits
returns-in_ok-copy-in-Some-clause-waits c =
    second-waits c.args.index.now.lines.now c.args.wait.now _ c.requires c.if-moment-second.true c.if-second-index.true refl refl refl c.in_ok-copy-in-Some.ensures

pub returns-in_default-clause-walked : goal.returns-in_default-clause-walked
returns-in_default-clause-walked c = λ failed. elim c.in_default.branch [
  | in_default-via-in-Some+then-moment-second+else-second-index w ↦
      both-missed c.args.index.now.lines.now c.args.wait.now.party.connection c.args.wait.now.party.session (walker_of c.args.wait.now.walker) (packets_after c.args.index.now.lines.now c.args.wait.now.party c.args.wait.now.taken) c.args.wait.now.first w.in-Some.second c.args.wait.now.second (sym failed) w.in-Some.is
      (too-late c.args.index.now.lines.now c.args.wait.now.party.connection c.args.wait.now.party.session (walker_of c.args.wait.now.walker) (packets_after c.args.index.now.lines.now c.args.wait.now.party c.args.wait.now.taken) w.in-Some.second w.if-second-index.false)
  | in_default-via-in-Some+else-moment-second w ↦
      both-missed c.args.index.now.lines.now c.args.wait.now.party.connection c.args.wait.now.party.session (walker_of c.args.wait.now.walker) (packets_after c.args.index.now.lines.now c.args.wait.now.party c.args.wait.now.taken) c.args.wait.now.first w.in-Some.second c.args.wait.now.second (sym failed) w.in-Some.is
      (not-twice c.args.index.now.lines.now c.args.wait.now.party.connection c.args.wait.now.party.session (walker_of c.args.wait.now.walker) (packets_after c.args.index.now.lines.now c.args.wait.now.party c.args.wait.now.taken) c.args.wait.now.first w.in-Some.second c.args.wait.now.second (sym failed) c.requires.second w.in-Some.is w.if-moment-second.false)
  | in_default-via-in_default w ↦ one-missed c.args.index.now.lines.now c.args.wait.now.party.connection c.args.wait.now.party.session (walker_of c.args.wait.now.walker) (packets_after c.args.index.now.lines.now c.args.wait.now.party c.args.wait.now.taken) c.args.wait.now.first c.args.wait.now.second (sym failed) w.in_default.is
]
