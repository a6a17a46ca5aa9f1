use Rattle.std.proofs.Common.{◌≡◌, Some, None, rules, arith}
use Rattle.zk_transcript.specs.History.{first_place}
use Rattle.zk_transcript.specs.Walks.{update_shown}
use Rattle.zk_judge.proofs.Fronts.{none-placed, same-place, since-front, since-none}
use Rattle.zk_judge.proofs.steps.since_of.Goals as goal

pub returns-in-Some : goal.returns-in-Some
returns-in-Some c =
    let placed : Some (c.in-Some.place, c.args.zxid) ≡ first_place (update_shown c.args.zxid) 0 c.args.index.now.lines.now = search rules in
    since-front c.args.past.now c.args.index.now.lines.now c.args.zxid c.in-Some.place c.requires placed c.if-place-past.true

pub returns-in_default : goal.returns-in_default
returns-in_default c =
    let placed : Some (c.in-Some.place, c.args.zxid) ≡ first_place (update_shown c.args.zxid) 0 c.args.index.now.lines.now = search rules in
    since-none c.args.past.now c.args.index.now.lines.now c.args.zxid c.requires
    (λ k found less. omega (arith, same-place c.args.zxid k c.in-Some.place _ found placed, less, c.if-place-past.false))

pub returns-in_default-2 : goal.returns-in_default-2
returns-in_default-2 c =
    let placed : None ≡ first_place (update_shown c.args.zxid) 0 c.args.index.now.lines.now = search rules in
    since-none c.args.past.now c.args.index.now.lines.now c.args.zxid c.requires (λ k found less. none-placed (k, c.args.zxid) _ found placed)
