use Rattle.std.proofs.Common.{rules, ◌≡◌}
use Rattle.zs_session.specs.Connecting.{SawLifeAt}
use Rattle.zs_session.proofs.Lives.{other-not_mine}
use Rattle.zs_session.proofs.looks.mine.Goals as goal

pub returns-in-Some-2 : goal.returns-in-Some-2
returns-in-Some-2 c =
    let saw : SawLifeAt c.args.view.now c.args.request.now.session c.in-Some.seen c.in-Some.life = search rules in
    let apart : c.in-Some.life.passwd ≡ c.args.request.now.passwd → ⊥ = search rules in
    other-not_mine c.args.request.now c.args.view.now c.in-Some.seen c.in-Some.life saw apart
