use Rattle.std.proofs.Common.{◌≡◌, ℤ, List, Option, Some, subst, rules, IfOk}
use Rattle.std.specs.Prelude.{◌<ℤ◌, option_map}
use Rattle.zk_transcript.specs.History.{first_place}
use Rattle.zk_transcript.specs.Walks.{Due, Walker, update_shown}
use Rattle.zk_least.specs.LeastQueues.{told_through, told_up_to}
use Rattle.zk_judge.specs.Seen.{step_of, walker_of}
use Rattle.zk_judge.proofs.Replied.{told-up-as}
use Rattle.zk_judge.proofs.queues.told_up_to.Goals as goal

pub returns-in-Some : goal.returns-in-Some
returns-in-Some c =
    let lines = c.args.index.now.lines.now in
    let z = c.zxid_in-zxid.result in
    let less : c.args.walker.zxid <ℤ z = search rules in
    let placed : Some (c.in-Some.place, z) ≡ first_place (update_shown z) 0 lines = search rules in
    let told : IfOk c.told_through.result (λ o. option_map step_of o ≡ told_through lines (walker_of c.args.walker) (Some (c.in-Some.place, z))) = search rules in
    let up = subst (λ (y : Option (Walker × List Due)). IfOk c.told_through.result (λ o. option_map step_of o ≡ y)) (told-up-as lines (walker_of c.args.walker) z (c.in-Some.place, z) less placed) told in
    subst (λ (x : ℤ). IfOk c.told_through.result (λ o. option_map step_of o ≡ told_up_to lines (walker_of c.args.walker) x)) c.zxid_in-zxid.ensures up
