use Rattle.std.proofs.Common.{◌≡◌, ◌≤◌, List, Option, Some, None, true, false, ap, sym, ◌∙◌, drop, length, length-drop, subst, arith}
use Rattle.std.specs.Prelude.{option_map, IfSome}
use Rattle.zk_judge.specs.declared.queues.Taken.{Taken}
use Rattle.zk_transcript.specs.Walks.{Due, placed_frame, packets}
use Rattle.zk_least.specs.LeastQueues.{is_front, then_plainly, told_up_to}
use Rattle.zk_least.specs.LeastMoments.{moments_for}
use Rattle.zk_least.specs.LeastSteps.{is_least}
use Rattle.zk_least.specs.LeastWalk.{given, repeats, zxid_in}
use Rattle.zk_judge.specs.Sent.{packets_in}
use Rattle.zk_judge.specs.Seen.{taken_by, walker_of}
use Rattle.zk_judge.specs.Waiting.{goes_on}
use Rattle.zk_model.specs.Watches.{Watches}
use Rattle.zk_judge.proofs.RestAfter.{drop-both}
use Rattle.zk_judge.proofs.Replied.{at-end, at-moments, plain-none, plain-on, plain-some}
use Rattle.zk_judge.proofs.waits.settle.Goals as goal

pub returns-in_default-clause-walked : goal.returns-in_default-clause-walked
returns-in_default-clause-walked c =
    let w = walker_of c.replies.walker in
    let ps = packets_in c.packets_left-left.result in
    let here = c.packets_left-left.ensures in
    let lines = c.args.index.now.lines.now in
    let conn = c.args.party.connection in
    let id = c.args.party.session in
    c.is_front.ensures
    ∙ ap (is_front ps) c.deref.ensures.value
    ∙ ap (λ (g : Watches × List Due). is_front ps g.1) c.in_ok-fired.ensures
    ∙ sym (at-end lines conn id w ps c.requires.run c.replies.invariant.above (sym c.in_default.ensures))
    ∙ ap (is_least lines conn id w) here
    ∙ c.replies.invariant.least

pub returns-then-not-branch-clause-walked : goal.returns-then-not-branch-clause-walked
returns-then-not-branch-clause-walked c =
    let w = walker_of c.replies.walker in
    let ps = packets_in c.packets_left-left.result in
    let here = c.packets_left-left.ensures in
    let lines = c.args.index.now.lines.now in
    let conn = c.args.party.connection in
    let id = c.args.party.session in
    let apart : repeats (placed_frame conn c.replies.walker.next lines) c.in-Some.reply.now ≡ false = sym c.in_ok-repeats.ensures ∙ c.if-not-branch.true in
    c.wait_for_tries.ensures.walked
    ∙ ap (goes_on lines conn id w (drop c.replies.taken (packets c.args.party.connection c.args.index.now.lines.now))) c.moments-tries.ensures.tries
    ∙ ap (λ qs. goes_on lines conn id w qs (moments_for lines conn id w c.in-Some.reply.now (placed_frame conn c.replies.walker.next lines))) (sym here)
    ∙ sym (at-moments lines conn id w ps c.in-Some.reply.now c.requires.run c.replies.invariant.above (sym c.in-Some.ensures) apart)
    ∙ ap (is_least lines conn id w) here
    ∙ c.replies.invariant.least

pub replies-smaller : goal.replies-smaller
replies-smaller c =
    let w = walker_of c.replies.walker in
    let ps = packets_in c.packets_left-left.result in
    let here = c.packets_left-left.ensures in
    let lines = c.args.index.now.lines.now in
    let conn = c.args.party.connection in
    let id = c.args.party.session in
    let is : Some (taken_by ps c.in-Some-2.step) ≡ then_plainly lines conn id (given ps (told_up_to lines w (zxid_in c.in-Some.reply.now))) = sym (ap (option_map (taken_by ps)) c.in-Some-2.is) ∙ c.in_ok-step.ensures.taken in
    let g = plain-on lines conn id w ps (zxid_in c.in-Some.reply.now) (taken_by ps c.in-Some-2.step) c.requires.run c.replies.invariant.above c.replies.invariant.told (sym is) in
    let fewer = g.fewer in
    let size = ap (λ (ds : List Due). length ds) here in
    omega (arith, fewer, size, length-drop c.in-Some-2.step.count ps, length-drop c.replies.taken (packets c.args.party.connection c.args.index.now.lines.now))

pub replies-preserved : goal.replies-preserved
replies-preserved c =
    let w = walker_of c.replies.walker in
    let ps = packets_in c.packets_left-left.result in
    let here = c.packets_left-left.ensures in
    let lines = c.args.index.now.lines.now in
    let conn = c.args.party.connection in
    let id = c.args.party.session in
    let plain : repeats (placed_frame conn c.replies.walker.next lines) c.in-Some.reply.now ≡ true = sym c.in_ok-repeats.ensures ∙ c.if-not-branch.false in
    let is : Some (taken_by ps c.in-Some-2.step) ≡ then_plainly lines conn id (given ps (told_up_to lines w (zxid_in c.in-Some.reply.now))) = sym (ap (option_map (taken_by ps)) c.in-Some-2.is) ∙ c.in_ok-step.ensures.taken in
    let g = plain-on lines conn id w ps (zxid_in c.in-Some.reply.now) (taken_by ps c.in-Some-2.step) c.requires.run c.replies.invariant.above c.replies.invariant.told (sym is) in
    let fewer = g.fewer in
    let within = c.replies.invariant.within in
    let more = c.replies.invariant.more in
    let most : c.in-Some-2.step.count ≤ length ps = subst (λ (o : Option Taken). IfSome o (λ t. t.count ≤ length ps)) c.in-Some-2.is c.in_ok-step.ensures.within in
    let size = ap (λ (ds : List Due). length ds) here in
    let v = walker_of c.in-Some-2.step.walker in
    record {
      least = ap (is_least lines conn id v) (sym (drop-both c.replies.taken c.in-Some-2.step.count (packets c.args.party.connection c.args.index.now.lines.now)))
          ∙ ap (λ (ds : List Due). is_least lines conn id v (drop c.in-Some-2.step.count ds)) (sym here)
          ∙ plain-some lines conn id w ps c.in-Some.reply.now (taken_by ps c.in-Some-2.step) c.requires.run c.replies.invariant.above (sym c.in-Some.ensures) plain is
          ∙ ap (is_least lines conn id w) here
          ∙ c.replies.invariant.least;
      early = g.earliest c.args.from c.replies.invariant.early;
      told = g.told;
      above = g.above;
      within = omega (arith, most, within, size, length-drop c.replies.taken (packets c.args.party.connection c.args.index.now.lines.now));
      more = omega (arith, more);
    }

pub returns-in-None-clause-walked : goal.returns-in-None-clause-walked
returns-in-None-clause-walked c =
    let w = walker_of c.replies.walker in
    let ps = packets_in c.packets_left-left.result in
    let here = c.packets_left-left.ensures in
    let lines = c.args.index.now.lines.now in
    let conn = c.args.party.connection in
    let id = c.args.party.session in
    let plain : repeats (placed_frame conn c.replies.walker.next lines) c.in-Some.reply.now ≡ true = sym c.in_ok-repeats.ensures ∙ c.if-not-branch.false in
    let is : None ≡ then_plainly lines conn id (given ps (told_up_to lines w (zxid_in c.in-Some.reply.now))) = sym (ap (option_map (taken_by ps)) c.in-None.is) ∙ c.in_ok-step.ensures.taken in
    plain-none lines conn id w ps c.in-Some.reply.now c.requires.run c.replies.invariant.above (sym c.in-Some.ensures) plain is ∙ ap (is_least lines conn id w) here ∙ c.replies.invariant.least
