use Rattle.std.proofs.Common.{◌≡◌, ◌≢◌, ◌+◌, List, false, true, length, drop, sym, ap, ◌∙◌, rules}
use Rattle.std.specs.Prelude.{◌==◌}
use Rattle.std.proofs.lemmas.List.{at_drop_all}
use Rattle.zk_transcript.specs.Walks.{Due}
use Rattle.zk_least.specs.LeastQueues.{is_apart, is_front}
use Rattle.zk_judge.specs.Sent.{packets_in}
use Rattle.zk_judge.proofs.FrontPackets.{front-last, front-more, front-over, front-refused, is_due, later, next-due}
use Rattle.zk_judge.proofs.packets.is_front.Goals as goal

pub returns-then-not-is_given : goal.returns-then-not-is_given
returns-then-not-is_given c =
    let queue = c.args.queue.now in
    let at = c.loop-at.at in
    let d : Due = c.index-queue-at.result in
    let p : Due = (c.in-Some.place, c.in-Some.bytes.now) in
    let ps = packets_in c.in-Some.rest in
    let not : is_due d p ≡ false = sym c.is_given.ensures ∙ c.if-not-is_given.true in
    sym (next-due _ queue _ ps at d p c.loop-at.invariant c.in-Some.ensures c.loop-at-test.true c.index-queue-at.is ∙ front-refused d p (drop (at + 1) queue) ps not)

pub returns-then-len-eq0 : goal.returns-then-len-eq0
returns-then-len-eq0 c =
    let queue = c.args.queue.now in
    let at = c.loop-at.at in
    let d : Due = c.index-queue-at.result in
    let p : Due = (c.in-Some.place, c.in-Some.bytes.now) in
    let ps = packets_in c.in-Some.rest in
    let due : is_due d p ≡ true = sym c.is_given.ensures ∙ c.if-not-is_given.false in
    let last : length ps ≡ 0 = search rules in
    sym (next-due _ queue _ ps at d p c.loop-at.invariant c.in-Some.ensures c.loop-at-test.true c.index-queue-at.is
    ∙ front-last d p (drop (at + 1) queue) ps last due ∙ sym (c.is_apart.ensures d.1 ∙ ap (is_apart d) (later queue (at + 1))))

pub loop-at-preserved : goal.loop-at-preserved
loop-at-preserved c =
    let queue = c.args.queue.now in
    let at = c.loop-at.at in
    let d : Due = c.index-queue-at.result in
    let p : Due = (c.in-Some.place, c.in-Some.bytes.now) in
    let ps = packets_in c.in-Some.rest in
    let due : is_due d p ≡ true = sym c.is_given.ensures ∙ c.if-not-is_given.false in
    let more : length ps ≢ 0 = search rules in
    next-due _ queue _ ps at d p c.loop-at.invariant c.in-Some.ensures c.loop-at-test.true c.index-queue-at.is ∙ front-more d p (drop (at + 1) queue) ps more due

pub returns-in_default : goal.returns-in_default
returns-in_default c = sym (c.loop-at.invariant ∙ ap (λ (qs : List Due). is_front qs (drop c.loop-at.at c.args.queue.now)) c.in_default.ensures)

pub returns : goal.returns
returns c =
    let left = packets_in c.loop-at.left in
    ap (λ n. n == 0) c.len-2.ensures
    ∙ sym (c.loop-at.invariant ∙ at_drop_all (is_front left) c.args.queue.now c.loop-at.at c.loop-at-test.false ∙ front-over left)
