use Rattle.std.proofs.Common.{◌≡◌, sym, ap, ◌∙◌, ◌++◌, drop, List, ◌+◌}
use Rattle.zk_model.specs.declared.reply.Notice.{Notice}
use Rattle.zk_answers.proofs.FireLaws.{fired_on, fired_on-more, fired_on-done}
use Rattle.zk_answers.proofs.watches.Watches.fire_all.Goals as goal

pub loop-trigger-preserved : goal.loop-trigger-preserved
loop-trigger-preserved c =
    let told : c.append.new.self.items ≡ c.loop-trigger.notices.items ++ c.in_ok-fired.fired.notices =
    c.in_ok-append.ensures.items ∙ ap (λ (ns : List Notice). c.loop-trigger.notices.items ++ ns) c.into_vec-told.ensures in
    ap (λ (ns : List Notice). fired_on c.in_ok-fired.fired.watches ns (drop (c.loop-trigger.trigger-index + 1) c.args.triggers.now)) told
    ∙ sym (fired_on-more c.loop-trigger.watches c.in_ok-fired.fired.watches c.loop-trigger.notices.items c.in_ok-fired.fired.notices c.args.triggers.now c.loop-trigger.trigger-index c.trigger-item.result
    c.loop-trigger-test.true c.trigger-item.is c.in_ok-fired.ensures)
    ∙ c.loop-trigger.invariant

pub returns : goal.returns
returns c =
    ap (λ (ns : List Notice). (c.loop-trigger.watches, ns)) c.from_vec.ensures
    ∙ sym (fired_on-done c.loop-trigger.watches c.loop-trigger.notices.items c.args.triggers.now c.loop-trigger.trigger-index c.loop-trigger-test.false)
    ∙ c.loop-trigger.invariant
