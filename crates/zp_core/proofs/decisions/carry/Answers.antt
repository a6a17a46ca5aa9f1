-- The reply is that of the decision.
use Rattle.std.proofs.Common.{◌≡◌, None, sym, ap, ◌∙◌, rules}
use Rattle.zp_step.specs.Looking.{change_by, decided, expired, moved, pending}
use Rattle.zp_step.specs.Replies.{waits}
use Rattle.zp_core.specs.Meanings.{pending_of, ready}
use Rattle.zp_core.proofs.Outcomes.{gives-same}
use Rattle.zp_core.proofs.decisions.carry.Goals as goal

pub returns-in_ok-change-in-Answered : goal.returns-in_ok-change-in-Answered
returns-in_ok-change-in-Answered c =
    let core = ready c.args.client.now in
    let t = c.args.task.value in
    let made : pending_of c.pending-pending.result ≡ pending t.view t.xid c.in-Answered.reply (change_by t.request t.view c.in-Answered.arm) None = search rules in
    gives-same c.reply_in_turn.result c.reply_in_turn.new.client (waits core (pending_of c.pending-pending.result))
    (decided core t.xid t.request t.view c.args.now c.args.decision)
    (ap (waits core) made ∙ sym (ap (decided core t.xid t.request t.view c.args.now) c.in-Answered.is))
    c.reply_in_turn.ensures

pub returns-in-Expired : goal.returns-in-Expired
returns-in-Expired c =
    let core = ready c.args.client.now in
    let t = c.args.task.value in
    let made : pending_of c.expired.result ≡ expired t.view t.xid = search rules in
    gives-same c.reply_in_turn-in-Expired.result c.reply_in_turn-in-Expired.new.client (waits core (pending_of c.expired.result))
    (decided core t.xid t.request t.view c.args.now c.args.decision)
    (ap (waits core) made ∙ sym (ap (decided core t.xid t.request t.view c.args.now) c.in-Expired.is))
    c.reply_in_turn-in-Expired.ensures

pub returns-in-Moved : goal.returns-in-Moved
returns-in-Moved c =
    let core = ready c.args.client.now in
    let t = c.args.task.value in
    let made : pending_of c.moved-pending.result ≡ moved c.args.client.now.who t.view c.in-Moved.found t.xid = search rules in
    gives-same c.reply_in_turn-in-Moved.result c.reply_in_turn-in-Moved.new.client (waits core (pending_of c.moved-pending.result))
    (decided core t.xid t.request t.view c.args.now c.args.decision)
    (ap (waits core) made ∙ sym (ap (decided core t.xid t.request t.view c.args.now) c.in-Moved.is))
    c.reply_in_turn-in-Moved.ensures
