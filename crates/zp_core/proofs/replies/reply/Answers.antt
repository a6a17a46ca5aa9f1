-- What was seen is told, and then the reply.
use Rattle.std.proofs.Common.{◌≡◌, ◌+◌, [], ◌∷◌, ◌++◌, ap, ◌∙◌, rules, w32, w64}
use Rattle.std.proofs.lemmas.Int.{to_z-of_z}
use mir.Val.{SFits}
use Rattle.zk_jute.specs.Packets.{reply_packet}
use Rattle.zp_step.specs.declared.action.Action.{Action}
use Rattle.zp_step.specs.declared.action.Action.TheVariants as action
use Rattle.zp_step.specs.Replies.{Is, close_after, replied, send_notices, stage_after}
use Rattle.zp_step.specs.Stages.{counted_up}
use Rattle.zp_core.specs.Meanings.{Leads, pending_of, ready, stage_of}
use Rattle.zp_core.proofs.Outcomes.{ok-both}
use Rattle.zp_core.proofs.Replying.{reply-gives}
use Rattle.zp_core.proofs.replies.reply.Goals as goal

pub returns : goal.returns
returns c =
    let xid : SFits w32 c.args.pending.xid = search rules in
    let zxid : SFits w64 c.args.pending.zxid = search rules in
    let number : SFits w64 c.args.pending.number = search rules in
    let sent : c.in_ok-send_reply.field-0 ≡ action.Send (reply_packet c.args.pending.xid c.args.pending.zxid c.args.pending.answer) =
    c.in_ok-send_reply.ensures ∙ (λ i. action.Send (reply_packet (to_z-of_z w32 _ xid i) (to_z-of_z w64 _ zxid i) c.args.pending.answer)) in
    let up : c.saturating_add-client.result ≡ counted_up (c.args.client.now.next + 1) = search rules in
    rw (to_z-of_z w64 c.args.pending.zxid zxid, to_z-of_z w64 c.args.pending.number number)
    (ok-both c.end_after.result
    (λ m. stage_of m.stage ≡ stage_after c.args.pending.ends)
    (λ m. m.actions ≡ c.push.new.self ++ close_after c.args.pending.ends)
    (Leads (Is (replied (ready c.args.client.now) (pending_of c.args.pending)))
    (record c.args.client.now { zxid = c.args.pending.zxid; cursor = c.args.pending.number; watches = c.see.new.watches; next = c.saturating_add-client.result }))
    (λ m stage does. reply-gives c.args.client.now c.args.pending c.see.new.watches c.in_ok-notices.notices.items c.in_ok-actions.actions c.push.new.self c.saturating_add-client.result m
    c.in_ok-notices.ensures (c.in_ok-actions.ensures ∙ ap send_notices c.as_slice.ensures.value) (c.in_ok-push.ensures.ok ∙ ap (λ (a : Action). c.in_ok-actions.actions ++ a ∷ []) sent) up stage does)
    c.end_after.ensures.stage c.end_after.ensures.actions)
