-- A reply is sent.
use Rattle.std.proofs.Common.{◌≡◌, ℕ, ◌+◌, List, [], ◌∷◌, ◌++◌, append_assoc, ap, ◌∙◌}
use Rattle.zk_jute.specs.Packets.{reply_packet}
use Rattle.zk_model.specs.Watches.{Watches, Seen}
use Rattle.zk_model.specs.declared.reply.Notice.{Notice}
use Rattle.zp_step.specs.declared.action.Action.{Action}
use Rattle.zp_step.specs.declared.action.Action.TheVariants as action
use Rattle.zp_step.specs.Replies.{Is, close_after, replied, send_notices, stage_after}
use Rattle.zp_step.specs.Stages.{Core, Stage, counted_up, seen_by}
use Rattle.zp_core.specs.Meanings.{Leads, change_of, pending_of, ready, stage_of}
use Rattle.zp_core.specs.declared.client.Client.{Client}
use Rattle.zp_core.specs.declared.moves.Move.{Move}
use Rattle.zp_core.specs.declared.stage.Pending.{Pending}

pub reply-gives : (client : Client) (p : Pending) (w : Watches) (ns : List Notice) (notices actions : List Action) (next : ℕ) (m : Move)
    → record { watches = w; notices = ns } ≡ seen_by (change_of p.change) client.watches → notices ≡ send_notices ns → actions ≡ notices ++ action.Send (reply_packet p.xid p.zxid p.answer) ∷ []
    → next ≡ counted_up (client.next + 1) → stage_of m.stage ≡ stage_after p.ends → m.actions ≡ actions ++ close_after p.ends
    → Leads (Is (replied (ready client) (pending_of p))) (record client { zxid = p.zxid; cursor = p.number; watches = w; next = next }) m
reply-gives client p w ns notices actions next m seen told sent up stage does =
    let core : Stage → Watches → ℕ → Core = λ s x n. record (ready client) { stage = s; zxid = p.zxid; cursor = p.number; watches = x; next = n } in
    let reply : Action = action.Send (reply_packet p.xid p.zxid p.answer) in (
      ap (λ (s : Stage). core s w next) stage ∙ ap (λ (x : Seen). core (stage_after p.ends) x.watches next) seen
          ∙ ap (core (stage_after p.ends) (seen_by (change_of p.change) client.watches).watches) up,
      does ∙ ap (λ (l : List Action). l ++ close_after p.ends) sent ∙ append_assoc notices (reply ∷ []) (close_after p.ends)
          ∙ ap (λ (l : List Action). l ++ (reply ∷ close_after p.ends)) (told ∙ ap (λ (x : Seen). send_notices x.notices) seen),
    )
