use Rattle.std.proofs.Common.{◌+◌, ◌++◌, ◌∙◌, ap, length, subst}
use Rattle.zk_wire.specs.Cutting.{Hands}
use Rattle.zp_step.specs.Stages.{counted_up}
use Rattle.zp_conn.specs.Inboxes.{InboxState}
use Rattle.zp_conn.proofs.inbox.Inbox.cut.Goals as goal

pub returns-in-Ok : goal.returns-in-Ok
returns-in-Ok c =
    let frames = c.in_ok-take.field-0 in (
      (
        frames,
        subst (λ (s : InboxState). Hands s.stream c.args.piece.now frames.items c.take.new.self) c.self.view_is c.in_ok-take.ensures.takes,
        c.in-Ok.ensures.items ∙ ap (λ l. c.self.inside.frames.items ++ l) c.from-frames.ensures.0 ∙ ap (λ (s : InboxState). s.frames ++ frames.items) c.self.view_is,
      ),
      c.saturating_add-self-inside.ensures ∙ ap (λ (s : InboxState). counted_up (s.count + length c.args.piece.now)) c.self.view_is,
    )
