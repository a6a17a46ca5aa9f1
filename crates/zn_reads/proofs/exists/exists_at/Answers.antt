use Rattle.zn_reads.proofs.Answering.{exists-decided}
use Rattle.zn_reads.proofs.Looking.{looked-exists}
use Rattle.zn_reads.proofs.exists.exists_at.Goals as goal

pub returns : goal.returns
returns c = (
  tt,
  λ who whole s sound valid of none limit session.
      let p = c.args.path.now in
      exists-decided s.tree limit session p c.args.watch c.in_ok-stat_at.field-0 c.exists_reply-reply.result c.in_ok-arm.arm
      (c.in_ok-stat_at.ensures (looked-exists who c.args.view.now p c.args.watch whole) s of) c.exists_reply-reply.ensures c.in_ok-arm.ensures,
)
