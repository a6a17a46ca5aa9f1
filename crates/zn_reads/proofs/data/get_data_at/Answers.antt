use Rattle.zn_reads.proofs.Answering.{get_data-decided}
use Rattle.zn_reads.proofs.Looking.{looked-get_data}
use Rattle.zn_reads.proofs.data.get_data_at.Goals as goal

pub returns : goal.returns
returns c = (
  tt,
  λ who whole s sound valid of none limit session.
      let p = c.args.path.now in
      let looked = looked-get_data who c.args.view.now p c.args.watch whole in
      get_data-decided s.tree limit session p c.in_ok-content_at.field-0 c.args.watch c.in_ok-stat.stat c.data_reply-reply.result c.in_ok-arm.arm
      (c.in_ok-stat.ensures looked s of) (c.in_ok-content_at.ensures (looked.0, tt) s of) c.data_reply-reply.ensures c.in_ok-arm.ensures,
)
