use Rattle.zn_reads.proofs.Answering.{get_acl-decided}
use Rattle.zn_reads.proofs.Looking.{looked-get_acl}
use Rattle.zn_reads.proofs.acl.get_acl_at.Goals as goal

pub returns : goal.returns
returns c = (
  tt,
  λ who whole s sound valid of none limit session.
      let p = c.args.path.now in
      get_acl-decided s.tree limit session p c.in_ok-stat_at.field-0 c.acl_reply.result (c.in_ok-stat_at.ensures (looked-get_acl who c.args.view.now p whole) s of) c.acl_reply.ensures,
)
