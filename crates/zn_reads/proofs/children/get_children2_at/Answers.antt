use Rattle.std.proofs.Common.{refl}
use Rattle.zn_reads.proofs.Answering.{get_children2-decided}
use Rattle.zn_reads.proofs.Looking.{looked-get_children2, listed-get_children2}
use Rattle.zn_reads.proofs.children.get_children2_at.Goals as goal

pub returns : goal.returns
returns c = (
  tt,
  λ who whole s sound valid of none limit session.
      let v = c.args.view.now in
      let p = c.args.path.now in
      let looked = looked-get_children2 who v p c.args.watch whole in
      get_children2-decided s.tree limit session p c.args.watch c.in_ok-names_at.field-0 c.in_ok-stat.stat c.names_stat_reply-reply.result c.in_ok-arm.arm
      (c.in_ok-stat.ensures looked s of)
      (λ n there. c.in_ok-names_at.ensures (listed-get_children2 who v p c.args.watch s n whole of there) s sound (valid refl) of) c.names_stat_reply-reply.ensures c.in_ok-arm.ensures,
)
