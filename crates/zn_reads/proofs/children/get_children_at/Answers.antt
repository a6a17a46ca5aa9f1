use Rattle.std.specs.FinMap.{get}
use Rattle.std.proofs.Common.{refl}
use Rattle.zn_reads.proofs.Answering.{get_children-decided, version-there}
use Rattle.zn_reads.proofs.Looking.{looked-get_children, listed-get_children}
use Rattle.zn_reads.proofs.children.get_children_at.Goals as goal

pub returns : goal.returns
returns c = (
  tt,
  λ who whole s sound valid of none limit session.
      let v = c.args.view.now in
      let p = c.args.path.now in
      let looked = looked-get_children who v p c.args.watch whole in
      get_children-decided s.tree limit session p c.args.watch c.is_there-is_there.result c.in_ok-names_at.field-0 c.names_reply-reply.result c.in_ok-arm.arm
      (version-there (get s.tree p) c.in_ok-version_at.field-0 c.is_there-is_there.result (c.in_ok-version_at.ensures (looked.0, tt) s of) c.is_there-is_there.ensures)
      (λ n there. c.in_ok-names_at.ensures (listed-get_children who v p c.args.watch s n whole of there) s sound (valid refl) of) c.names_reply-reply.ensures c.in_ok-arm.ensures,
)
