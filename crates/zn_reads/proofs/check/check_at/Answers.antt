use Rattle.std.proofs.Common.{◌∙◌, ap, w32, ℤ}
use Rattle.std.proofs.lemmas.Int.{to_z-of_z}
use Rattle.zn_reads.specs.Replies.{check_reply}
use Rattle.zn_reads.proofs.Answering.{check-decided}
use Rattle.zn_reads.proofs.Looking.{looked-check}
use Rattle.zn_reads.proofs.check.check_at.Goals as goal

pub returns : goal.returns
returns c = (
  tt,
  λ who whole s sound valid of none limit session.
      let p = c.args.path.now in
      check-decided s.tree limit session p c.args.version c.in_ok-version_at.field-0 c.check_reply.result c.requires
      (c.in_ok-version_at.ensures (looked-check who c.args.view.now p c.args.version whole) s of)
      (c.check_reply.ensures ∙ ap (λ (n : ℤ). check_reply n c.in_ok-version_at.field-0) (to_z-of_z w32 _ c.ranges.version)),
)
