use Rattle.std.proofs.Common.{List, sym, subst, All}
use Rattle.zk_jute.specs.Packets.{NoticeCanBeSent}
use Rattle.zk_model.specs.Watches.{Watches}
use Rattle.zk_model.specs.declared.reply.Notice.{Notice}
use Rattle.zk_legal.specs.Short.{AreShort}
use Rattle.zk_legal.proofs.ShortUpdates.{triggers-short}
use Rattle.zk_judge.proofs.Sendable.{fired-sent}
use Rattle.zk_judge.proofs.firing.fire_at.Goals as goal

pub add_notices-requires : goal.add_notices-requires
add_notices-requires c =
    let u = c.requires.update in
    let short = triggers-short c.args.index.now.lines.now c.args.place u.0 c.args.index.now.run u.1 in
    let seen = c.triggers.ensures u.0 u.1 in
    let fits = subst (λ (g : Watches × List Notice). All NoticeCanBeSent g.1) (sym c.in_ok-seen.ensures) (fired-sent _ _ (subst AreShort (sym seen) short)) in
    subst (λ (ns : List Notice). All NoticeCanBeSent ns) (sym c.as_slice.ensures) fits
