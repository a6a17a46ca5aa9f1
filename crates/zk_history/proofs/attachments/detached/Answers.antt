use Rattle.std.proofs.Common.{◌≡◌, ap, ◌∙◌, w64, to_z, of_z, cond, false}
use Rattle.std.proofs.lemmas.Int.{to_z-of_z}
use Rattle.std.specs.Ordering.{is_eq}
use Rattle.std.specs.BTreeSet.{contains}
use Rattle.zk_history.specs.Attachments.{Pair, pair_order}
use Rattle.zk_history.proofs.AttachmentLaws.{detached-none, detached-some}
use Rattle.zk_history.proofs.attachments.detached.Goals as goal

pub returns-in-Some : goal.returns-in-Some
returns-in-Some c = λ m is before.
    let back : to_z w64 (of_z w64 c.args.id) ≡ c.args.id = to_z-of_z w64 c.args.id c.ranges.id in
    let updates = λ (q : Pair). c.remove.ensures.updates.0 q
    ∙ ap (λ (p : Pair). cond (is_eq (pair_order p q)) false (contains pair_order c.args.attachments q)) (λ i. (c.connection.ensures i, back i)) in
    detached-some m c.args.attachments c.remove.new.self c.args.id c.in-Some.session.now (rw c.in-Some.is at is) updates before

pub returns-in_default : goal.returns-in_default
returns-in_default c = λ m is before. detached-none m c.args.attachments c.args.id (rw c.in_default.is at is) before
