use Rattle.std.proofs.Common.{◌≡◌, ap, sym, ◌∙◌, w64, to_z, of_z, cond, true}
use Rattle.std.proofs.lemmas.Int.{to_z-of_z}
use Rattle.std.specs.Ordering.{is_eq}
use Rattle.std.specs.BTreeSet.{contains}
use Rattle.zk_history.specs.Attachments.{Pair, pair_order}
use Rattle.zk_history.proofs.AttachmentLaws.{attached-more, long}
use Rattle.zk_history.proofs.attachments.attached.Goals as goal

pub returns : goal.returns
returns c = λ m s on before.
    let back : to_z w64 (of_z w64 c.args.id) ≡ c.args.id = to_z-of_z w64 c.args.id c.ranges.id in
    let updates = λ (q : Pair). c.in_ok-insert.ensures.updates.0 q
    ∙ ap (λ (p : Pair). cond (is_eq (pair_order p q)) true (contains pair_order c.args.attachments q)) (λ i. (sym on i, back i)) in
    attached-more m c.args.attachments c.insert.new.self c.args.id s (long c.args.id c.ranges.id) updates before
