use Rattle.std.proofs.Common.{sym, subst, w64, ℤ, rules}
use Rattle.std.proofs.lemmas.Int.{to_z-of_z}
use Rattle.std.specs.Prelude.{Option, Some}
use Rattle.zk_history.specs.Attachments.{IsLeastAttached}
use Rattle.zk_history.proofs.AttachmentLaws.{first-none, first-found, first-other}
use Rattle.zk_history.proofs.attachments.first_attached.Goals as goal

pub returns-in_err-first : goal.returns-in_err-first
returns-in_err-first c =
    subst (λ (o : Option ℤ). IsLeastAttached c.args.attachments.now c.args.connection o) (sym c.from_residual.ensures)
    (first-none c.args.attachments.now c.args.connection c.range.result (c.range.ensures.in_range tt) c.in_err-first.ensures.steps.0)

pub returns-then-first-connection : goal.returns-then-first-connection
returns-then-first-connection c =
    subst (λ (z : ℤ). IsLeastAttached c.args.attachments.now c.args.connection (Some z)) (sym (to_z-of_z w64 c.in_ok-first.first.now.1 (search rules)))
    (first-found c.args.attachments.now c.args.connection c.range.result c.in_ok-first.first.now c.next.new.self (c.range.ensures.in_range tt) c.in_ok-first.ensures.steps c.if-first-connection.true)

pub returns-else-first-connection : goal.returns-else-first-connection
returns-else-first-connection c =
    first-other c.args.attachments.now c.args.connection c.range.result c.in_ok-first.first.now c.next.new.self (c.range.ensures.in_range tt) c.in_ok-first.ensures.steps c.if-first-connection.false
