-- Neither an update nor a read: its form decides it.
use Rattle.std.proofs.Common.{◌∙◌, sym}
use Rattle.zn_ops.proofs.SingleRequests.{plain-needed}
use Rattle.zn_ops.proofs.wanting.needs.Goals as goal

pub returns : goal.returns
returns c = plain-needed c.args.request.now c.args.who c.args.view.now _ c.requires.single (sym c.is_update.ensures ∙ c.if-is_update.false) (sym c.is_read.ensures ∙ c.if-is_read.false) c.new.ensures
