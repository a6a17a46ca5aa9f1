use Rattle.zn_view.proofs.KeyKinds.{head-told}
use Rattle.zn_view.proofs.kind.is_head_record.Goals as goal

pub returns : goal.returns
returns c = head-told c.args.value.now c.in_ok-head_in.field-0 c.is_some.result c.is_some.ensures c.in_ok-head_in.ensures
