use Rattle.zn_view.proofs.KeyKinds.{nodes-told}
use Rattle.zn_view.proofs.kind.is_nodes_record.Goals as goal

pub returns : goal.returns
returns c = nodes-told c.args.value.now c.in_ok-session_in.field-0 c.is_some.result c.is_some.ensures c.in_ok-session_in.ensures
