use Rattle.std.proofs.Common.{◌∙◌, option_copied}
use Rattle.zn_layout.specs.Keys.{DataKey}
use Rattle.zn_view.proofs.KeyKinds.{layout-found}
use Rattle.zn_view.proofs.view.View.node_at.Goals as goal

pub node_in-requires : goal.node_in-requires
node_in-requires c = layout-found (DataKey c.args.path.now) _ (option_copied c.found_there.result) (c.as_slice.ensures ∙ c.in_ok-key.ensures) c.found_there.ensures.kept
