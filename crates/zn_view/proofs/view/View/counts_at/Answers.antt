use Rattle.std.proofs.Common.{◌∙◌, option_copied}
use Rattle.zn_layout.specs.Keys.{CountsKey}
use Rattle.zn_view.proofs.KeyKinds.{layout-found}
use Rattle.zn_view.proofs.view.View.counts_at.Goals as goal

pub counts_of-requires : goal.counts_of-requires
counts_of-requires c = layout-found (CountsKey c.args.path.now) _ (option_copied c.found_there.result) (c.as_slice.ensures ∙ c.in_ok-key.ensures) c.found_there.ensures.kept
