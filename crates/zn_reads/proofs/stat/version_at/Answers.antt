use Rattle.std.proofs.Common.{◌∙◌}
use Rattle.std.specs.FinMap.{get}
use Rattle.zn_layout.specs.Keys.{DataKey}
use Rattle.zn_reads.proofs.Agreeing.{found-at}
use Rattle.zn_reads.proofs.stat.version_at.Goals as goal

pub returns : goal.returns
returns c = λ looked s of.
    c.version_of_found.ensures (get s.tree c.args.path.now) (found-at c.args.view.now s (DataKey c.args.path.now) _ _ c.found.ensures (c.as_slice.ensures ∙ c.in_ok-key.ensures) of looked.0)
