use Rattle.std.proofs.Common.{◌∙◌}
use Rattle.std.specs.FinMap.{get}
use Rattle.zk_model.specs.Znodes.{num_children}
use Rattle.zn_layout.specs.Keys.{DataKey, CountsKey}
use Rattle.zn_layout.specs.StandsFor.{is_counted_in}
use Rattle.zn_reads.proofs.Agreeing.{found-at}
use Rattle.zn_reads.proofs.stat.stat_at.Goals as goal

pub returns : goal.returns
returns c = λ looked s of.
    let v = c.args.view.now in
    let p = c.args.path.now in
    c.stat_of_found.ensures (get s.tree p) (num_children s.tree p) (is_counted_in s (get s.tree p))
    (found-at v s (DataKey p) _ _ c.found.ensures (c.as_slice.ensures ∙ c.in_ok-own.ensures) of looked.0)
    (found-at v s (CountsKey p) _ _ c.found-2.ensures (c.as_slice-2.ensures ∙ c.in_ok-counts.ensures) of looked.1.0)
