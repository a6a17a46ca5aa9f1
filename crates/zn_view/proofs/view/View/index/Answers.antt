use Rattle.std.proofs.Common.{ap, ◌∙◌}
use Rattle.std.proofs.lemmas.Result.{IfOk-weaker}
use Rattle.zn_view.specs.Seen.{seen_in}
use Rattle.zn_view.proofs.Indexing.{seen_from-none}
use Rattle.zn_view.proofs.view.View.index.Goals as goal

pub returns : goal.returns
returns c = IfOk-weaker c.index_of.result _ _ (λ index is q. is q ∙ seen_from-none q c.keys.result.now ∙ ap (seen_in q) c.keys.ensures.is) c.index_of.ensures
