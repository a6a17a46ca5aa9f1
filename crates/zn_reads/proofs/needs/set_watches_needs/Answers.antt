use Rattle.std.proofs.Common.{ap, ◌∙◌}
use Rattle.std.proofs.lemmas.Result.{IfOk-weaker}
use Rattle.zn_view.specs.Lacking.{lacking}
use Rattle.zn_reads.proofs.WatchKeys.{set_watches-needed}
use Rattle.zn_reads.proofs.needs.set_watches_needs.Goals as goal

pub returns : goal.returns
returns c = IfOk-weaker c.lacking_many.result _ _ (λ ws is since. set_watches-needed since c.args.who c.args.view.now c.args.datas.now c.args.exists.now c.args.children.now c.in_ok-keys.keys.items ws.items c.in_ok-keys.ensures (is ∙ ap (lacking c.args.view.now) c.deref.ensures.value)) c.lacking_many.ensures
