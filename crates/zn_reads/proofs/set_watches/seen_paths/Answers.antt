use Rattle.std.proofs.Common.{List, sym, subst}
use Rattle.std.proofs.lemmas.Result.{IfOk-weaker}
use Rattle.zw_watch.specs.declared.seen_path.SeenPath.{SeenPath}
use Rattle.zn_reads.specs.SeenPaths.{IsSetBy}
use Rattle.zn_reads.proofs.Setting.{set_by}
use Rattle.zn_reads.proofs.set_watches.seen_paths.Goals as goal

pub returns-clause-set : goal.returns-clause-set
returns-clause-set c =
    let v = c.args.view.now in
    IfOk-weaker c.seen_in_turn.result _ _ (λ xs is.
    subst (λ (l : List SeenPath). IsSetBy v c.args.datas.now c.args.exists.now c.args.children.now l) (sym is) (set_by v c.args.datas.now c.args.exists.now c.args.children.now)) c.seen_in_turn.ensures
