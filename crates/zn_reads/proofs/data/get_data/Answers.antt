-- The path was tested, and the tree answers the rest.
use Rattle.std.proofs.Common.{subst}
use Rattle.std.specs.Prelude.{Option}
use Rattle.std.proofs.lemmas.Result.{IfOk-weaker}
use Rattle.zk_model.specs.declared.request.Request.TheVariants as req
use Rattle.zx_base.specs.Maps.{Bytes}
use Rattle.zn_layout.specs.ReadingSteps.{IsPathOf}
use Rattle.zn_reads.proofs.Forms.{formed-get_data, path-decided, no_path-decided}
use Rattle.zn_reads.proofs.data.get_data.Goals as goal

pub returns-in-Some : goal.returns-in-Some
returns-in-Some c =
    let text = c.args.text.now in
    let path = subst (λ (o : Option Bytes). IsPathOf text o) c.in-Some.is (c.in_ok-path.ensures) in
    IfOk-weaker c.get_data_at.result _ _ (λ d decided. path-decided (λ p. req.GetData p c.args.watch) text c.in-Some.path c.args.view.now d (formed-get_data text c.args.watch) path decided) c.get_data_at.ensures

pub returns-in-None : goal.returns-in-None
returns-in-None c =
    let text = c.args.text.now in
    no_path-decided (λ p. req.GetData p c.args.watch) text c.args.view.now _ (formed-get_data text c.args.watch) (subst (λ (o : Option Bytes). IsPathOf text o) c.in-None.is (c.in_ok-path.ensures)) c.bad_path.ensures
