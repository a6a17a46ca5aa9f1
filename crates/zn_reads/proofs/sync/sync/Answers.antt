use Rattle.std.proofs.Common.{sym, subst}
use Rattle.std.specs.Prelude.{Option}
use Rattle.std.proofs.lemmas.Result.{IfOk-weaker}
use Rattle.zk_model.specs.declared.request.Request.TheVariants as req
use Rattle.zx_base.specs.Maps.{Bytes}
use Rattle.zn_layout.specs.ReadingSteps.{IsPathOf}
use Rattle.zn_view.specs.declared.plan.Decision.{Decision}
use Rattle.zn_reads.specs.Deciding.{IsAnsweredBy}
use Rattle.zn_reads.proofs.Answering.{sync-decided}
use Rattle.zn_reads.proofs.Forms.{formed-sync, path-decided, no_path-decided}
use Rattle.zn_reads.proofs.sync.sync.Goals as goal

pub returns-in-Some : goal.returns-in-Some
returns-in-Some c =
    let text = c.args.text.now in
    let path = subst (λ (o : Option Bytes). IsPathOf text o) c.in-Some.is (c.in_ok-path.ensures) in
    IfOk-weaker c.path_back.result _ _ (λ d is v. path-decided (λ p. req.Sync p) text c.in-Some.path v d (formed-sync text) path
    (subst (λ (x : Decision). IsAnsweredBy (req.Sync c.in-Some.path) v x) (sym is) (tt, λ who whole s sound valid of none limit session. sync-decided s.tree limit session c.in-Some.path))) c.path_back.ensures

pub returns-in-None : goal.returns-in-None
returns-in-None c = λ v.
    let text = c.args.text.now in
    no_path-decided (λ p. req.Sync p) text v _ (formed-sync text) (subst (λ (o : Option Bytes). IsPathOf text o) c.in-None.is (c.in_ok-path.ensures)) c.bad_path.ensures
