-- The path was tested, and the tree answers the rest.
use Rattle.std.proofs.Common.{subst, w32, ℤ}
use Rattle.std.proofs.lemmas.Int.{to_z-of_z}
use Rattle.zn_reads.specs.Deciding.{IsAnsweredBy}
use Rattle.std.specs.Prelude.{Option}
use Rattle.std.proofs.lemmas.Result.{IfOk-weaker}
use Rattle.zk_model.specs.declared.request.Request.TheVariants as req
use Rattle.zx_base.specs.Maps.{Bytes}
use Rattle.zn_layout.specs.ReadingSteps.{IsPathOf}
use Rattle.zn_reads.proofs.Forms.{formed-check, path-decided, no_path-decided}
use Rattle.zn_reads.proofs.check.check.Goals as goal

pub returns-in-Some : goal.returns-in-Some
returns-in-Some c =
    let text = c.args.text.now in
    let path = subst (λ (o : Option Bytes). IsPathOf text o) c.in-Some.is (c.in_ok-path.ensures) in
    IfOk-weaker c.check_at.result _ _ (λ d decided. path-decided (λ p. req.Check p c.args.version) text c.in-Some.path c.args.view.now d (formed-check text c.args.version) path (subst (λ (n : ℤ). IsAnsweredBy (req.Check c.in-Some.path n) c.args.view.now d) (to_z-of_z w32 _ c.ranges.version) decided)) c.check_at.ensures

pub returns-in-None : goal.returns-in-None
returns-in-None c =
    let text = c.args.text.now in
    no_path-decided (λ p. req.Check p c.args.version) text c.args.view.now _ (formed-check text c.args.version) (subst (λ (o : Option Bytes). IsPathOf text o) c.in-None.is (c.in_ok-path.ensures)) c.bad_path.ensures
