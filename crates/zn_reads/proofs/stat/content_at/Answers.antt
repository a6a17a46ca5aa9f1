use Rattle.std.proofs.Common.{◌∙◌, Some, None, sym, ap, subst}
use Rattle.std.specs.Prelude.{Option, option_copied}
use Rattle.std.proofs.lemmas.Result.{IfOk-weaker}
use Rattle.zk_model.specs.declared.node.Node.{Node}
use Rattle.zn_layout.specs.Keys.{DataKey}
use Rattle.zn_layout.specs.StandsFor.{DataMeans, stored_of}
use Rattle.zn_reads.proofs.Agreeing.{found-at}
use Rattle.zn_reads.proofs.stat.content_at.Goals as goal

pub returns-in-Some : goal.returns-in-Some
returns-in-Some c =
    let v = c.args.view.now in
    let p = c.args.path.now in
    IfOk-weaker c.content_of.result _ _ (λ content is looked s of n there.
    is n (subst (λ (o : Option Node). DataMeans o (stored_of (Some c.in-Some.own.now))) there
    (found-at v s (DataKey p) _ _ (sym (ap option_copied c.in-Some.is) ∙ c.found.ensures) (c.as_slice.ensures ∙ c.in_ok-key.ensures) of looked.0))) c.content_of.ensures

pub returns : goal.returns
returns c = λ looked s of n there.
    let v = c.args.view.now in
    let p = c.args.path.now in
    absurd (subst (λ (o : Option Node). DataMeans o (stored_of None)) there
    (found-at v s (DataKey p) _ _ (sym (ap option_copied c.in-None.is) ∙ c.found.ensures) (c.as_slice.ensures ∙ c.in_ok-key.ensures) of looked.0))
