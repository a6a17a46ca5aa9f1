use Rattle.std.proofs.Common.{◌≡◌, [], subst, sym, rules, List}
use Rattle.std.specs.Prelude.{Option}
use Rattle.std.proofs.lemmas.Result.{IfOk-weaker}
use Rattle.zk_model.specs.declared.request.Request.TheVariants as req
use Rattle.zx_base.specs.Maps.{Bytes}
use Rattle.zn_layout.specs.ReadingSteps.{IsPathOf}
use Rattle.zn_view.specs.declared.want.Want.{Want}
use Rattle.zn_view.specs.Needs.{AreNeeds}
use Rattle.zn_reads.proofs.Forms.{formed-get_children, formed-get_children2}
use Rattle.zn_reads.proofs.Needed.{get_children-needed, get_children2-needed, no_path-needed}
use Rattle.zn_reads.proofs.needs.children_needs.Goals as goal

pub returns-in-Some-clause-names : goal.returns-in-Some-clause-names
returns-in-Some-clause-names c =
    let path = subst (λ (o : Option Bytes). IsPathOf c.args.text.now o) c.in-Some.is (c.in_ok-path.ensures) in
    IfOk-weaker c.children_wants.result _ _ (λ ws wants watch. get_children-needed c.args.text.now c.in-Some.path watch c.args.who c.args.view.now ws.items path wants) c.children_wants.ensures

pub returns-in-Some-clause-stat : goal.returns-in-Some-clause-stat
returns-in-Some-clause-stat c =
    let path = subst (λ (o : Option Bytes). IsPathOf c.args.text.now o) c.in-Some.is (c.in_ok-path.ensures) in
    IfOk-weaker c.children_wants.result _ _ (λ ws wants watch. get_children2-needed c.args.text.now c.in-Some.path watch c.args.who c.args.view.now ws.items path wants) c.children_wants.ensures

pub returns-in-None-clause-names : goal.returns-in-None-clause-names
returns-in-None-clause-names c = λ watch.
    let text = c.args.text.now in
    let r = req.GetChildren text watch in
    let none : c.new.result.items ≡ [] = search rules in
    subst (λ (l : List Want). AreNeeds r c.args.who c.args.view.now l) (sym none) (no_path-needed r c.args.who c.args.view.now text (formed-get_children text watch) (subst (λ (o : Option Bytes). IsPathOf text o) c.in-None.is (c.in_ok-path.ensures)))

pub returns-in-None-clause-stat : goal.returns-in-None-clause-stat
returns-in-None-clause-stat c = λ watch.
    let text = c.args.text.now in
    let r = req.GetChildren2 text watch in
    let none : c.new.result.items ≡ [] = search rules in
    subst (λ (l : List Want). AreNeeds r c.args.who c.args.view.now l) (sym none) (no_path-needed r c.args.who c.args.view.now text (formed-get_children2 text watch) (subst (λ (o : Option Bytes). IsPathOf text o) c.in-None.is (c.in_ok-path.ensures)))
