-- The decision on the create, with the Stat.
use Rattle.std.proofs.Common.{◌≡◌, pos, w32, w64, sym, ap, ◌∙◌, subst, rules}
use Rattle.std.proofs.lemmas.Int.{to_z-of_z}
use mir.Val.{SFits}
use Rattle.zk_model.specs.declared.node.Stat.{Stat}
use Rattle.zk_model.specs.declared.request.Request.TheVariants as req
use Rattle.zk_service.specs.States.{made_stat}
use Rattle.zn_view.specs.Deciding.{IfPlanned, IsToldByForm, is_by_tree}
use Rattle.zn_updates.specs.Deciding.{IsBySound, IsGuarded}
use Rattle.zn_updates.specs.WithStat.{with_stat}
use Rattle.zn_updates.specs.Writing.{WritesAs}
use Rattle.zn_updates.proofs.WithStat.{form-asked, plans-asked, sound-asked, whole-plainly, with_stat-tree, writes-asked}
use Rattle.zn_updates.proofs.create2.decide_create2.Goals as goal

pub decide_create-requires-clause-whole : goal.decide_create-requires-clause-whole
decide_create-requires-clause-whole c = whole-plainly c.args.asked.now.path.now c.args.asked.now.content.now c.args.asked.now.acl.now c.args.asked.now.flags c.args.who c.args.view.now c.requires.whole

pub returns-clause-form : goal.returns-clause-form
returns-clause-form c =
    let d = c.in_ok-decision.decision in
    subst (IsToldByForm (req.Create2 c.args.asked.now.path.now c.args.asked.now.content.now c.args.asked.now.acl.now c.args.asked.now.flags)) (sym c.with_stat.ensures)
    (form-asked c.args.asked.now.path.now c.args.asked.now.content.now c.args.asked.now.acl.now c.args.asked.now.flags c.draft_stat-stat.result d c.in_ok-decision.ensures.form)

pub returns-clause-sound : goal.returns-clause-sound
returns-clause-sound c =
    let d = c.in_ok-decision.decision in
    subst (IsBySound (req.Create2 c.args.asked.now.path.now c.args.asked.now.content.now c.args.asked.now.acl.now c.args.asked.now.flags) c.args.who c.args.view.now) (sym c.with_stat.ensures)
    (sound-asked c.args.asked.now.path.now c.args.asked.now.content.now c.args.asked.now.acl.now c.args.asked.now.flags c.draft_stat-stat.result c.args.who c.args.view.now d c.in_ok-decision.ensures.sound)

pub returns-clause-tree : goal.returns-clause-tree
returns-clause-tree c = ap is_by_tree c.with_stat.ensures ∙ with_stat-tree c.draft_stat-stat.result c.in_ok-decision.decision c.in_ok-decision.ensures.tree

pub returns-clause-plan : goal.returns-clause-plan
returns-clause-plan c =
    let fits : SFits w32 c.args.asked.now.flags = search rules in
    let flags = to_z-of_z w32 c.args.asked.now.flags fits in
    let session_fits : SFits w64 c.args.who.session = search rules in
    let session = to_z-of_z w64 c.args.who.session session_fits in
    let d = c.in_ok-decision.decision in
    let stat : c.draft_stat-stat.result ≡ made_stat c.args.asked.now.flags c.args.asked.now.content.now c.args.who.session (pos 0) c.args.now =
    c.draft_stat-stat.ensures ∙ (λ i. made_stat (flags i) c.args.asked.now.content.now (session i) (pos 0) c.args.now) in
    subst (IfPlanned (IsGuarded (req.Create2 c.args.asked.now.path.now c.args.asked.now.content.now c.args.asked.now.acl.now c.args.asked.now.flags) c.args.who c.args.now c.args.view.now))
    (sym (c.with_stat.ensures ∙ ap (λ (s : Stat). with_stat s d) stat))
    (plans-asked c.args.asked.now.path.now c.args.asked.now.content.now c.args.asked.now.acl.now c.args.asked.now.flags c.args.who c.args.now c.args.view.now d c.in_ok-decision.ensures.plan)

pub returns-clause-writes : goal.returns-clause-writes
returns-clause-writes c =
    let d = c.in_ok-decision.decision in
    subst (IfPlanned (WritesAs (req.Create2 c.args.asked.now.path.now c.args.asked.now.content.now c.args.asked.now.acl.now c.args.asked.now.flags) c.args.who c.args.view.now)) (sym c.with_stat.ensures)
    (writes-asked c.args.asked.now.path.now c.args.asked.now.content.now c.args.asked.now.acl.now c.args.asked.now.flags c.draft_stat-stat.result c.args.who c.args.view.now d c.in_ok-decision.ensures.writes)
