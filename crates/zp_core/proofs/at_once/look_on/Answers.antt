-- The kept view gives no plan, or one that is asked.
use Rattle.std.proofs.Common.{sym, ◌∙◌, subst}
use Rattle.std.specs.Map.{lookup}
use Rattle.std.specs.Prelude.{IfOk}
use Rattle.std.proofs.lemmas.Result.{IfOk-weaker}
use Rattle.zx_base.specs.Maps.{same}
use Rattle.zn_view.specs.Seen.{View}
use Rattle.zn_view.specs.declared.plan.Decision.TheVariants.{Planned}
use Rattle.zp_step.specs.Kept.{used_first}
use Rattle.zp_step.specs.Looking.{Looks, PassesOver, decided}
use Rattle.zp_step.specs.Replies.{Is}
use Rattle.zp_step.specs.Taking.{LooksOn}
use Rattle.zp_core.specs.Meanings.{Leads, core_of, ready, stage_of}
use Rattle.zp_core.specs.OnKept.{IsPlanOn, PlansOn}
use Rattle.zp_core.specs.declared.stage.Task.{Task}
use Rattle.zp_core.proofs.Passing.{on-passed, on-plan}
use Rattle.zp_core.proofs.at_once.look_on.Goals as goal

pub returns-in_default-2 : goal.returns-in_default-2
returns-in_default-2 c =
    let core = ready c.args.client.now in
    let who = c.args.client.now.who in
    let t = c.args.task.value in
    let q = c.args.key.now in
    let o = lookup (same q) c.args.client.now.views in
    let v = c.in-Some.view.now in
    let new = c.look-in_default-2.new.client in
    let none = subst (PlansOn c.deref.result.now.request who c.args.now v) c.in_default-2.is c.in_ok-plan.ensures in
    let passes = subst (λ (x : Task). PassesOver x.request who v) c.deref.ensures none in
    IfOk-weaker c.look-in_default-2.result (Leads (Looks core t.xid t.request t.view c.args.now) new) (Leads (λ d out. LooksOn core t.xid t.request c.args.now d out q o) new)
    (λ m h. on-passed core t.xid t.request c.args.now (core_of new (stage_of m.stage)) m.actions q o v c.in-Some.ensures.is passes
    (subst (λ (w : View). Looks core t.xid t.request w c.args.now (core_of new (stage_of m.stage)) m.actions) c.requires.empty h))
    c.look-in_default-2.ensures

pub returns : goal.returns
returns c =
    let core = ready c.args.client.now in
    let who = c.args.client.now.who in
    let t = c.args.task.value in
    let q = c.args.key.now in
    let o = lookup (same q) c.args.client.now.views in
    let v = c.in-Some.view.now in
    let p = c.in-Some-2.plan in
    let new = c.plan_at_once.new.client in
    let some = subst (PlansOn c.deref.result.now.request who c.args.now v) c.in-Some-2.is c.in_ok-plan.ensures in
    let on = subst (λ (x : Task). IsPlanOn x.request who c.args.now v p) c.deref.ensures some in
    let whole = c.in_ok-view.ensures ∙ (λ i. record v { lists = sym c.in-Some.ensures.plain i }) in
    let asked : View → Type 0 = λ w. IfOk c.plan_at_once.result (Leads (Is (decided (record core { views = used_first q w core.views }) t.xid t.request w c.args.now (Planned p))) new) in
    IfOk-weaker c.plan_at_once.result (Leads (Is (decided (record core { views = used_first q v core.views }) t.xid t.request v c.args.now (Planned p))) new)
    (Leads (λ d out. LooksOn core t.xid t.request c.args.now d out q o) new)
    (λ m i. on-plan core t.xid t.request c.args.now (core_of new (stage_of m.stage)) m.actions q o v p c.in-Some.ensures.is on i)
    (subst asked whole c.plan_at_once.ensures)
