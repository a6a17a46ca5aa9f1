use Rattle.std.proofs.Common.{◌≡◌, ◌∙◌, ℤ, ap, refl, subst, rules, w64, to_z, of_z}
use Rattle.std.specs.Prelude.{None, OnOk, option_copied}
use Rattle.zk_service.specs.declared.cause.Ended.{Ended}
use Rattle.zk_service.specs.declared.cause.Ended.TheVariants.{Reaped, Kept, Gone}
use Rattle.zp_script.specs.Kinds.{kind_of_reap}
use Rattle.zs_reap.specs.Steps.{IsReapFault, ReaperSteps}
use Rattle.zs_reap.specs.declared.reap.Reap.{Reap}
use Rattle.zs_reap.specs.declared.reap.ReapStep.TheVariants as reaped
use Rattle.zs_session.specs.declared.fault.StepFault.TheVariants.{Damaged}
use Rattle.zp_world.specs.Doing.{ended}
use Rattle.zp_world.proofs.Delivered.{reap-asked, reap-damaged, reap-ended}
use Rattle.zp_world.proofs.world.World.reap_on.Goals as goal

pub returns-in-Ok-Ask : goal.returns-in-Ok-Ask
returns-in-Ok-Ask c =
    let before : c.deref_mut.result.now ≡ c.args.reaper.value = search rules in
    let steps = subst (λ (r : Reap). ReaperSteps r (option_copied c.args.answer) (reaped.Ask c.in-Ok-Ask.ask) c.step.new.self) before (rw c.in-Ok-Ask.field-0-is at c.in-Ok-Ask.ensures.ok) in
    let waits = rw c.in-Ok-Ask.field-0-is at c.in-Ok-Ask.ensures.waits in
    let kind = c.reap_kind-kind.ensures.kind ∙ ap (λ (r : Reap). kind_of_reap r.session r.phase) c.deref.ensures in
    reap-asked c.args.number c.args.self.now c.args.seat c.args.reaper.value c.step.new.self _ c.put.result
    _ c.put.new.self c.in-Ok-Ask.ask c.reap_kind-kind.result c.self.view_is steps waits kind c.put.ensures

pub returns-in-Ok-Reaped : goal.returns-in-Ok-Reaped
returns-in-Ok-Reaped c =
    let before : c.deref_mut.result.now ≡ c.args.reaper.value = search rules in
    let steps = subst (λ (r : Reap). ReaperSteps r (option_copied c.args.answer) (reaped.Reaped c.in-Ok-Reaped.zxid) c.step.new.self) before (rw c.in-Ok-Reaped.field-0-is at c.in-Ok-Reaped.ensures.ok) in
    let over = rw c.in-Ok-Reaped.field-0-is at c.in-Ok-Reaped.ensures.waits in
    let same : to_z w64 (of_z w64 c.in-Ok-Reaped.zxid) ≡ c.in-Ok-Reaped.zxid = search rules in
    reap-ended c.args.number c.args.self.now c.args.seat c.args.reaper.value c.step.new.self _ c.end_reaper.result
    c.end_reaper.new.self (reaped.Reaped c.in-Ok-Reaped.zxid) (Reaped c.in-Ok-Reaped.zxid) steps over (λ f. refl)
    (subst (λ (z : ℤ). OnOk c.end_reaper.result (c.end_reaper.new.self ≡ ended c.args.number c.args.self.now c.args.seat (Reaped z) None)) same c.end_reaper.ensures)

pub returns-in-Ok-Kept : goal.returns-in-Ok-Kept
returns-in-Ok-Kept c =
    let before : c.deref_mut.result.now ≡ c.args.reaper.value = search rules in
    let steps = subst (λ (r : Reap). ReaperSteps r (option_copied c.args.answer) (reaped.Kept c.in-Ok-Kept.rev) c.step.new.self) before (rw c.in-Ok-Kept.field-0-is at c.in-Ok-Kept.ensures.ok) in
    let over = rw c.in-Ok-Kept.field-0-is at c.in-Ok-Kept.ensures.waits in
    let same : to_z w64 (of_z w64 c.in-Ok-Kept.rev) ≡ c.in-Ok-Kept.rev = search rules in
    reap-ended c.args.number c.args.self.now c.args.seat c.args.reaper.value c.step.new.self _ c.end_reaper-in-Ok-Kept.result
    c.end_reaper-in-Ok-Kept.new.self (reaped.Kept c.in-Ok-Kept.rev) (Kept c.in-Ok-Kept.rev) steps over (λ f. refl)
    (subst (λ (z : ℤ). OnOk c.end_reaper-in-Ok-Kept.result (c.end_reaper-in-Ok-Kept.new.self ≡ ended c.args.number c.args.self.now c.args.seat (Kept z) None)) same c.end_reaper-in-Ok-Kept.ensures)

pub returns-in-Ok-Gone : goal.returns-in-Ok-Gone
returns-in-Ok-Gone c =
    let before : c.deref_mut.result.now ≡ c.args.reaper.value = search rules in
    let steps = subst (λ (r : Reap). ReaperSteps r (option_copied c.args.answer) (reaped.Gone c.in-Ok-Gone.rev) c.step.new.self) before (rw c.in-Ok-Gone.field-0-is at c.in-Ok-Gone.ensures.ok) in
    let over = rw c.in-Ok-Gone.field-0-is at c.in-Ok-Gone.ensures.waits in
    let same : to_z w64 (of_z w64 c.in-Ok-Gone.rev) ≡ c.in-Ok-Gone.rev = search rules in
    reap-ended c.args.number c.args.self.now c.args.seat c.args.reaper.value c.step.new.self _ c.end_reaper-in-Ok-Gone.result
    c.end_reaper-in-Ok-Gone.new.self (reaped.Gone c.in-Ok-Gone.rev) (Gone c.in-Ok-Gone.rev) steps over (λ f. refl)
    (subst (λ (z : ℤ). OnOk c.end_reaper-in-Ok-Gone.result (c.end_reaper-in-Ok-Gone.new.self ≡ ended c.args.number c.args.self.now c.args.seat (Gone z) None)) same c.end_reaper-in-Ok-Gone.ensures)

pub returns-in-Err-Damaged : goal.returns-in-Err-Damaged
returns-in-Err-Damaged c =
    let before : c.deref_mut.result.now ≡ c.args.reaper.value = search rules in
    let fault = subst (λ (r : Reap). IsReapFault r (option_copied c.args.answer) (Damaged c.in-Err-Damaged.key c.in-Err-Damaged.value)) before (rw c.in-Err-Damaged.field-0-is at c.in-Err-Damaged.ensures.fault) in
    reap-damaged c.args.number c.args.self.now c.args.seat c.args.reaper.value c.args.reaper.value _ c.end_reaper-in-Err-Damaged.result
    c.end_reaper-in-Err-Damaged.new.self c.in-Err-Damaged.key c.in-Err-Damaged.value fault
    (subst (λ (e : Ended). OnOk c.end_reaper-in-Err-Damaged.result (c.end_reaper-in-Err-Damaged.new.self ≡ ended c.args.number c.args.self.now c.args.seat e None)) c.damaged.ensures c.end_reaper-in-Err-Damaged.ensures)
