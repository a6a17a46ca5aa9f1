use Rattle.std.proofs.Common.{◌≡◌, ℤ, w64, to_z, of_z, subst}
use Rattle.std.specs.Prelude.{Option, Err}
use Rattle.std.proofs.lemmas.Int.{to_z-of_z}
use Rattle.ev_types.specs.declared.answer.Answer.{Answer}
use Rattle.zs_reap.specs.Steps.{ReaperSteps}
use Rattle.zs_reap.specs.declared.reap.ReapStep.TheVariants as steps
use Rattle.zs_reaper.specs.Calling.{Makes, link_told}
use Rattle.zs_reaper.specs.Reaping.{Reaps}
use Rattle.zs_reaper.proofs.Answers.{may_next}
use Rattle.zs_reaper.proofs.Walking.{reap_cut, stands_more}
use Rattle.zs_reaper.proofs.reaping.reap_one.Goals as goal

pub returns-in-Err : goal.returns-in-Err
returns-in-Err g c =
    let began = (link_told g.L.Etcd.told g.L.Etcd.failures c.args.link.now) in
    let here = (link_told g.L.Etcd.told g.L.Etcd.failures c.asks.link) in
    let ended = (link_told g.L.Etcd.told g.L.Etcd.failures c.call_in_turn.new.link) in
    let number = to_z w64 (of_z w64 c.args.session) in
    let same : number ≡ c.args.session = to_z-of_z w64 c.args.session c.ranges.session in
    let stepped : ReaperSteps c.asks.reaper c.asks.answer (steps.Ask c.in-Ok-Ask.ask) c.step.new.self = subst (λ (a : Option Answer). ReaperSteps c.asks.reaper a (steps.Ask c.in-Ok-Ask.ask) c.step.new.self) c.as_ref.ensures.value (rw c.in-Ok-Ask.field-0-is at c.in-Ok-Ask.ensures.ok) in
    subst (λ (n : ℤ). Makes (Reaps n (Err c.in-Err.fault)) began ended) same
    (reap_cut number c.asks.reaper c.asks.answer c.asks.asked c.in-Ok-Ask.ask c.step.new.self c.in-Err.fault began here ended c.asks.invariant.stood c.asks.invariant.may stepped c.in-Err.ensures.calls)

pub asks-preserved : goal.asks-preserved
asks-preserved g c =
    let began = (link_told g.L.Etcd.told g.L.Etcd.failures c.args.link.now) in
    let here = (link_told g.L.Etcd.told g.L.Etcd.failures c.asks.link) in
    let ended = (link_told g.L.Etcd.told g.L.Etcd.failures c.call_in_turn.new.link) in
    let number = to_z w64 (of_z w64 c.args.session) in
    let stepped : ReaperSteps c.asks.reaper c.asks.answer (steps.Ask c.in-Ok-Ask.ask) c.step.new.self = subst (λ (a : Option Answer). ReaperSteps c.asks.reaper a (steps.Ask c.in-Ok-Ask.ask) c.step.new.self) c.as_ref.ensures.value (rw c.in-Ok-Ask.field-0-is at c.in-Ok-Ask.ensures.ok) in
    record {
      stood = stands_more number c.asks.reaper c.asks.answer c.asks.asked c.in-Ok-Ask.ask c.step.new.self c.in-Ok.got began here ended c.asks.invariant.stood c.asks.invariant.may stepped c.in-Ok.ensures.calls;
      may = may_next c.in-Ok-Ask.ask c.step.new.self c.in-Ok.got (rw c.in-Ok-Ask.field-0-is at c.in-Ok-Ask.ensures.waits) c.in-Ok.ensures.fits;
    }
