-- A plan on a guess, or an ask.
use Rattle.std.proofs.Common.{take, subst}
use Rattle.std.specs.Prelude.{Option}
use Rattle.std.proofs.lemmas.Result.{IfOk-weaker}
use Rattle.zn_view.specs.declared.plan.Decision.TheVariants.{Planned}
use Rattle.zp_step.specs.Looking.{Looks, asks_for, decided, max_ranges}
use Rattle.zp_step.specs.Replies.{Is}
use Rattle.zp_core.specs.Guessing.{GuessesOn}
use Rattle.zp_core.specs.Meanings.{Leads, core_of, ready, stage_of}
use Rattle.zp_core.specs.declared.guesses.Guess.{Guess}
use Rattle.zp_core.specs.declared.stage.Task.{Task}
use Rattle.zp_core.proofs.Guessing.{looks-asked, looks-guessed}
use Rattle.zp_core.proofs.looks.guess_or_ask.Goals as goal

pub returns-in-Some : goal.returns-in-Some
returns-in-Some c =
    let core = ready c.args.client.now in
    let t = c.args.task.value in
    let ws = c.args.lacking.items in
    let g = c.in-Some.guess in
    let on = subst (λ (x : Task). GuessesOn x.request core.who c.args.now x.view ws c.in_ok-guess.field-0) c.deref.ensures c.in_ok-guess.ensures in
    let some = subst (λ (o : Option Guess). GuessesOn t.request core.who c.args.now t.view ws o) c.in-Some.is on in
    IfOk-weaker c.plan_on_guess.result (Leads (Is (decided core t.xid t.request g.view c.args.now (Planned g.plan))) c.args.client.now) (Leads (Looks core t.xid t.request t.view c.args.now) c.args.client.now)
    (λ m i. looks-guessed core t.xid t.request t.view c.args.now ws c.requires.needs (core_of c.args.client.now (stage_of m.stage)) m.actions g some i) c.plan_on_guess.ensures

pub returns-in-None : goal.returns-in-None
returns-in-None c =
    let core = ready c.args.client.now in
    let t = c.args.task.value in
    let ws = c.args.lacking.items in
    let on = subst (λ (x : Task). GuessesOn x.request core.who c.args.now x.view ws c.in_ok-guess.field-0) c.deref.ensures c.in_ok-guess.ensures in
    let none = subst (λ (o : Option Guess). GuessesOn t.request core.who c.args.now t.view ws o) c.in-None.is on in
    IfOk-weaker c.ask_for.result (Leads (Is (asks_for core t.xid t.request t.view (take max_ranges ws))) c.args.client.now) (Leads (Looks core t.xid t.request t.view c.args.now) c.args.client.now)
    (λ m i. looks-asked core t.xid t.request t.view c.args.now ws c.requires.needs (core_of c.args.client.now (stage_of m.stage)) m.actions c.requires.some none i) c.ask_for.ensures
