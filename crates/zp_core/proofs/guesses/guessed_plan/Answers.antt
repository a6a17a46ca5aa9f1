-- The key that is lacking may be guessed absent.
use Rattle.std.proofs.Common.{sym, ◌∙◌, ap}
use Rattle.std.proofs.lemmas.Result.{IfOk-weaker}
use Rattle.zp_core.specs.Guessing.{GuessesAt, GuessesOn, may_guess}
use Rattle.zp_core.proofs.Guessing.{guesses-on, may-guess}
use Rattle.zp_core.proofs.guesses.guessed_plan.Goals as goal

pub plan_without-requires-clause-may : goal.plan_without-requires-clause-may
plan_without-requires-clause-may c =
    let t = c.args.task.now in
    may-guess t.request t.view c.in-Some.key.now (ap (may_guess t.request t.view) (sym c.as_slice.ensures) ∙ sym c.may_guess.ensures ∙ c.if-not-may_guess.false)

pub returns : goal.returns
returns c =
    let t = c.args.task.now in
    let key = c.in-Some.key.now in
    let ws = c.args.lacking.now.items in
    let may = may-guess t.request t.view key (ap (may_guess t.request t.view) (sym c.as_slice.ensures) ∙ sym c.may_guess.ensures ∙ c.if-not-may_guess.false) in
    IfOk-weaker c.plan_without.result (GuessesAt t.request c.args.who c.args.now t.view key) (GuessesOn t.request c.args.who c.args.now t.view ws)
    (λ o h. guesses-on t.request c.args.who c.args.now t.view key ws o c.in-Some.ensures may h) c.plan_without.ensures
