-- The input closes it.
use Rattle.std.proofs.Common.{sym, ◌∙◌}
use Rattle.std.proofs.lemmas.Result.{IfOk-weaker}
use Rattle.zp_step.specs.Steps.{Handles}
use Rattle.zp_core.specs.Meanings.{Leads, Shuts, core_of, stage_of}
use Rattle.zp_core.proofs.Closing.{ended-handles, shuts-leads}
use Rattle.zp_core.proofs.inputs.handle.Goals as goal

pub returns-in-Some : goal.returns-in-Some
returns-in-Some c =
    let core = core_of c.args.client.now (stage_of c.args.stage) in
    IfOk-weaker c.close.result (Shuts c.in-Some.why) (Leads (Handles core c.args.input.now c.args.now) c.args.client.now)
    (λ m s. ended-handles core c.args.input.now c.in-Some.why c.args.now (core_of c.args.client.now (stage_of m.stage)) m.actions (sym c.end_by.ensures ∙ c.in-Some.is) (shuts-leads c.args.client.now (stage_of c.args.stage) c.in-Some.why m s))
    c.close.ensures
