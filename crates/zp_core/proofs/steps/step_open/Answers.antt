-- It goes on after its input.
use Rattle.std.proofs.Common.{List, ◌++◌, ap, ◌∙◌}
use Rattle.zp_step.specs.declared.action.Action.{Action}
use Rattle.zp_core.specs.Going.{GoesOn}
use Rattle.zp_core.specs.Meanings.{core_of, stage_of}
use Rattle.zp_core.proofs.GoingOn.{goes-held}
use Rattle.zp_core.proofs.HeldAfter.{handles-held}
use Rattle.zp_core.proofs.steps.step_open.Goals as goal

pub go_on-requires-clause-held : goal.go_on-requires-clause-held
go_on-requires-clause-held c =
    handles-held (core_of c.args.client.now (stage_of c.args.stage)) c.args.input.now c.args.now (core_of c.handle.new.client (stage_of (c.in_ok-handled.handled).stage)) (c.in_ok-handled.handled).actions
    c.requires.opened c.requires.held c.requires.fit c.in_ok-handled.ensures

pub returns-clause-ok : goal.returns-clause-ok
returns-clause-ok c =
    let mid = core_of c.handle.new.client (stage_of (c.in_ok-handled.handled).stage) in
    let goes : GoesOn c.args.now mid c.into_vec-actions.result.items (core_of c.go_on.new.client (stage_of c.go_on.new.stage)) c.go_on.new.actions.items = c.in_ok-go_on.ensures in
    record {
      mid = mid;
      first = (c.in_ok-handled.handled).actions;
      later = goes.later;
      handled = c.in_ok-handled.ensures;
      goes = goes.goes;
      joined = c.from_vec.ensures ∙ goes.joined ∙ ap (λ (l : List Action). l ++ goes.later) c.into_vec-actions.ensures;
    }

pub returns-clause-held : goal.returns-clause-held
returns-clause-held c =
    let core = core_of c.args.client.now (stage_of c.args.stage) in
    let mid = core_of c.handle.new.client (stage_of (c.in_ok-handled.handled).stage) in
    let goes : GoesOn c.args.now mid c.into_vec-actions.result.items (core_of c.go_on.new.client (stage_of c.go_on.new.stage)) c.go_on.new.actions.items = c.in_ok-go_on.ensures in
    goes-held c.args.now mid (core_of c.go_on.new.client (stage_of c.go_on.new.stage)) goes.later goes.goes
    (handles-held core c.args.input.now c.args.now mid (c.in_ok-handled.handled).actions c.requires.opened c.requires.held c.requires.fit c.in_ok-handled.ensures)
