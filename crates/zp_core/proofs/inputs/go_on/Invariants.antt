-- The frames so far were taken up.
use Rattle.std.proofs.Common.{length}
use Rattle.zp_core.proofs.GoingOn.{Continues}
use Rattle.zp_core.proofs.inputs.go_on.Given as goal
use Rattle.zp_core.specs.Meanings.{core_of, stage_of}

abbrev pub invariant-frames : goal.invariant-frames
invariant-frames l = Continues l.now (core_of l.initial.client (stage_of l.initial.stage)) l.initial.actions.items (core_of l.client (stage_of l.stage)) l.actions.items

abbrev pub decreases-frames : goal.decreases-frames
decreases-frames l = length l.client.waiting.items
