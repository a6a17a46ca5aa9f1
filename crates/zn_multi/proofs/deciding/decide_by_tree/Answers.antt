use Rattle.std.proofs.Common.{subst, arith}
use Rattle.zn_multi.specs.Carrying.{no_progress, Runs}
use Rattle.zn_multi.specs.declared.carrying.Carried.{Carried}
use Rattle.zn_multi.proofs.Runs.{run_head, runs_place}
use Rattle.zn_multi.proofs.deciding.decide_by_tree.Goals as goal

pub plan-requires : goal.plan-requires
plan-requires c =
    run_head c.args.who c.args.now c.args.view.now c.args.parts.now c.in-Passed.passed (subst (λ (x : Carried). Runs c.args.who c.args.now c.args.view.now no_progress 0 c.args.parts.now x) c.in-Passed.is c.in_ok-place.ensures) c.requires.few

pub row_of-requires : goal.row_of-requires
row_of-requires c =
    let within = runs_place c.args.who c.args.now c.args.view.now c.args.parts.now no_progress 0 c.in-Stopped.place c.in-Stopped.code (subst (λ (x : Carried). Runs c.args.who c.args.now c.args.view.now no_progress 0 c.args.parts.now x) c.in-Stopped.is c.in_ok-place.ensures) in
    omega (arith, within)
