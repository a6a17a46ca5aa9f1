use Rattle.std.proofs.Common.{ℤ, subst, w64, rules}
use Rattle.std.proofs.lemmas.Int.{to_z-of_z}
use mir.Val.{SFits}
use Rattle.zn_view.specs.Seen.{View}
use Rattle.zn_updates.specs.declared.chosen.Chosen.{Chosen}
use Rattle.zn_updates.specs.Layers.{layered}
use Rattle.zn_updates.specs.Parts.{IsPartChoice}
use Rattle.zn_multi.specs.Carrying.{IsTouched}
use Rattle.zn_multi.proofs.Runs.{step, update_records}
use Rattle.zn_multi.proofs.carrying.carry_one.Goals as goal

pub with_update-requires : goal.with_update-requires
with_update-requires c =
    let v : View = layered c.args.passed.over c.args.view.now in
    update_records c.args.part.now c.args.who c.args.now v c.in-Made.update (subst (λ (x : Chosen). IsPartChoice c.args.part.now c.args.who c.args.now v x) c.in-Made.is c.in_ok-code.ensures)

pub returns-in_ok-with_update-in-Made : goal.returns-in_ok-with_update-in-Made
returns-in_ok-with_update-in-Made c =
    let v : View = layered c.args.passed.over c.args.view.now in
    let fits : SFits w64 c.args.who.session = search rules in
    let new = c.in_ok-with_update-in-Made.field-0 in
    let touched : IsTouched v c.args.who.session c.args.part.now c.in_ok-touched-in-Made.touched = subst (λ (z : ℤ). IsTouched v z c.args.part.now c.in_ok-touched-in-Made.touched) (to_z-of_z w64 _ fits) c.in_ok-touched-in-Made.ensures in
    step c.args.part.now c.args.who c.args.now c.args.view.now c.args.passed new c.in-Made.update c.in_ok-touched-in-Made.touched
    (subst (λ (x : Chosen). IsPartChoice c.args.part.now c.args.who c.args.now v x) c.in-Made.is c.in_ok-code.ensures) touched
    c.in_ok-with_update-in-Made.ensures.over c.in_ok-with_update-in-Made.ensures.results c.in_ok-with_update-in-Made.ensures.triggers c.in_ok-with_update-in-Made.ensures.touched
