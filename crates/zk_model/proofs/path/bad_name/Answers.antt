use Rattle.std.proofs.Common.{arith, sym, ap, ◌∙◌}
use Rattle.zx_base.specs.Maps.{same}
use Rattle.std.proofs.lemmas.Grind.{common_steps}
use Rattle.zk_model.proofs.PathScans.{bad_name-names, name_scan-drop, name_scan-end}
use Rattle.zk_model.proofs.path.bad_name.Goals as goal

pub loop-place-init : goal.loop-place-init
loop-place-init c = bad_name-names c.args.path.now c.requires (ap (same c.args.path.now) (sym c.as_slice.ensures) ∙ sym c.eq.ensures ∙ c.if-eq.false)

pub returns-in-Some : goal.returns-in-Some
returns-in-Some c =
    let step = name_scan-drop c.loop-place.place c.args.path.now c.loop-place-test.true in
    grind (arith, common_steps)

pub loop-place-preserved : goal.loop-place-preserved
loop-place-preserved c =
    let step = name_scan-drop c.loop-place.place c.args.path.now c.loop-place-test.true in
    grind (arith, common_steps)

pub returns : goal.returns
returns c =
    let done = name_scan-end c.loop-place.place c.args.path.now c.loop-place-test.false in
    cc
