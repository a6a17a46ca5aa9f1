use Rattle.std.proofs.Common.{◌≡◌, ◌∙◌, sym, None, option_copied}
use Rattle.zn_view.specs.Seen.{seen}
use Rattle.zn_updates.proofs.Layered.{over-seen, under-seen, there-seen}
use Rattle.zn_updates.proofs.layers.showing.Goals as goal

pub returns-in-Some : goal.returns-in-Some
returns-in-Some c =
    let some : seen c.args.over.now c.args.key.now ≡ None → ⊥ = there-seen option_copied c.in-Some.field-0 _ c.in-Some.ensures in
    (over-seen c.args.over.now c.args.view.now c.args.key.now some, some)

pub returns-in-Some-found : goal.returns-in-Some-found
returns-in-Some-found c = (under-seen c.args.over.now c.args.view.now c.args.key.now (sym c.in-None.ensures), there-seen option_copied c.in-Some-found.field-0 _ c.in-Some-found.ensures)

pub returns-in-None-found : goal.returns-in-None-found
returns-in-None-found c = sym (under-seen c.args.over.now c.args.view.now c.args.key.now (sym c.in-None.ensures)) ∙ sym c.in-None-found.ensures
