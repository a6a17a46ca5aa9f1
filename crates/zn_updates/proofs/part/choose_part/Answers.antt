-- A setData is chosen alike for each connection.
use Rattle.std.proofs.Common.{ℤ, sym, subst, w32, rules}
use Rattle.std.specs.Prelude.{IfOk}
use Rattle.std.proofs.lemmas.Int.{to_z-of_z}
use mir.Val.{SFits}
use Rattle.zk_model.specs.declared.request.Part.{Part}
use Rattle.zk_model.specs.declared.request.Part.TheVariants as parts
use Rattle.zx_base.specs.Maps.{Bytes}
use Rattle.zn_updates.specs.Layers.{layered}
use Rattle.zn_updates.specs.Parts.{IsPartChoice}
use Rattle.zn_updates.proofs.part.choose_part.Goals as goal

pub returns-in-SetData : goal.returns-in-SetData
returns-in-SetData c =
    let fits : SFits w32 c.in-SetData.version = search rules in
    subst (λ (p : Part). IfOk c.set.result (IsPartChoice p c.args.who c.args.now (layered c.args.over.now c.args.view.now))) (sym c.in-SetData.is)
    (subst (λ (t : Bytes × Bytes × ℤ). IfOk c.set.result (IsPartChoice (parts.SetData t.0 t.1 t.2) c.args.who c.args.now (layered c.args.over.now c.args.view.now)))
    (λ i. (c.as_slice-in-SetData.ensures i, c.as_slice-in-SetData-2.ensures i, to_z-of_z w32 _ fits i)) (c.set.ensures c.args.who))
