-- What is lacking is what the close needs.
use Rattle.std.proofs.Common.{ℤ, rules, w64, subst}
use Rattle.std.proofs.lemmas.Int.{to_z-of_z}
use mir.Val.{SFits}
use Rattle.zs_close.specs.Wanting.{AreEndWants}
use Rattle.zs_close.proofs.KeysRead.{close-needs}
use Rattle.zs_close.proofs.close.needs_close.Goals as goal

pub returns : goal.returns
returns c =
    let fits : SFits w64 c.args.who.session = search rules in
    let e = subst (λ (i : ℤ). AreEndWants i c.args.view.now c.in_ok-wants.wants) (to_z-of_z w64 c.args.who.session fits) c.in_ok-wants.ensures in
    close-needs c.args.view.now c.args.who e.0 c.in_ok-wants.wants e.1 e.2
