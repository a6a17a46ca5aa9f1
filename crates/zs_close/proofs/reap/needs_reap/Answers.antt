-- What is lacking is what the end of the session needs.
use Rattle.std.proofs.Common.{ℤ, w64, subst}
use Rattle.std.proofs.lemmas.Int.{to_z-of_z}
use mir.Val.{SFits}
use Rattle.zs_close.specs.Wanting.{AreEndWants}
use Rattle.zs_close.proofs.KeysRead.{close-needs}
use Rattle.zs_close.proofs.reap.needs_reap.Goals as goal

pub returns-clause-needs : goal.returns-clause-needs
returns-clause-needs c = λ gone mine.
    let fits : SFits w64 c.args.session = c.ranges.session in
    let e = subst (λ (i : ℤ). AreEndWants i c.args.view.now c.in_ok-wants.wants) (to_z-of_z w64 c.args.session fits) c.in_ok-wants.ensures in
    close-needs c.args.view.now (record { session = c.args.session; mine = mine }) e.0 c.in_ok-wants.wants e.1 e.2
