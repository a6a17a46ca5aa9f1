-- Nothing was seen.
use Rattle.std.proofs.Common.{◌≡◌, false, pos, w64, rules, arith}
use Rattle.std.specs.Prelude.{int_lt}
use Rattle.std.proofs.lemmas.Grind.{common_steps}
use Rattle.std.proofs.lemmas.Int.{to_z-of_z}
use Rattle.zs_reap.proofs.FirstLook.{nothing-seen}
use Rattle.zs_reap.proofs.moves.first_wants.Goals as goal

pub returns : goal.returns
returns c =
    let real : int_lt c.args.session (pos 1) ≡ false = first_of (search rules, grind (arith, common_steps)) in
    nothing-seen _ c.args.session _ c.in_ok-wants.wants (to_z-of_z w64 c.args.session c.ranges.session) real c.empty-nothing.ensures c.in_ok-wants.ensures.are
