use Rattle.std.proofs.Common.{Bool, true, ◌≡◌, sym, subst}
use Rattle.std.specs.Prelude.{◌↔◌}
use Rattle.zn_view.specs.Adding.{AreNumbers}
use Rattle.zn_view.proofs.NumberTests.{numbers-told}
use Rattle.zn_view.proofs.numbers.are_numbers.Goals as goal

pub returns : goal.returns
returns c = subst (λ (b : Bool). (b ≡ true) ↔ AreNumbers c.args.parts.now) (sym c.all_counts.ensures) (numbers-told c.args.parts.now)
