use Rattle.std.proofs.Common.{◌≡◌, ◌++◌, ◌∷◌, [], rules}
use Rattle.std.specs.Prelude.{Some, Option, IfSome}
use Rattle.std.proofs.lemmas.List.Elements.{All-push}
use Rattle.zp_script.specs.declared.flight.Asking.{Asking}
use Rattle.zp_world.specs.Flying.{IsFit}
use Rattle.zp_world.proofs.strays.Strays.leave.Goals as goal

pub invariant_of-self-2 : goal.invariant_of-self-2
invariant_of-self-2 c =
    let grown : c.push.new.self.items ≡ c.self.inside.left.items ++ Some c.args.asking ∷ [] = search rules in
    rw grown (All-push (λ (x : Option Asking). IfSome x IsFit) c.self.inside.left.items (Some c.args.asking) c.self.invariant c.requires)
