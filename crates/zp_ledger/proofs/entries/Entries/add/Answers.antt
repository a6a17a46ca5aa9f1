use Rattle.std.proofs.Common.{◌≡◌, ◌+◌, ◌++◌, ◌∷◌, [], length, rules, arith}
use Rattle.std.specs.Prelude.{map, pos}
use Rattle.std.specs.Arc.{arc_value}
use Rattle.std.proofs.lemmas.Int.{ints}
use Rattle.std.proofs.lemmas.List.{map-append, length-map}
use Rattle.zp_ledger.proofs.Numbered.{numbered-push}
use Rattle.zp_ledger.proofs.entries.Entries.add.Goals as goal

pub invariant_of-self : goal.invariant_of-self
invariant_of-self c =
    let same : c.push.new.self.items ≡ c.self.inside.shared.items = search rules in
    rw same c.self.invariant

pub invariant_of-self-2 : goal.invariant_of-self-2
invariant_of-self-2 c =
    let grown : c.push.new.self.items ≡ c.self.inside.shared.items ++ c.in_ok-shared.shared ∷ [] = search rules in
    let is : arc_value c.in_ok-shared.shared ≡ c.in_ok-entry.entry = search rules in
    let number : c.in_ok-entry.entry.number ≡ pos (length (map arc_value c.self.inside.shared.items) + 1) = rw length-map (grind (arith, ints, c.in_ok-entry.ensures.number, c.len.ensures)) in
    rw grown (rw map-append (rw is (numbered-push _ _ c.self.invariant (record { number = number; told = c.in_ok-entry.ensures.within }))))
