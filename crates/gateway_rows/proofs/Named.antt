-- An address of one character.
use Rattle.std.proofs.Common.{◌≤◌, [], codes, arith}
use Rattle.std.proofs.lemmas.List.Elements.{All-cons, All-nil}
use Rattle.ev_call.specs.Addresses.{IsAddress}

pub named : IsAddress (codes "x")
named = (omega arith, All-cons (λ b. (33 ≤ b) × (b ≤ 126)) 120 [] (omega arith, omega arith) (All-nil (λ b. (33 ≤ b) × (b ≤ 126))))
