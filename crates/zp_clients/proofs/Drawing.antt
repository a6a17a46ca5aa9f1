-- What a step draws names one of the connections.
use Rattle.std.proofs.Common.{ℕ, ◌<◌, arith}
use Rattle.std.proofs.lemmas.Nat.{mod_below}
use Rattle.rand_pcg.specs.Lcg.{Lcg}
use Rattle.rand_pcg.specs.Pcg.{pcg32}
use Rattle.zp_clients.specs.Draws.{IsInRange, after, drawn}

pub drawn_in_range : (n : ℕ) (g : Lcg) → 0 < n → IsInRange (drawn n g) n
drawn_in_range n g some = record {
  least = omega arith;
  most = omega (arith, mod_below (pcg32 g).0 n some);
  path = mod_below (pcg32 (after (after g))).0 20 (omega arith);
}
