-- The generator, and what one step draws from it.
use Rattle.std.specs.Prelude.{ℕ, ◌+◌, ◌%◌, ◌<◌, ◌≤◌}
use Rattle.rand_core.specs.Pcg32Seed.{pcg32_seed}
use Rattle.rand_pcg.specs.Lcg.{Lcg}
use Rattle.rand_pcg.specs.Pcg.{pcg32, pcg32_of_seed}
use Rattle.zp_clients.specs.declared.draw.Draw.{Draw}

-- PCG32 (O'Neill, XSH RR 64/32), seeded as `rand` does by `seed_from_u64`
abbrev pub seeded : ℕ → Lcg
seeded number = pcg32_of_seed (pcg32_seed 16 number)

-- the next word, modulo n
abbrev pub below : ℕ → Lcg → ℕ
below n g = (pcg32 g).0 % n

-- the generator after one word
abbrev pub after : Lcg → Lcg
after g = (pcg32 g).1

-- a step draws three words: one for the connection, of which there are so many, one for its kind and one for its path
abbrev pub drawn : ℕ → Lcg → Draw
drawn connections g = record {
  connection = 1 + below connections g;
  kind = below 10 (after g);
  path = below 20 (after (after g));
}

abbrev pub after_draw : Lcg → Lcg
after_draw g = after (after (after g))

-- the draw names one of so many connections, and a path
pub record IsInRange (x : Draw) (connections : ℕ) : Type 0 where
  pub least : 1 ≤ x.connection
  pub most : x.connection ≤ connections
  pub path : x.path < 20
