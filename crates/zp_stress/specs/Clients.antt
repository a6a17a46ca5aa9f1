-- The lines by which clients open and connect, and those by which all are settled.
use Rattle.std.specs.Prelude.{ℕ, zero, suc, ◌+◌, ◌%◌, pos, List, [], ◌∷◌, ◌++◌, replicate}
use Rattle.zk_model.specs.declared.layout.Layout.TheVariants.{Two}
use Rattle.zt_text.specs.declared.script.Happening.{Happening}
use Rattle.zt_text.specs.declared.script.Happening.TheVariants as line
use Rattle.zp_clients.specs.Wishes.{connect_packet}

-- connection i opens at one of three proxies, with session number i and a password of 16 bytes
abbrev pub open_line : ℕ → Happening
open_line i = line.Open i (1 + i % 3) (pos i) (replicate 16 (i % 256)) Two

-- it opens, connects, and is settled
abbrev pub opening : ℕ → List Happening
opening i = open_line i ∷ line.Arrive i connect_packet ∷ line.Settle i ∷ []

-- n connections open, the first of them number i
abbrev pub openings : ℕ → ℕ → List Happening
openings zero i = []
openings (suc n) i = opening i ++ openings n (i + 1)

-- n connections are settled, the first of them number i
abbrev pub settlings : ℕ → ℕ → List Happening
settlings zero i = []
settlings (suc n) i = line.Settle i ∷ settlings n (i + 1)
