-- The addresses that a link asks.
use Rattle.std.specs.Prelude.{ℕ, ◌<◌, ◌≤◌, All, List, length}

-- a host and its port, or another address: one or more bytes of visible ASCII
abbrev pub IsAddress : List ℕ → Type 0
IsAddress host = (0 < length host) × All (λ b. (33 ≤ b) × (b ≤ 126)) host
