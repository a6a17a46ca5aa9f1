-- What a sink tells of itself, and what holds of a source and a sink together.
use Rattle.std.specs.Prelude.{ℕ, Bool, List, Option}
use Rattle.zx_outside.specs.Counts.{InputCounts, OutputCounts}
use Rattle.ev_http.specs.Taking.{Told, told}

pub record SinkTold : Type 0 where
  pub taken : Option (List ℕ)
  pub counts : OutputCounts
  pub name : ℕ

abbrev pub sink_told : {K : Type 0} → (K → Option (List ℕ)) → (K → OutputCounts) → (K → ℕ) → K → SinkTold
sink_told taken counts name sink = record { taken = taken sink; counts = counts sink; name = name sink }

-- This holds of the two ends of a connection: of what a source and a sink tell before and after.
abbrev pub OfBothEnds : {S K : Type 0} → (Told → Told → SinkTold → SinkTold → Type 0)
    → (S → Option (List ℕ)) → (S → Option (List ℕ)) → (S → InputCounts) → (S → Bool) → (S → ℕ)
    → (K → Option (List ℕ)) → (K → OutputCounts) → (K → ℕ) → S → S → K → K → Type 0
OfBothEnds holds given left counts ended name taken written label source source' sink sink' =
    holds (told given left counts ended name source) (told given left counts ended name source')
    (sink_told taken written label sink) (sink_told taken written label sink')
