-- The least connection whose conversation fails.
use Rattle.std.specs.Prelude.{◌≡◌, ℕ, ◌<◌, true, List, Option, Some, None, is_some, ⊤}
use Rattle.zk_transcript.specs.declared.transcript.TranscriptLine.{TranscriptLine}
use Rattle.zk_transcript.specs.History.{opening}

-- None where no number fails P, or the least that does
abbrev pub IsLeastFault : (ℕ → Type 0) → Option ℕ → Type 0
IsLeastFault P None = (c : ℕ) → P c
IsLeastFault P (Some c) = (P c → ⊥) × ((d : ℕ) → d < c → P d)

abbrev pub IsBelow : ℕ → Option ℕ → Type 0
IsBelow d None = ⊤
IsBelow d (Some c) = d < c

abbrev pub IsFault : (ℕ → Type 0) → Option ℕ → Type 0
IsFault P None = ⊤
IsFault P (Some c) = P c → ⊥

-- None where no connection that was opened fails P, or one that fails, below which none that was opened does
pub record IsLeastOpened (P : ℕ → Type 0) (lines : List TranscriptLine) (found : Option ℕ) : Type 0 where
  pub fails : IsFault P found
  pub passes : (d : ℕ) → is_some (opening d lines) ≡ true → IsBelow d found → P d

-- `least` is `found` after c was looked at too: it fails if `found` does, c passes where it is below it, and each number below it
-- is below `found`
pub record IsLesser (P : ℕ → Type 0) (c : ℕ) (found least : Option ℕ) : Type 0 where
  pub fails : IsFault P found → IsFault P least
  pub passes : IsBelow c least → P c
  pub before : (d : ℕ) → IsBelow d least → IsBelow d found
