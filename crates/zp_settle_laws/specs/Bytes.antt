-- The bytes of the frames that a connection was sent.
use Rattle.std.specs.Prelude.{ℕ, ◌+◌, ◌≤◌, ◌==◌, ◌⊎◌, List, [], ◌∷◌, length, Option, None, Some, if◌then◌else◌}
use Rattle.zk_transcript.specs.declared.transcript.TranscriptLine.TheVariants.{Frame as FrameLine}
use Rattle.zk_transcript.specs.declared.transcript.TranscriptLine.{TranscriptLine}
use Rattle.zp_script.specs.Worlds.{Conn, World, conn_at}
use Rattle.zp_step.specs.Stages.{max_count}

-- the bytes of a line that shows a frame of c
abbrev pub bytes_in : ℕ → TranscriptLine → ℕ
bytes_in c (FrameLine d i zxid bytes) = if c == d then length bytes else 0
bytes_in c _ = 0

-- the bytes of all frames of c that these lines show
abbrev pub bytes_shown : ℕ → List TranscriptLine → ℕ
bytes_shown c [] = 0
bytes_shown c (l ∷ ls) = bytes_in c l + bytes_shown c ls

-- how many bytes came before those that are no whole frame yet
abbrev pub place_of : Option Conn → ℕ
place_of None = 0
place_of (Some x) = x.stream.place

abbrev pub place_at : ℕ → World → ℕ
place_at c w = place_of (conn_at c w)

-- each connection's stream has counted at least the bytes of its frames, unless its count has come to the end of 64 bits
pub record CountsBytes (w : World) : Type 0 where
  pub each : (c : ℕ) → (bytes_shown c w.lines ≤ place_at c w) ⊎ (max_count ≤ place_at c w)
