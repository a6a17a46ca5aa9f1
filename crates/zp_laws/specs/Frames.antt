-- The frames of a connection in a transcript, and in a core: each one has an index, the connect 0.
use Rattle.std.specs.Prelude.{◌≡◌, ℕ, ℤ, ◌+◌, ◌<◌, true, List, [], ◌∷◌, Some}
use Rattle.zk_jute.specs.Requests.{Asks, read_request}
use Rattle.zk_model.specs.declared.request.Request.{Request}
use Rattle.zk_service.specs.Answers.{has_header}
use Rattle.zk_transcript.specs.Walks.{placed_frame}
use Rattle.zk_transcript.specs.declared.transcript.TranscriptLine.{TranscriptLine}
use Rattle.zp_step.specs.Stages.{Stage, KeepingAlive, Checking, Reading, Committing, max_count}

-- ---- in a transcript

-- frame i of a connection, which has a header; i is below 2^64 - 1
pub record IsFrameAt (lines : List TranscriptLine) (conn i : ℕ) (bytes : List ℕ) : Type 0 where
  pub place : ℕ
  pub framed : placed_frame conn i lines ≡ Some (place, bytes)
  pub header : has_header (read_request bytes) ≡ true
  pub small : i < max_count

pub record IsRequestAt (lines : List TranscriptLine) (conn i : ℕ) (xid : ℤ) (r : Request) : Type 0 where
  pub bytes : List ℕ
  pub frame : IsFrameAt lines conn i bytes
  pub reads : read_request bytes ≡ Asks xid r

-- these are the frames from index i on
abbrev pub AreFrames : List TranscriptLine → ℕ → ℕ → List (List ℕ) → Type 0
AreFrames lines conn i [] = Unit {0}
AreFrames lines conn i (f ∷ fs) = IsFrameAt lines conn i f × AreFrames lines conn (i + 1) fs

-- ---- in a core

-- the frame at work, if there is one, is frame i of the transcript
abbrev pub IsAtWork : List TranscriptLine → ℕ → ℕ → Stage → Type 0
IsAtWork lines conn i (KeepingAlive bytes) = IsFrameAt lines conn i bytes
IsAtWork lines conn i (Checking bytes) = IsFrameAt lines conn i bytes
IsAtWork lines conn i (Reading xid r v ws) = IsRequestAt lines conn i xid r
IsAtWork lines conn i (Committing xid r v p time) = IsRequestAt lines conn i xid r
IsAtWork lines conn i _ = Unit {0}
