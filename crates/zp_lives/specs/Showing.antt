-- What a transcript shows of one connection, its updates left out, and what a run of its steps would have it show.
use Rattle.std.specs.Prelude.{ℕ, ◌+◌, List, [], ◌∷◌, ◌++◌, ◌==◌, filter_map, Option, Some, None, if◌then◌else◌}
use Rattle.zk_transcript.specs.History.{when}
use Rattle.zk_service.specs.declared.cause.Ended.{Ended}
use Rattle.zk_service.specs.declared.cause.Ended.TheVariants as ended
use Rattle.zk_transcript.specs.declared.transcript.TranscriptLine.{TranscriptLine}
use Rattle.zk_transcript.specs.declared.transcript.TranscriptLine.TheVariants.{Frame as FrameLine, Send, Close}
use Rattle.zp_step.specs.declared.action.Action.{Action}
use Rattle.zp_step.specs.declared.action.Action.TheVariants as action
use Rattle.zp_step.specs.declared.input.Input.{Input}
use Rattle.zp_step.specs.declared.input.Input.TheVariants as input
use Rattle.zp_step.specs.Ending.{closes}
use Rattle.zp_run.specs.Runs.{Step}

-- a frame came, with its index; a packet was sent; the connection ended
pub data Shown : Type 0 where
  Came : (index : ℕ) (bytes : List ℕ) → Shown
  Sent : (bytes : List ℕ) → Shown
  Ends : (end : Ended) → Shown

-- ---- by a transcript

abbrev pub shown_by : ℕ → TranscriptLine → Option Shown
shown_by c (FrameLine d i z bytes) = when (c == d) (Came i bytes)
shown_by c (Send d bytes) = when (c == d) (Sent bytes)
shown_by c (Close d end) = when (c == d) (Ends end)
shown_by c _ = None

abbrev pub shown_of : ℕ → List TranscriptLine → List Shown
shown_of c lines = filter_map (shown_by c) lines

-- ---- by steps

-- those up to the one that closes the connection: what is handed in after it changes nothing
abbrev pub until_close : List Step → List Step
until_close [] = []
until_close (s ∷ steps) = s ∷ (if closes s.out then [] else until_close steps)

abbrev pub shown_in : ℕ → Input → List Shown
shown_in i (input.Frame bytes) = Came i bytes ∷ []
shown_in i _ = []

abbrev pub index_after : ℕ → Input → ℕ
index_after i (input.Frame bytes) = i + 1
index_after i _ = i

abbrev pub shown_act : Action → Option Shown
shown_act (action.Send bytes) = Some (Sent bytes)
shown_act (action.Ask a) = None
shown_act (action.Close why) = Some (Ends (ended.Cause why))

-- each frame, with its index from this one on, then the packets that the step gave and, where it closed the connection, the end
abbrev pub shown_from : ℕ → List Step → List Shown
shown_from i [] = []
shown_from i (s ∷ steps) = shown_in i s.input ++ filter_map shown_act s.out ++ shown_from (index_after i s.input) steps
