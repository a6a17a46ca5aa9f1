-- What a whole world gives: its updates are one history of the service, and what each connection was sent is a walk of it.
use Rattle.std.specs.Prelude.{◌≡◌, ℕ, ◌+◌, true, List, Some}
use Rattle.zk_transcript.specs.Conversations.{IsServed, IsShownFresh, later_packets}
use Rattle.zk_transcript.specs.Legal.{Attachment, IsPunctual, Tick, attach_of, is_legal, is_ordered}
use Rattle.zk_transcript.specs.Walks.{IsWalk}
use Rattle.zk_transcript.specs.declared.transcript.TranscriptLine.{TranscriptLine}

pub record IsOneHistory (lines : List TranscriptLine) : Type 0 where
  -- each update is one that the service could make in the state before it, in the order of the zxids
  pub legal : is_legal lines ≡ true
  -- each request is carried out at most once, and those of a connection in order
  pub ordered : is_ordered lines ≡ true
  -- each frame's line shows the zxid of the last update before it
  pub shown : IsShownFresh lines
  -- after the welcome: some choices, fresh and in turn, give the packets, none of which stands before its due place
  pub walks : (c k : ℕ) (a : Attachment) → attach_of c lines ≡ Some (k, a) → IsWalk lines c a.session a.zxid (k + 1) (later_packets c lines)

-- What every run of a script gives, where its lines left these ticks: one history, made at times of the script's clock, in which
-- each connection is served, whatever became of it. That is, it was sent first the answer to its connect, after a welcome a walk
-- from its attachment on, and nothing after its close.
pub record IsServedRun (ticks : List Tick) (lines : List TranscriptLine) : Type 0 where
  pub history : IsOneHistory lines
  -- the time of a request's update is one of the clock's between its frame and itself
  pub punctual : IsPunctual ticks lines
  pub served : (c : ℕ) → IsServed lines c
