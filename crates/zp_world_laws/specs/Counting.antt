-- What is known of an open connection in whatever stage: its own lines, and its frames.
use Rattle.std.specs.Prelude.{List, None, Some, [], ℕ, ◌≡◌, ◌≤◌}
use Rattle.zk_service.specs.declared.fresh.Fresh.{Fresh}
use Rattle.zk_transcript.specs.Conversations.{close_shown}
use Rattle.zk_transcript.specs.History.{first_place, opening}
use Rattle.zk_transcript.specs.Walks.{placed_frame}
use Rattle.zk_transcript.specs.declared.transcript.TranscriptLine.{TranscriptLine}
use Rattle.zp_step.specs.Ending.{IsNumbered}
use Rattle.zp_step.specs.Stages.{next_frame, Core, Ready, max_count}

-- it has its `open` line and no `close` line, and no frame from index `frames` on has a line
pub record IsLined (lines : List TranscriptLine) (c frames : ℕ) : Type 0 where
  pub offer : Fresh
  pub opened : opening c lines ≡ Some offer
  pub unended : first_place (close_shown c) 0 lines ≡ None
  pub to_come : (i : ℕ) → frames ≤ i → placed_frame c i lines ≡ None

-- so many frames came, each of which was taken up or waits
pub record HasFrames (lines : List TranscriptLine) (c frames : ℕ) (core : Core) : Type 0 where
  pub lined : IsLined lines c frames
  pub numbered : IsNumbered core core.stage
  pub came : next_frame core ≡ frames
  pub most : frames ≤ max_count
  -- none waits while it is ready
  pub rested : core.stage ≡ Ready → core.waiting ≡ []
