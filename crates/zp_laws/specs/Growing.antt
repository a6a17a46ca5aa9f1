-- What leaves an attached core where it stands: further lines of the transcript and further revisions of the store.
use Rattle.std.specs.Prelude.{◌≡◌, ℕ, Bool, true, List, ◌++◌}
use Rattle.ev_types.specs.Store.{Store}
use Rattle.zk_transcript.specs.Legal.{is_legal}
use Rattle.zk_transcript.specs.Walks.{Walker, is_not_overtaken, own_update}
use Rattle.zk_transcript.specs.declared.transcript.TranscriptLine.{TranscriptLine}
use Rattle.zp_step.specs.Stages.{Core, Pending, Ready, Waiting}
use Rattle.zp_laws.specs.Inputs.{Precedes}
use Rattle.zp_laws.specs.Standing.{IsFreshLook, Stands, is_ahead}

pub record Grows (store store' : Store) (lines more : List TranscriptLine) (conn : ℕ) (c : Core) : Type 0 where
  pub legal : is_legal lines ≡ true
  pub still_legal : is_legal (lines ++ more) ≡ true
  pub before : Precedes store store'
  -- the request of a reply that waits keeps its line, or still has none; no request after the next one has a line, nor has the
  -- next one where the core is ready
  pub own : (p : Pending) → c.stage ≡ Waiting p → own_update conn c.next (lines ++ more) ≡ own_update conn c.next lines
  pub turn : is_not_overtaken (lines ++ more) conn c.next ≡ true
  pub ahead : c.stage ≡ Ready → is_ahead (lines ++ more) conn c.next ≡ true

abbrev pub StandingLasts : Type 0
StandingLasts = (store store' : Store) (lines more : List TranscriptLine) (conn : ℕ) (c : Core) (w : Walker) (looked : ℕ)
    → Grows store store' lines more conn c → Stands store lines conn c w looked → Stands store' (lines ++ more) conn c w looked

-- what was seen after the line of its frame stays so: the frame has its line
abbrev pub FreshnessLasts : Type 0
FreshnessLasts = (store : Store) (lines more : List TranscriptLine) (conn : ℕ) (answered : Bool) (c : Core) (w : Walker) (looked : ℕ)
    → Stands store lines conn c w looked → IsFreshLook lines conn answered c looked → IsFreshLook (lines ++ more) conn answered c looked
