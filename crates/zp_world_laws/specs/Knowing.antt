-- What is known of each number: of a connection in each stage, and of a reaper; of one that has ended, that its `close` line
-- stands; and one that was never used is named by no line.
use Rattle.ev_types.specs.Store.{Store}
use Rattle.std.specs.Prelude.{Contains, List, None, Some, true, ℕ, ◌≡◌}
use Rattle.zk_service.specs.declared.cause.Ended.{Ended}
use Rattle.zk_transcript.specs.declared.transcript.TranscriptLine.TheVariants.{Close}
use Rattle.zk_transcript.specs.declared.transcript.TranscriptLine.{TranscriptLine}
use Rattle.zp_script.specs.Worlds.{Actor, Closed, Conn, Connection, Reaper, World, conn_at}
use Rattle.zp_world_laws.specs.Connecting.{IsInStage}
use Rattle.zp_world_laws.specs.Counting.{HasFrames}
use Rattle.zp_world_laws.specs.Naming.{is_unnamed}
use Rattle.zp_world_laws.specs.Reaping.{IsReapFlight}

abbrev pub HasClose : List TranscriptLine → ℕ → Type 0
HasClose lines c = (end : Ended) × Contains lines (Close c end)

abbrev pub IsKnownAs : Store → List TranscriptLine → ℕ → Conn → Actor → Type 0
IsKnownAs store lines c x (Connection core) = HasFrames lines c x.frames core × IsInStage store lines c core x.flight core.stage
IsKnownAs store lines c x (Reaper reap) = IsReapFlight store reap x.flight
IsKnownAs store lines c x Closed = HasClose lines c

pub record Known (w : World) : Type 0 where
  pub used : (c : ℕ) (x : Conn) → conn_at c w ≡ Some x → IsKnownAs w.store w.lines c x x.actor
  pub unused : (c : ℕ) → conn_at c w ≡ None → is_unnamed c w.lines ≡ true
