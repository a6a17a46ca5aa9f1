-- The worlds that the lines of a script lead to.
use Rattle.std.specs.Prelude.{All, List}
use Rattle.zk_transcript.specs.Legal.{Tick}
use Rattle.zp_script.specs.Runs.{Runs}
use Rattle.zp_script.specs.Worlds.{World}
use Rattle.zp_verdict_laws.specs.Written.{NamesSession}
use Rattle.zp_world_laws.specs.Accounting.{IsWithinCounts}
use Rattle.zt_text.specs.declared.script.Happening.{Happening}

-- These happenings lead to this world. Each connection that they open offers a session's number and a password in their ranges, each
-- lapse names a session's number, and no connection's count of frames is at its end.
pub record Reached (happenings : List Happening) (w : World) : Type 0 where
  pub ticks : List Tick
  pub runs : Runs happenings ticks w
  pub names : All NamesSession happenings
  pub within : IsWithinCounts w
