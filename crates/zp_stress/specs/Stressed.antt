-- What is claimed of the run of a schedule.
use Rattle.std.specs.Prelude.{◌≡◌, ℕ, List}
use Rattle.zk_judge.specs.Verdicts.{IsVerdict}
use Rattle.zk_judge.specs.declared.verdict.Verdict.TheVariants.{Lawful}
use Rattle.zk_transcript.specs.Legal.{Tick}
use Rattle.zp_script.specs.Runs.{Runs}
use Rattle.zp_script.specs.Worlds.{World}
use Rattle.zp_world_laws.specs.Giving.{IsServedRun}
use Rattle.zt_text.specs.declared.script.Happening.{Happening}
use Rattle.zp_clients.specs.declared.summary.Summary.{Summary}
use Rattle.zp_stress.specs.Schedules.{IsScheduled}
use Rattle.zp_clients.specs.Summaries.{summary_of}

-- The schedule of these numbers led to a world, and the summary counts its lines.
pub record IsStressed (number connections steps : ℕ) (s : Summary) : Type 0 where
  pub world : World
  pub scheduled : IsScheduled number connections steps world
  pub counted : s ≡ summary_of steps world.lines
  -- the lines of the schedule that were possible are a script, whose run this is
  pub happenings : List Happening
  pub ticks : List Tick
  pub runs : Runs happenings ticks world
  -- the run is one history of the service, in which each connection is served
  pub served : IsServedRun ticks world.lines
  -- the verdict on its lines is lawful
  pub lawful : IsVerdict world.lines Lawful
