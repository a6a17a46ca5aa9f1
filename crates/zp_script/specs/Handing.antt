-- Something is handed to a connection or a reaper: it takes a step, which leaves its outcome in the world.
use Rattle.std.specs.Prelude.{◌≡◌, ◌⊎◌, ℕ, List, [], Option, Some, None}
use Rattle.ev_types.specs.declared.answer.Answer.{Answer}
use Rattle.zk_service.specs.declared.cause.Cause.TheVariants as cause
use Rattle.zk_transcript.specs.declared.transcript.TranscriptLine.{TranscriptLine}
use Rattle.zp_step.specs.declared.input.Input.{Input}
use Rattle.zp_step.specs.declared.input.Input.TheVariants as input
use Rattle.zp_step.specs.declared.action.Action.{Action}
use Rattle.zp_step.specs.Stages.{Core}
use Rattle.zp_step.specs.Steps.{Steps as CoreSteps}
use Rattle.zs_reap.specs.declared.reap.Reap.{Reap}
use Rattle.zs_reap.specs.declared.reap.ReapStep.{ReapStep}
use Rattle.zs_reap.specs.Steps.{ReaperSteps, IsReapFault}
use Rattle.zs_session.specs.declared.fault.StepFault.TheVariants as faults
use Rattle.zx_base.specs.Maps.{Bytes}
use Rattle.zp_script.specs.Worlds.{World, Conn, Actor, Connection, Reaper, Closed, conn_at, with_conn, after_step, after_reap}
use Rattle.zp_script.specs.Kinds.{kind_asked}
use Rattle.zp_script.specs.StepOutcomes.{acts_all, reap_acts, ended_by, leaves}

-- ---- to a connection

-- connection c is handed this input. If it closes, these lines of later frames, which arrived with this one, stand before its
-- `close` line
pub record Handed (c : ℕ) (after : List TranscriptLine) (w : World) (x : Input) (w' : World) : Type 0 where
  pub conn : Conn
  pub core : Core
  pub found : conn_at c w ≡ Some conn
  pub serving : conn.actor ≡ Connection core
  pub next : Core
  pub out : List Action
  pub stepped : CoreSteps core x w.clock next out
  pub result : w' ≡ leaves c w conn (after_step next) (acts_all c (kind_asked c (Connection next)) after conn.flight out)

-- ---- to a reaper; the first step takes no answer

pub record ReapSteps (c : ℕ) (w : World) (conn : Conn) (reap : Reap) (a : Option Answer) (w' : World) : Type 0 where
  pub step : ReapStep
  pub next : Reap
  pub stepped : ReaperSteps reap a step next
  pub result : w' ≡ leaves c w conn (after_reap next) (reap_acts c (kind_asked c (Reaper next)) conn.flight step)

-- a value was found that is no record, and the reaper ends
pub record ReapEnds (c : ℕ) (w : World) (conn : Conn) (reap : Reap) (a : Option Answer) (w' : World) : Type 0 where
  pub key : Bytes
  pub value : Bytes
  pub found : IsReapFault reap a (faults.Damaged key value)
  pub result : w' ≡ leaves c w conn Closed (ended_by c (cause.Damaged key value) conn.flight)

abbrev pub Reaps : ℕ → World → Option Answer → World → Conn → Reap → Type 0
Reaps c w a w' conn reap = ReapEnds c w conn reap a w' ⊎ ReapSteps c w conn reap a w'

-- ---- to either

-- the answer to its ask
abbrev pub AnswerComesTo : ℕ → World → Conn → Answer → World → Actor → Type 0
AnswerComesTo c w x a w' (Connection core) = Handed c [] w (input.Answer a) w'
AnswerComesTo c w x a w' (Reaper reap) = Reaps c w (Some a) w' x reap
AnswerComesTo c w x a w' Closed = ⊥

-- the news that its ask failed, at which a reaper ends too
abbrev pub FailureComesTo : ℕ → World → Conn → World → Actor → Type 0
FailureComesTo c w x w' (Connection core) = Handed c [] w input.Failed w'
FailureComesTo c w x w' (Reaper reap) = w' ≡ leaves c w x Closed (ended_by c cause.LinkFault x.flight)
FailureComesTo c w x w' Closed = ⊥

abbrev pub AnswerComes : ℕ → World → Answer → World → Type 0
AnswerComes c w a w' = (x : Conn) × (conn_at c w ≡ Some x) × AnswerComesTo c w x a w' x.actor

abbrev pub FailureComes : ℕ → World → World → Type 0
FailureComes c w w' = (x : Conn) × (conn_at c w ≡ Some x) × FailureComesTo c w x w' x.actor

-- its ask is no longer out
abbrev pub landed_conn : ℕ → World → Option Conn → World
landed_conn c w None = w
landed_conn c w (Some x) = with_conn w c (record x { flight = None })

abbrev pub landed : ℕ → World → World
landed c w = landed_conn c w (conn_at c w)
