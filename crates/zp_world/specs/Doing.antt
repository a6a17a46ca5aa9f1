-- What is done with a connection or a reaper that is held apart from its world while it takes a step.
use Rattle.std.specs.Prelude.{◌≡◌, ℕ, List, Option, None, [], ◌∷◌, ◌++◌}
use Rattle.std.specs.FinMap.{remove}
use Rattle.ev_types.specs.declared.answer.Answer.{Answer}
use Rattle.zk_service.specs.declared.cause.Ended.{Ended}
use Rattle.zk_transcript.specs.declared.transcript.TranscriptLine.{TranscriptLine}
use Rattle.zk_transcript.specs.declared.transcript.TranscriptLine.TheVariants as line
use Rattle.zp_script.specs.declared.flight.Flight.{Flight}
use Rattle.zp_script.specs.Arriving.{frame_lines}
use Rattle.zp_script.specs.Handing.{Reaps}
use Rattle.zp_script.specs.Kinds.{kind_asked}
use Rattle.zp_script.specs.StepOutcomes.{StepOutcome, acts_all, leaves, left_by}
use Rattle.zp_script.specs.Worlds.{Actor, Conn, Connection, Closed, World, after_step, with_conn}
use Rattle.zp_step.specs.Stages.{Core}
use Rattle.zp_step.specs.Steps.{Steps}
use Rattle.zp_step.specs.declared.action.Action.{Action}
use Rattle.zp_step.specs.declared.input.Input.{Input}
use Rattle.zs_reap.specs.declared.reap.Reap.{Reap}
use Rattle.zp_world.specs.declared.activity.Seat.{Seat}
use Rattle.zp_world.specs.declared.arriving.Arrival.{Arrival}

-- who sits there, and what of it is out
abbrev pub seated : Seat → Actor → Option Flight → Conn
seated seat actor flight = record { proxy = seat.proxy; actor = actor; stream = seat.inbox; frames = seat.frames; flight = flight }

-- nobody sits there any more, and nothing is out
abbrev pub left : Seat → Conn
left seat = seated seat Closed None

-- the world without what answers to a number, which is held apart
abbrev pub without : ℕ → World → World
without c w = record w { conns = remove w.conns c }

-- its end is shown, and nothing is done under the number any more; what was out of it may be carried out later
abbrev pub ended : ℕ → World → Seat → Ended → Option Flight → World
ended c w seat end flight = with_conn (record w { lines = w.lines ++ line.Close c end ∷ []; strays = w.strays ++ left_by flight }) c (left seat)

-- ---- a connection

-- the lines of the frames that came with its last one; the first of them has this index
abbrev pub lines_after : Arrival → ℕ → List (List ℕ) → List TranscriptLine
lines_after a first frames = frame_lines a.connection first a.zxid frames

-- What the actions of a step that ends at this core come to. The flight is what was out before the step. The frames came after the one
-- that it took, and the first of them has this index.
abbrev pub outcome : Arrival → Core → ℕ → List (List ℕ) → Option Flight → List Action → StepOutcome
outcome a core first frames flight out = acts_all a.connection (kind_asked a.connection (Connection core)) (lines_after a first frames) flight out

-- The world after a step that ends at this core, of a connection that was held apart: the lines and the strays of its actions are added,
-- and under its number stand who serves it then and what it has out. x is any record of its seat; its count of frames is the index of the
-- first frame after the one that was taken.
abbrev pub acted : Arrival → World → Conn → Core → List (List ℕ) → Option Flight → List Action → World
acted a w x core frames flight out = leaves a.connection w x (after_step core) (outcome a core x.frames frames flight out)

-- a connection of number c that is held apart, with this flight, takes a step, and what it does is done; x is any record of its seat
pub record Stepped (c : ℕ) (after : List TranscriptLine) (w : World) (x : Conn) (core : Core) (flight : Option Flight) (input : Input) (w' : World) : Type 0 where
  pub next : Core
  pub out : List Action
  pub stepped : Steps core input w.clock next out
  pub result : w' ≡ leaves c w x (after_step next) (acts_all c (kind_asked c (Connection next)) after flight out)

-- ---- a reaper

-- a reaper that is held apart takes a step, with nothing out before it; x is any record of its seat
abbrev pub ReapsFrom : ℕ → World → Seat → Option Answer → World → Reap → Type 0
ReapsFrom c w seat a w' reap = (x : Conn) → x.proxy ≡ seat.proxy → x.stream ≡ seat.inbox → x.frames ≡ seat.frames → x.flight ≡ None → Reaps c w a w' x reap
