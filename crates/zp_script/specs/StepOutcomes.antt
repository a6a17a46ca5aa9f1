-- What a step leaves in the world.
use Rattle.std.specs.Prelude.{ℕ, List, [], ◌∷◌, ◌++◌, fold, Option, Some, None}
use Rattle.zk_service.specs.declared.cause.Cause.{Cause}
use Rattle.zk_service.specs.declared.cause.Ended.{Ended}
use Rattle.zk_service.specs.declared.cause.Ended.TheVariants as ended
use Rattle.zk_service.specs.declared.update.UpdateKind.{UpdateKind}
use Rattle.zk_transcript.specs.declared.transcript.TranscriptLine.{TranscriptLine}
use Rattle.zk_transcript.specs.declared.transcript.TranscriptLine.TheVariants.{Send, Close}
use Rattle.zp_step.specs.declared.action.Action.{Action}
use Rattle.zp_step.specs.declared.action.Action.TheVariants as action
use Rattle.zs_reap.specs.declared.reap.ReapStep.{ReapStep}
use Rattle.zs_reap.specs.declared.reap.ReapStep.TheVariants as reaped
use Rattle.zp_script.specs.declared.flight.Asking.{Asking}
use Rattle.zp_script.specs.declared.flight.Flight.{Flight}
use Rattle.zp_script.specs.declared.flight.Flight.TheVariants.{Out, Carried, Denied}
use Rattle.zp_script.specs.Worlds.{World, Conn, Actor, with_conn}

-- what is out then, what is shown, and what may still be carried out although its asker has ended
pub record StepOutcome : Type 0 where
  pub flight : Option Flight
  pub lines : List TranscriptLine
  pub strays : List (Option Asking)

abbrev pub quiet : Option Flight → StepOutcome
quiet flight = record { flight = flight; lines = []; strays = [] }

-- the ask of one that ends, where it was not carried out
abbrev pub left_by : Option Flight → List (Option Asking)
left_by None = []
left_by (Some (Out asking)) = Some asking ∷ []
left_by (Some (Carried a)) = []
left_by (Some Denied) = []

-- the end of c; these lines stand before its `close` line
abbrev pub ends : ℕ → List TranscriptLine → Ended → StepOutcome → StepOutcome
ends c after end o = record { flight = None; lines = o.lines ++ after ++ Close c end ∷ []; strays = o.strays ++ left_by o.flight }

-- an action of a connection; what it asks is an update of this kind, or none
abbrev pub acts : ℕ → Option UpdateKind → List TranscriptLine → StepOutcome → Action → StepOutcome
acts c kind after o (action.Send bytes) = record o { lines = o.lines ++ Send c bytes ∷ [] }
acts c kind after o (action.Ask a) = record o { flight = Some (Out (record { ask = a; kind = kind })) }
acts c kind after o (action.Close why) = ends c after (ended.Cause why) o

-- all its actions, in order
abbrev pub acts_all : ℕ → Option UpdateKind → List TranscriptLine → Option Flight → List Action → StepOutcome
acts_all c kind after flight out = fold (acts c kind after) (quiet flight) out

-- what a reaper's step answers
abbrev pub reap_acts : ℕ → Option UpdateKind → Option Flight → ReapStep → StepOutcome
reap_acts c kind flight (reaped.Ask a) = quiet (Some (Out (record { ask = a; kind = kind })))
reap_acts c kind flight (reaped.Reaped z) = ends c [] (ended.Reaped z) (quiet flight)
reap_acts c kind flight (reaped.Kept rev) = ends c [] (ended.Kept rev) (quiet flight)
reap_acts c kind flight (reaped.Gone rev) = ends c [] (ended.Gone rev) (quiet flight)

-- an end by a cause alone
abbrev pub ended_by : ℕ → Cause → Option Flight → StepOutcome
ended_by c why flight = ends c [] (ended.Cause why) (quiet flight)

-- c, which was `x`, is now this actor and has the outcome's flight; the outcome's lines and strays are added
abbrev pub leaves : ℕ → World → Conn → Actor → StepOutcome → World
leaves c w x actor o =
    let conn : Conn = record x { actor = actor; flight = o.flight } in
    record (with_conn w c conn) { lines = w.lines ++ o.lines; strays = w.strays ++ o.strays }
