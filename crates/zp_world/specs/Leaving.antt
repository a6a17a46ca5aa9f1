-- What is out of a connection after a step.
use Rattle.std.specs.Prelude.{◌≡◌, true, false, List, fold, Option, Some, None}
use Rattle.ev_types.specs.declared.ask.Ask.{Ask}
use Rattle.zk_service.specs.declared.update.UpdateKind.{UpdateKind}
use Rattle.zp_script.specs.declared.flight.Flight.{Flight}
use Rattle.zp_script.specs.declared.flight.Flight.TheVariants.{Out}
use Rattle.zp_step.specs.Ending.{asked_by, closes, ends_well}
use Rattle.zp_step.specs.Stages.{Core, asked_of, is_shut}
use Rattle.zp_step.specs.declared.action.Action.{Action}
use Rattle.zp_step.specs.declared.action.Action.TheVariants as action
use Rattle.zp_world.specs.Flying.{IsFlyingOf}

-- an ask is out from then on, and after a close nothing is
abbrev pub next_flight : Option UpdateKind → Option Flight → Action → Option Flight
next_flight kind f (action.Send bytes) = f
next_flight kind f (action.Ask a) = Some (Out (record { ask = a; kind = kind }))
next_flight kind f (action.Close why) = None

abbrev pub flight_after : Option UpdateKind → Option Flight → List Action → Option Flight
flight_after kind f out = fold (next_flight kind) f out

-- a step to this core did this; where it neither asks nor closes, this stays out
pub record Leaves (flight : Option Flight) (core : Core) (out : List Action) : Type 0 where
  pub well : ends_well out ≡ true
  pub closes : closes out ≡ is_shut core.stage
  pub asks : (a : Ask) → asked_by out ≡ Some a → asked_of core.who core.stage ≡ Some a
  pub stays : is_shut core.stage ≡ false → asked_by out ≡ None → IsFlyingOf core flight
