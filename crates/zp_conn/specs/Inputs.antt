-- Which inputs the driver has for a connection.
use Rattle.std.specs.Prelude.{◌≡◌}
use Rattle.std.specs.Arc.{arc_value}
use Rattle.std.specs.Prelude.{ℤ, pos, ◌+ℤ◌, ◌<ℤ◌}
use Rattle.ev_types.specs.declared.ask.Ask.{Ask}
use Rattle.ev_call.specs.Fitting.{Fits}
use Rattle.zp_step.specs.Stages.{Core}
use Rattle.zp_step.specs.Steps.{MayTake}
use Rattle.zp_step.specs.declared.input.Input.TheVariants as input
use Rattle.zp_conn.specs.Driving.{IsTimely}
use Rattle.zp_conn.specs.declared.inputs.Next.{Next}
use Rattle.zp_conn.specs.declared.inputs.Next.TheVariants as next

-- it may be handed in
abbrev pub IsAllowed : Core → Next → Type 0
IsAllowed c (next.Input x) = MayTake c x
IsAllowed c _ = Unit {0}

-- it comes in time
abbrev pub IsInTime : Core → Next → Type 0
IsInTime c (next.Input x) = IsTimely c x
IsInTime c _ = Unit {0}

-- an answer that fits what was asked, or a failure
abbrev pub IsAnswered : Ask → Next → Type 0
IsAnswered q (next.Input (input.Answer a)) = Fits q a
IsAnswered q (next.Input input.Failed) = Unit {0}
IsAnswered q (next.Ended why) = Unit {0}
IsAnswered q _ = ⊥

-- the entry after the cursor, a lag, or the feed's end
abbrev pub IsFedIn : ℤ → Next → Type 0
IsFedIn cursor (next.Input (input.Entry e)) = (arc_value e).number ≡ cursor +ℤ pos 1
IsFedIn cursor (next.Input (input.Lagged was floor)) = (was ≡ cursor) × (was <ℤ floor)
IsFedIn cursor (next.Input input.FeedClosed) = Unit {0}
IsFedIn cursor next.Idle = Unit {0}
IsFedIn cursor (next.Ended why) = Unit {0}
IsFedIn cursor _ = ⊥
