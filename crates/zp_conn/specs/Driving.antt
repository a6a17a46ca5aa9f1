-- When the client's frames are handed in.
use Rattle.std.specs.Prelude.{◌≡◌, Bool, true, false, List, [], ◌∷◌}
use Rattle.zp_step.specs.declared.input.Input.{Input}
use Rattle.zp_step.specs.declared.input.Input.TheVariants as input
use Rattle.zp_step.specs.declared.wants.Wants.{Wants}
use Rattle.zp_step.specs.declared.wants.Wants.TheVariants as wants
use Rattle.zp_step.specs.Stages.{Core, wants_of}
use Rattle.zp_step.specs.Steps.{MayTake, Steps}
use Rattle.zp_run.specs.Runs.{Step}

abbrev pub awaits_frame : Wants → Bool
awaits_frame wants.Frame = true
awaits_frame (wants.FrameOrEntry cursor) = true
awaits_frame _ = false

-- a frame, a length out of range and the client's end come where a frame is wanted
abbrev pub IsTimely : Core → Input → Type 0
IsTimely c (input.Frame bytes) = awaits_frame (wants_of c) ≡ true
IsTimely c (input.BadLength place length) = awaits_frame (wants_of c) ≡ true
IsTimely c (input.ClientEnd place) = awaits_frame (wants_of c) ≡ true
IsTimely c _ = Unit {0}

-- from a core, by these steps in order, to a core; each input comes in time
abbrev pub Drives : Core → List Step → Core → Type 0
Drives c [] c' = c' ≡ c
Drives c (s ∷ ss) c' = (mid : Core) × IsTimely c s.input × MayTake c s.input × Steps c s.input s.time mid s.out × Drives mid ss c'
