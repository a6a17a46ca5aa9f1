-- What holding the packets of a step makes of the outbox and of the trace.
use Rattle.std.specs.Prelude.{◌≡◌, ◌⊎◌, ℕ, true, List, ◌∷◌, ◌++◌, map, flat_map, Option, Some, None, Result, Ok, Err}
use Rattle.zx_base.specs.declared.memory.Memory.{Memory}
use Rattle.zp_step.specs.declared.action.Action.{Action}
use Rattle.zp_step.specs.Ending.{asked_by, ends_well, sends}
use Rattle.zp_run.specs.Notes.{Noted, Out, with_note, with_notes}
use Rattle.zp_run.specs.Runs.{closed_for}
use Rattle.zp_conn.specs.declared.speaking.Rest.{Rest}
use Rattle.zp_conn.specs.declared.speaking.Rest.TheVariants as rest

abbrev pub joined : List (List ℕ) → List ℕ
joined ps = flat_map (λ (p : List ℕ). p) ps

-- one packet is noted and held; or it is not held, and perhaps noted
abbrev pub Says : Result (Unit {0}) Memory → List ℕ → List ℕ → List ℕ → Option (List Noted) → Option (List Noted) → Type 0
Says (Ok _) p o o' n n' = (o' ≡ o ++ p) × (n' ≡ with_note n (Out p))
Says (Err _) p o o' n n' = (o' ≡ o) × ((n' ≡ n) ⊎ (n' ≡ with_note n (Out p)))

-- what is left of a step when its packets are held
abbrev pub IsRest : List Action → Rest → Type 0
IsRest out rest.Nothing = (asked_by out ≡ None) × (closed_for out ≡ None)
IsRest out (rest.Ask q) = (asked_by out ≡ Some q) × (closed_for out ≡ None)
IsRest out (rest.Close why) = (asked_by out ≡ None) × (closed_for out ≡ Some why)

-- these packets were noted and held
pub record HasSaid (done : List (List ℕ)) (o o' : List ℕ) (n n' : Option (List Noted)) : Type 0 where
  pub holds : o' ≡ o ++ joined done
  pub notes : n' ≡ with_notes n (map Out done)

-- memory was refused: some packets were noted and held, and the next one was not held, and perhaps noted
pub record IsCut (packets : List (List ℕ)) (o o' : List ℕ) (n n' : Option (List Noted)) : Type 0 where
  pub done : List (List ℕ)
  pub next : List ℕ
  pub later : List (List ℕ)
  pub split : packets ≡ done ++ next ∷ later
  pub mid_notes : Option (List Noted)
  pub said : HasSaid done o o' n mid_notes
  pub last : (n' ≡ mid_notes) ⊎ (n' ≡ with_note mid_notes (Out next))

abbrev pub Speaks : Result Rest Memory → List Action → List ℕ → List ℕ → Option (List Noted) → Option (List Noted) → Type 0
Speaks (Ok r) out o o' n n' = HasSaid (sends out) o o' n n' × IsRest out r
Speaks (Err _) out o o' n n' = IsCut (sends out) o o' n n'

-- the actions up to these were done
pub record IsSpeaking (out queue : List Action) (o o' : List ℕ) (n n' : Option (List Noted)) : Type 0 where
  pub done : List (List ℕ)
  pub sent : sends out ≡ done ++ sends queue
  pub asks : asked_by out ≡ asked_by queue
  pub closes : closed_for out ≡ closed_for queue
  pub well : ends_well queue ≡ true
  pub said : HasSaid done o o' n n'
