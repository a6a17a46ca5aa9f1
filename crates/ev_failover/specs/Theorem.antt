-- What holds of each call over several endpoints.
use Rattle.std.specs.Prelude.{◌≡◌, ◌⊎◌, ℕ, ◌<◌, false, List, [], ◌∷◌, ◌++◌, length, All, Option, Some, Result, Ok, Err, slice_index}
use Rattle.ev_types.specs.Denials.{carry}
use Rattle.ev_types.specs.Store.{Store}
use Rattle.ev_types.specs.declared.answer.Answer.{Answer}
use Rattle.ev_types.specs.declared.ask.Ask.{Ask}
use Rattle.ev_failover.specs.Endpoints.{Sent, with_sent}
use Rattle.ev_failover.specs.Reading.{is_reading}
use Rattle.ev_failover.specs.declared.endpoints.EndFault.{EndFault}
use Rattle.ev_failover.specs.declared.endpoints.EndFault.TheVariants as fault

-- nothing was sent, or the ask to one endpoint, once
abbrev pub SendsOnce : Ask → Option (List Sent) → Option (List Sent) → Type 0
SendsOnce q before after = (after ≡ before) ⊎ ((e : ℕ) × (after ≡ with_sent before e q))

-- no number stands in the list twice
abbrev pub NoneTwice : List ℕ → Type 0
NoneTwice es = (i j : ℕ) → i < j → j < length es → slice_index es i ≡ slice_index es j → ⊥

-- the endpoint gave no answer, and memory was not refused
abbrev pub IsFault : Result Answer EndFault → Type 0
IsFault (Ok a) = ⊥
IsFault (Err fault.NotSent) = Unit {0}
IsFault (Err fault.Failed) = Unit {0}
IsFault (Err fault.Memory) = ⊥

-- An ask that does not only read was sent, as the last try, and failed; or each endpoint was tried, and none answered.
abbrev pub FailsOnly : Ask → ℕ → List (Result Answer EndFault) → Type 0
FailsOnly q size tries =
    ((is_reading q ≡ false) × ((earlier : List (Result Answer EndFault)) × (tries ≡ earlier ++ Err fault.Failed ∷ [])))
    ⊎ ((length tries ≡ size) × All IsFault tries)

-- ---- endpoints of one store that nobody else changes

-- an answer is what the store gives; a call that was not sent changed nothing; what was asked by one that failed, or ran out of
-- memory, was carried out or was not
abbrev pub CarriesEnd : Store → Ask → Result Answer EndFault → Store → Type 0
CarriesEnd s q (Ok a) t = carry s q ≡ Some (t, a)
CarriesEnd s q (Err fault.NotSent) t = t ≡ s
CarriesEnd s q (Err _) t = (t ≡ s) ⊎ ((a : Answer) × (carry s q ≡ Some (t, a)))

-- each call of an endpoint does so, by what the endpoints came to and by the store that they have
abbrev pub AreOfOneStore : {E : Type 0} → (E → ℕ → Ask → Result Answer EndFault → E → Type 0) → (E → Store) → Ask → Type 0
AreOfOneStore {E} came store q = (a b : E) (e : ℕ) (r : Result Answer EndFault) → came a e q r b → CarriesEnd (store a) q r (store b)
