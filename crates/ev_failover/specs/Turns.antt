-- One call over several endpoints: which are tried, in which order, and when it goes on to the next.
use Rattle.std.specs.Prelude.{◌≡◌, ℕ, ◌+◌, ◌≤◌, nat_lt, if◌then◌else◌, Bool, true, false, List, [], ◌∷◌, ◌++◌, length, All, Option, Result, Ok, Err}
use Rattle.ev_types.specs.declared.answer.Answer.{Answer}
use Rattle.ev_types.specs.declared.ask.Ask.{Ask}
use Rattle.ev_call.specs.declared.etcd.CallFault.{CallFault}
use Rattle.ev_call.specs.declared.etcd.CallFault.TheVariants as call
use Rattle.ev_failover.specs.Endpoints.{IsSentBy, Sent}
use Rattle.ev_failover.specs.Reading.{is_reading}
use Rattle.ev_failover.specs.declared.endpoints.EndFault.{EndFault}
use Rattle.ev_failover.specs.declared.endpoints.EndFault.TheVariants as fault

-- ---- the current endpoint

-- the next one; after the last the first
abbrev pub next_of : ℕ → ℕ → ℕ
next_of size e = if nat_lt (e + 1) size then e + 1 else 0

-- the current endpoint after a try of it: the next one, unless it answered or memory was refused
abbrev pub place_after : ℕ → ℕ → Result Answer EndFault → ℕ
place_after size e (Ok a) = e
place_after size e (Err fault.NotSent) = next_of size e
place_after size e (Err fault.Failed) = next_of size e
place_after size e (Err fault.Memory) = e

-- after tries that came to these
abbrev pub places_after : ℕ → ℕ → List (Result Answer EndFault) → ℕ
places_after size e [] = e
places_after size e (r ∷ rs) = places_after size (place_after size e r) rs

-- the endpoints of such tries
abbrev pub places : ℕ → ℕ → List (Result Answer EndFault) → List ℕ
places size e [] = []
places size e (r ∷ rs) = e ∷ places size (place_after size e r) rs

-- ---- the tries of a call

-- each try is a call of the current endpoint, and nothing else is asked
abbrev pub Tries : {E : Type 0} → (E → ℕ → Ask → Result Answer EndFault → E → Type 0) → (E → Option (List Sent)) → Ask → ℕ → ℕ → E → List (Result Answer EndFault) → E → Type 0
Tries came sent q size e a [] b = b ≡ a
Tries {E} came sent q size e a (r ∷ rs) b =
    (mid : E) × came a e q r mid × IsSentBy r e q (sent a) (sent mid) × Tries came sent q size (place_after size e r) mid rs b

-- a call goes on to the next endpoint where the ask was not sent, and where it failed and only reads
abbrev pub goes_on : Ask → Result Answer EndFault → Bool
goes_on q (Ok a) = false
goes_on q (Err fault.NotSent) = true
goes_on q (Err fault.Failed) = is_reading q
goes_on q (Err fault.Memory) = false

-- what a call answers whose last try came to this
abbrev pub answer_of : Result Answer EndFault → Result Answer CallFault
answer_of (Ok a) = Ok a
answer_of (Err fault.NotSent) = Err call.Failed
answer_of (Err fault.Failed) = Err call.Failed
answer_of (Err fault.Memory) = Err call.Memory

-- The call went on over each try but the last, which it answers. There are at most as many as there are endpoints; the call stops
-- where it does not go on, or where there are as many.
pub record IsLast (q : Ask) (size : ℕ) (earlier : List (Result Answer EndFault)) (last : Result Answer EndFault) : Type 0 where
  pub went_on : All (λ r. goes_on q r ≡ true) earlier
  pub once : length earlier + 1 ≤ size
  pub over : goes_on q last ≡ true → length earlier + 1 ≡ size

pub record IsCall (q : Ask) (size : ℕ) (tries : List (Result Answer EndFault)) (result : Result Answer CallFault) : Type 0 where
  pub earlier : List (Result Answer EndFault)
  pub last : Result Answer EndFault
  pub all : tries ≡ earlier ++ last ∷ []
  pub stops : IsLast q size earlier last
  pub answers : result ≡ answer_of last
