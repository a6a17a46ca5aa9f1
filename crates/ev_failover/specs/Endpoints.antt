-- What a call of one endpoint came to.
use Rattle.std.specs.Prelude.{◌≡◌, ◌⊎◌, ℕ, Bool, true, false, List, [], ◌∷◌, ◌++◌, Option, Some, None, Result, Ok, Err}
use Rattle.ev_types.specs.declared.answer.Answer.{Answer}
use Rattle.ev_types.specs.declared.ask.Ask.{Ask}
use Rattle.zx_outside.specs.Counts.{one_more}
use Rattle.ev_failover.specs.declared.endpoints.EndFault.{EndFault}
use Rattle.ev_failover.specs.declared.endpoints.EndFault.TheVariants as fault

-- an ask that was sent, and the endpoint that it was sent to
pub record Sent : Type 0 where
  pub endpoint : ℕ
  pub ask : Ask

-- a list that is told has the ask at its end; one that is not told stays so
abbrev pub with_sent : Option (List Sent) → ℕ → Ask → Option (List Sent)
with_sent None e q = None
with_sent (Some sent) e q = Some (sent ++ record { endpoint = e; ask = q } ∷ [])

-- What was sent in a call of this endpoint: the ask where it was answered or failed, and nothing where it was not sent. Where memory
-- was refused it was sent or not.
abbrev pub IsSentBy : Result Answer EndFault → ℕ → Ask → Option (List Sent) → Option (List Sent) → Type 0
IsSentBy (Ok a) e q before after = after ≡ with_sent before e q
IsSentBy (Err fault.NotSent) e q before after = after ≡ before
IsSentBy (Err fault.Failed) e q before after = after ≡ with_sent before e q
IsSentBy (Err fault.Memory) e q before after = (after ≡ before) ⊎ (after ≡ with_sent before e q)

-- whether the ask was sent, or may have been
abbrev pub is_sent : Result Answer EndFault → Bool
is_sent (Ok a) = true
is_sent (Err fault.NotSent) = false
is_sent (Err fault.Failed) = true
is_sent (Err fault.Memory) = true

-- a call that was not sent counts as one, and so does one that failed; one that ran out of memory does not
abbrev pub faults_after : Result Answer EndFault → ℕ → ℕ
faults_after (Ok a) count = count
faults_after (Err fault.NotSent) count = one_more count
faults_after (Err fault.Failed) count = one_more count
faults_after (Err fault.Memory) count = count

-- what was sent, by the endpoints and by the asks
abbrev pub sent_of : List ℕ → List Ask → List Sent
sent_of [] qs = []
sent_of (e ∷ es) [] = []
sent_of (e ∷ es) (q ∷ qs) = record { endpoint = e; ask = q } ∷ sent_of es qs
