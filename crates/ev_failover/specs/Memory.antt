-- Endpoints in memory, as contracts see them.
use Rattle.std.specs.Prelude.{◌≡◌, ◌⊎◌, ℕ, List, true, false, None, Result, Err, OnErr}
use Rattle.ev_types.specs.Denials.{carry}
use Rattle.ev_types.specs.Store.{Store}
use Rattle.ev_types.specs.declared.answer.Answer.{Answer}
use Rattle.ev_types.specs.declared.ask.Ask.{Ask}
use Rattle.zx_outside.specs.Counts.{one_more}
use Rattle.zx_outside.specs.Memory.{fails_next}
use Rattle.ev_failover.specs.Theorem.{CarriesEnd}
use Rattle.ev_failover.specs.declared.endpoints.EndFault.{EndFault}
use Rattle.ev_failover.specs.declared.endpoints.EndFault.TheVariants as fault

-- the one store of all endpoints, the numbers from 1 of the calls that are not sent and of those that fail, and how many were made
pub record EndsState : Type 0 where
  pub store : Store
  pub not_sent : List ℕ
  pub failing : List ℕ
  pub calls : ℕ

-- A call that has no answer changes nothing. It is not sent exactly where its number is listed so. It fails where its number is listed so and it is sent, or where the store
-- denies the ask, and nowhere else.
pub record CarriesAt (s : EndsState) (q : Ask) (r : Result Answer EndFault) (t : EndsState) : Type 0 where
  pub carries : CarriesEnd s.store q r t.store
  pub kept : OnErr r (t.store ≡ s.store)
  pub unsent : fails_next s.not_sent s.calls ≡ true → r ≡ Err fault.NotSent
  pub sent : fails_next s.not_sent s.calls ≡ false → r ≡ Err fault.NotSent → ⊥
  pub listed : fails_next s.not_sent s.calls ≡ false → fails_next s.failing s.calls ≡ true → r ≡ Err fault.Failed
  pub failed : r ≡ Err fault.Failed → (fails_next s.failing s.calls ≡ true) ⊎ (carry s.store q ≡ None)
  pub lists : (t.not_sent ≡ s.not_sent) × (t.failing ≡ s.failing)
  pub counted : t.calls ≡ one_more s.calls
