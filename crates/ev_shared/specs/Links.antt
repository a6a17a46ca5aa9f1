-- What contracts see of a link in memory.
use Rattle.std.specs.Prelude.{◌≡◌, ◌⊎◌, ℕ, List, true, None}
use Rattle.ev_types.specs.Denials.{carry}
use Rattle.ev_types.specs.Store.{Store}
use Rattle.ev_types.specs.declared.ask.Ask.{Ask}
use Rattle.zx_outside.specs.Memory.{fails_next}
use Rattle.ev_call.specs.Calls.{Call}

-- the store, the numbers from 1 of the calls that fail, how many calls were made, how many failed, and all of them
pub record LinkState : Type 0 where
  pub store : Store
  pub failing : List ℕ
  pub calls : ℕ
  pub failures : ℕ
  pub told : List Call

-- a call fails where its number is listed, or where the store denies what is asked
abbrev pub MayFail : LinkState → Ask → Type 0
MayFail l q = (fails_next l.failing l.calls ≡ true) ⊎ (carry l.store q ≡ None)
