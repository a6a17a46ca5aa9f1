-- The calls of a link: what it was asked, and what came of it.
use Rattle.std.specs.Prelude.{◌≡◌, ℕ, List, [], ◌∷◌, ◌++◌, Option, Some, None, option_map, Result, Ok, Err}
use Rattle.ev_types.specs.declared.answer.Answer.{Answer}
use Rattle.ev_types.specs.declared.ask.Ask.{Ask}
use Rattle.ev_call.specs.Calls.{Call, failures_after}
use Rattle.ev_call.specs.declared.etcd.CallFault.{CallFault}
use Rattle.ev_call.specs.declared.etcd.CallFault.TheVariants as call
use Rattle.zs_reaper.specs.declared.calling.TurnFault.{TurnFault}
use Rattle.zs_reaper.specs.declared.calling.TurnFault.TheVariants as turn

-- what a link tells: its calls, where it tells them, and how many of them failed
pub record LinkTold : Type 0 where
  pub calls : Option (List Call)
  pub failures : ℕ

abbrev pub link_told : {L : Type 0} → (L → Option (List Call)) → (L → ℕ) → L → LinkTold
link_told told failures link = record { calls = told link; failures = failures link }

-- the same of a link that tells its calls
abbrev pub tells : List Call → ℕ → LinkTold
tells calls failures = record { calls = Some calls; failures = failures }

abbrev pub of_kept : {L : Type 0} → Option L → (L → LinkTold) → Option LinkTold
of_kept kept told = option_map told kept

-- these calls came after those that were told
abbrev pub with_calls : Option (List Call) → List Call → Option (List Call)
with_calls None cs = None
with_calls (Some all) cs = Some (all ++ cs)

abbrev pub failures_over : List Call → ℕ → ℕ
failures_over [] count = count
failures_over (c ∷ cs) count = failures_over cs (failures_after c.result count)

-- The link made these calls, one after the other, and each that failed was counted. This holds of them.
pub record Makes (P : List Call → Type 0) (old new : LinkTold) : Type 0 where
  pub calls : List Call
  pub called : new.calls ≡ with_calls old.calls calls
  pub counted : new.failures ≡ failures_over calls old.failures
  pub made : P calls

-- what a call is told as
abbrev pub told_as : Result Answer CallFault → Result Answer TurnFault
told_as (Ok a) = Ok a
told_as (Err call.Failed) = Err turn.Failed
told_as (Err call.Memory) = Err turn.Memory

-- one call of this ask
abbrev pub Calls : Ask → Result Answer TurnFault → List Call → Type 0
Calls q result calls = (came : Result Answer CallFault) × (calls ≡ record { ask = q; result = came } ∷ []) × (result ≡ told_as came)
