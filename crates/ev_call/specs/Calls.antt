-- The calls of a link: what was asked and what came of it, in order, where the link tells it; and how many failed.
use Rattle.std.specs.Prelude.{ℕ, List, [], ◌∷◌, ◌++◌, Option, Some, None, Result, Ok, Err}
use Rattle.ev_types.specs.declared.answer.Answer.{Answer}
use Rattle.ev_types.specs.declared.ask.Ask.{Ask}
use Rattle.zx_outside.specs.Counts.{one_more}
use Rattle.ev_call.specs.declared.etcd.CallFault.{CallFault}
use Rattle.ev_call.specs.declared.etcd.CallFault.TheVariants as fault

pub record Call : Type 0 where
  pub ask : Ask
  pub result : Result Answer CallFault

-- a list that is told has one more call at its end; one that is not told stays so, and one that is told stays told
abbrev pub with_call : Option (List Call) → Ask → Result Answer CallFault → Option (List Call)
with_call None q r = None
with_call (Some calls) q r = Some (calls ++ record { ask = q; result = r } ∷ [])

-- only a failure is counted
abbrev pub failures_after : Result Answer CallFault → ℕ → ℕ
failures_after (Ok a) count = count
failures_after (Err fault.Failed) count = one_more count
failures_after (Err fault.Memory) count = count

-- calls, by what was asked and what came of it
abbrev pub calls_of : List Ask → List (Result Answer CallFault) → List Call
calls_of [] rs = []
calls_of (q ∷ qs) [] = []
calls_of (q ∷ qs) (r ∷ rs) = record { ask = q; result = r } ∷ calls_of qs rs
