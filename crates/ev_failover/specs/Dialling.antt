-- Endpoints that are dialled: what one call of one of them came to.
use Rattle.std.specs.Prelude.{◌≡◌, ℕ, List, [], ◌∷◌, ◌++◌, Option, Some, None, Result, Ok, Err, slice_index_or, slice_set}
use Rattle.ev_types.specs.declared.answer.Answer.{Answer}
use Rattle.ev_types.specs.declared.ask.Ask.{Ask}
use Rattle.ev_call.specs.Calls.{Call}
use Rattle.ev_link.specs.Dialling.{undialled}
use Rattle.zx_net.specs.Nets.{NetCounts}
use Rattle.ev_failover.specs.declared.endpoints.EndFault.{EndFault}
use Rattle.ev_failover.specs.declared.endpoints.EndFault.TheVariants as fault

-- the counts of a net after a link was looked for: it counts a dial that failed, which is why an ask is not sent, and nothing else
abbrev pub dials_for : {A : Type 0} → Result A EndFault → NetCounts → NetCounts
dials_for (Ok x) counts = counts
dials_for (Err fault.NotSent) counts = undialled counts
dials_for (Err fault.Failed) counts = counts
dials_for (Err fault.Memory) counts = counts

-- the calls over a link that is there; there were none over a new one
abbrev pub calls_so_far : Option (List Call) → List Call
calls_so_far None = []
calls_so_far (Some calls) = calls

-- the link after a call over it: it is kept where it answers, and then this is one more of its calls
abbrev pub kept_after : List Call → Ask → Result Answer EndFault → Option (List Call)
kept_after calls q (Ok a) = Some (calls ++ record { ask = q; result = Ok a } ∷ [])
kept_after calls q (Err e) = None

-- the text that names the endpoints, the calls of their links, where there are any, and what the net counts
pub record EndsTold : Type 0 where
  pub named : List ℕ
  pub links : List (Option (List Call))
  pub counts : NetCounts

-- The ask went over the link that the endpoint has, or over a new one, which is kept where it answered; the other links stay. It was not
-- sent exactly where there was none and the dial failed, which the net counted.
pub record AsksAt (s : EndsTold) (e : ℕ) (q : Ask) (r : Result Answer EndFault) (t : EndsTold) : Type 0 where
  pub named : t.named ≡ s.named
  pub links : t.links ≡ slice_set s.links e (kept_after (calls_so_far (slice_index_or s.links e None)) q r)
  pub dialled : r ≡ Err fault.NotSent → slice_index_or s.links e None ≡ None
  pub counted : t.counts ≡ dials_for r s.counts
