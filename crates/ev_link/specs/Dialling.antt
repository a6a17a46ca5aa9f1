-- A link that dials: what one call of it came to.
use Rattle.std.specs.Prelude.{◌≡◌, ◌⊎◌, List, [], ◌∷◌, ◌++◌, IsErr, IsOk, Option, Some, None, Result, Err}
use Rattle.zx_net.specs.Nets.{NetCounts, counts_after_dial}
use Rattle.ev_call.specs.Calls.{Call}
use Rattle.ev_call.specs.declared.etcd.CallFault.TheVariants as fault

-- The call that dials is the first one of its link; or there is none still, since the dial failed or memory was refused.
abbrev pub DialsFirst : {A E : Type 0} → Option (List Call) → Call → Result A E → Type 0
DialsFirst after c dialled =
    ((after ≡ Some (c ∷ [])) × IsOk dialled)
    ⊎ (((after ≡ None) × (c.result ≡ Err fault.Failed) × IsErr dialled)
    ⊎ ((after ≡ None) × (c.result ≡ Err fault.Memory) × IsOk dialled))

-- the counts of a net after a dial that failed
abbrev pub undialled : NetCounts → NetCounts
undialled counts = counts_after_dial {A = Unit {0}} {E = Unit {0}} (Err tt) counts

-- A call goes over the link that is there, as one more of its calls; or one is dialled, and it is the first one of that; or there is
-- none still, since the dial failed, which the net counted, or memory was refused. By the calls of the link before and after it, and
-- by what the net counts.
abbrev pub Dials : Option (List Call) → Option (List Call) → Call → NetCounts → NetCounts → Type 0
Dials (Some calls) after c counts counts' = (after ≡ Some (calls ++ c ∷ [])) × (counts' ≡ counts)
Dials None after c counts counts' =
    ((after ≡ Some (c ∷ [])) × (counts' ≡ counts))
    ⊎ (((after ≡ None) × (c.result ≡ Err fault.Failed) × (counts' ≡ undialled counts))
    ⊎ ((after ≡ None) × (c.result ≡ Err fault.Memory) × (counts' ≡ counts)))
