-- Addresses that are dialled in turn, until one dial succeeds.
use Rattle.std.specs.Prelude.{◌≡◌, ℕ, zero, suc, ◌<◌, nat_lt, if◌then◌else◌, Result, Err}
use Rattle.ev_addresses.specs.Lists.{next_of}
use Rattle.zx_net.specs.Nets.{NetCounts}
use Rattle.ev_link.specs.Dialling.{undialled}
use Rattle.ev_link.specs.declared.reaching.NoLink.{NoLink}
use Rattle.ev_link.specs.declared.reaching.NoLink.TheVariants as nolink

-- the counts of a net after so many dials that failed
abbrev pub undialled_times : ℕ → NetCounts → NetCounts
undialled_times zero counts = counts
undialled_times (suc n) counts = undialled (undialled_times n counts)

-- The number of the address that is dialled after so many others, of which this one was the first. The first of all is meant if there are
-- fewer.
abbrev pub turned : ℕ → ℕ → ℕ → ℕ
turned size zero at = if nat_lt at size then at else 0
turned size (suc n) at = next_of size (turned size n at)

-- Where there is no link since nobody answered, each of so many dials failed. Otherwise one of them succeeded, or memory was refused for
-- it, and only those before it failed.
abbrev pub DialsInTurn : {A : Type 0} → Result A NoLink → ℕ → NetCounts → NetCounts → Type 0
DialsInTurn (Err nolink.Dial) size counts counts' = counts' ≡ undialled_times size counts
DialsInTurn _ size counts counts' = (failed : ℕ) × (failed < size) × (counts' ≡ undialled_times failed counts)
