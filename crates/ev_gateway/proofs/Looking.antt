-- Looks at a client that waits.
use Rattle.std.proofs.Common.{◌≡◌, ℕ, ◌+◌, ◌≤◌, Bool, true, List, length, refl, add-one}
use Rattle.zx_outside.specs.Reading.{EndsForGood, Reads, counts_after_read}
use Rattle.zx_outside.specs.declared.source.Got.{Got}
use Rattle.ev_http.specs.Taking.{Told}
use Rattle.ev_gateway.specs.Looking.{Looks, Waits, is_quiet}

pub looked : (found : Got) (buffer : List ℕ) (quiet : Bool) (s s' : Told) → length buffer ≤ 1 → quiet ≡ is_quiet found → Reads found buffer s.given s'.given s.left s'.left
    → s'.counts ≡ counts_after_read found s.counts → EndsForGood found s.ended s'.ended → s'.name ≡ s.name → Looks quiet s s'
looked found buffer quiet s s' one finds reads counts ends named =
    record { found = found; buffer = buffer; one = one; finds = finds; reads = reads; counts = counts; ends = ends; named = named }

pub no_look : (s : Told) → Waits s s
no_look s = (0, refl)

pub one_look_more : (s here s' : Told) → Waits s here → Looks true here s' → Waits s s'
one_look_more s here s' waits look = (waits.0 + 1, rw add-one (here, waits.1, look))
