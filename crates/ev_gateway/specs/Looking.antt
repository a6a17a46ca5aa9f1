-- How a gateway looks, while a watch waits, whether its client is still there.
use Rattle.std.specs.Prelude.{◌≡◌, ◌≤◌, ℕ, zero, suc, Bool, true, false, List, length}
use Rattle.zx_outside.specs.Reading.{EndsForGood, Reads, counts_after_read}
use Rattle.zx_outside.specs.declared.source.Got.{Got}
use Rattle.zx_outside.specs.declared.source.Got.TheVariants as got
use Rattle.ev_http.specs.Taking.{Told}

-- Whether a read found neither a byte nor an end. A fault may say no more than that the peer has been silent for long, as one is that
-- watches; a stream that is broken ends at a later read.
abbrev pub is_quiet : Got → Bool
is_quiet got.Nothing = true
is_quiet got.Failed = true
is_quiet (got.Bytes n) = false
is_quiet got.End = false

-- one read, of one byte at most, which found the peer quiet, or not
pub record Looks (quiet : Bool) (source source' : Told) : Type 0 where
  pub found : Got
  pub buffer : List ℕ
  pub one : length buffer ≤ 1
  pub finds : quiet ≡ is_quiet found
  pub reads : Reads found buffer source.given source'.given source.left source'.left
  pub counts : source'.counts ≡ counts_after_read found source.counts
  pub ends : EndsForGood found source.ended source'.ended
  pub named : source'.name ≡ source.name

-- so many looks, one after the other, which found it quiet
abbrev pub LooksOn : ℕ → Told → Told → Type 0
LooksOn zero source source' = source' ≡ source
LooksOn (suc n) source source' = (here : Told) × LooksOn n source here × Looks true here source'

-- the client waits: each look found it quiet
abbrev pub Waits : Told → Told → Type 0
Waits source source' = (n : ℕ) × LooksOn n source source'

-- the client left, or sent more: after looks that found it quiet, one found an end or a byte
abbrev pub Leaves : Told → Told → Type 0
Leaves source source' = (here : Told) × Waits source here × Looks false here source'
