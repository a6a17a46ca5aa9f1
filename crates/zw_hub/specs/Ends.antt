-- How a list may end.
use Rattle.std.specs.Prelude.{◌≡◌, ◌≢◌, ℤ}
use Rattle.zx_base.specs.Maps.{Bytes}
use Rattle.zn_layout.specs.Reading.{IsNoValue, head_bytes, IsHeadWithin}
use Rattle.zw_hub.specs.declared.feed.FeedEnd.{FeedEnd}
use Rattle.zw_hub.specs.declared.feed.FeedEnd.TheVariants as ends

-- an end that may close a list: a gap's numbers differ, and a damaged value is no record of the head
pub record IsProper (end : FeedEnd) : Type 0 where
  pub gap : (expected found : ℤ) → end ≡ ends.Gap expected found → expected ≢ found
  pub damaged : (key value : Bytes) → end ≡ ends.Damaged key value → IsNoValue head_bytes IsHeadWithin value

-- a proper end that readers may be told: not out of memory, for which the answer is `Memory`
abbrev pub MayBeTold : FeedEnd → Type 0
MayBeTold end = IsProper end × (end ≢ ends.Memory)
