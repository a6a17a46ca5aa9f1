-- What ends a connection that nobody cuts off.
use Rattle.std.specs.Prelude.{◌≡◌, ℕ, ◌+◌, ◌<◌, ◌^◌, Bool, true, false}
use Rattle.zk_service.specs.declared.cause.Cause.{Cause}
use Rattle.zk_service.specs.declared.cause.Cause.TheVariants as cause
use Rattle.zk_service.specs.declared.fresh.Fresh.{Fresh}
use Rattle.zp_conn.specs.Serving.{Serves, Told}

-- a count of 64 bits has not risen, and is not at its end
abbrev pub IsStill : ℕ → ℕ → Type 0
IsStill old new = (new ≡ old) × (new + 1 < 2 ^ 64)

-- the source, the sink and the link had no fault
pub record IsUncut (old new : Told) : Type 0 where
  pub source : IsStill (old.source).faults (new.source).faults
  pub sink : IsStill ((old.sink).counts).faults ((new.sink).counts).faults
  pub link : IsStill (old.link).failures (new.link).failures

-- the feed neither lagged nor told its end
pub record IsFedOn (old new : Told) : Type 0 where
  pub lags : (new.feed).lags ≡ (old.feed).lags
  pub closings : (new.feed).closings ≡ (old.feed).closings

-- the client's bytes show it, or their end, or an answer of etcd; or memory was refused
abbrev pub is_own : Cause → Bool
is_own cause.LinkFault = false
is_own (cause.Lagged cursor floor) = false
is_own cause.FeedClosed = false
is_own cause.ReadFault = false
is_own cause.WriteFault = false
is_own cause.Restart = false
is_own _ = true

-- or the feed lagged, or told its end
abbrev pub is_own_or_fed : Cause → Bool
is_own_or_fed (cause.Lagged cursor floor) = true
is_own_or_fed cause.FeedClosed = true
is_own_or_fed why = is_own why

abbrev pub UncutEndSo : Type 0
UncutEndSo = (fresh : Fresh) (old new : Told) (why : Cause) → Serves fresh old new why → IsUncut old new → (is_own_or_fed why ≡ true) × (IsFedOn old new → is_own why ≡ true)
