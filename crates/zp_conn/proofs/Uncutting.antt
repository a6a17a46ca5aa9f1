-- What cuts a connection off is counted.
use Rattle.std.proofs.Common.{◌≡◌, ℕ, ◌+◌, true, refl, inl, inr, arith}
use Rattle.zk_service.specs.declared.cause.Cause.{Cause}
use Rattle.zk_service.specs.declared.cause.Cause.TheVariants as cause
use Rattle.zk_service.specs.declared.fresh.Fresh.{Fresh}
use Rattle.zp_conn.specs.Serving.{IsEndedFor, Rose, Serves, Told}
use Rattle.zp_conn.specs.Uncut.{IsFedOn, IsStill, IsUncut, is_own, is_own_or_fed}

unrisen : (old new : ℕ) → IsStill old new → Rose old new → ⊥
unrisen old new (same, small) (inl more) = omega (arith, same, more)
unrisen old new (same, small) (inr full) = omega (arith, small, full)

-- a count that stays is not one more
stays : (a b : ℕ) → b ≡ a → b ≡ a + 1 → ⊥
stays a b e f = omega (arith, e, f)

pub uncut-ends : (fresh : Fresh) (old new : Told) (why : Cause) → Serves fresh old new why → IsUncut old new → (is_own_or_fed why ≡ true) × (IsFedOn old new → is_own why ≡ true)
uncut-ends fresh old new why s u = (go why s.ended, λ f. fed why s.ended f (go why s.ended))
  where
    go : (w : Cause) → IsEndedFor fresh s.steps s.core old new s.read w → is_own_or_fed w ≡ true
    go cause.Closed h = refl
    go (cause.Expired revision) h = refl
    go (cause.Moved mine found) h = refl
    go (cause.ClientEnd place) h = refl
    go (cause.BadLength place l) h = refl
    go (cause.NoHeader place) h = refl
    go cause.AuthRefused h = refl
    go cause.Unknown h = refl
    go (cause.ZxidAhead client head) h = refl
    go (cause.Taken revision) h = refl
    go cause.LinkFault h = absurd (unrisen (old.link).failures (new.link).failures u.link h.1)
    go (cause.Lagged cursor floor) h = refl
    go cause.FeedClosed h = refl
    go (cause.Damaged key value) h = refl
    go cause.ReadFault h = absurd (unrisen (old.source).faults (new.source).faults u.source h)
    go cause.WriteFault h = absurd (unrisen ((old.sink).counts).faults ((new.sink).counts).faults u.sink h)
    go cause.Restart h = absurd h
    go cause.Memory h = refl

    fed : (w : Cause) → IsEndedFor fresh s.steps s.core old new s.read w → IsFedOn old new → is_own_or_fed w ≡ true → is_own w ≡ true
    fed cause.Closed h f e = e
    fed (cause.Expired revision) h f e = e
    fed (cause.Moved mine found) h f e = e
    fed (cause.ClientEnd place) h f e = e
    fed (cause.BadLength place l) h f e = e
    fed (cause.NoHeader place) h f e = e
    fed cause.AuthRefused h f e = e
    fed cause.Unknown h f e = e
    fed (cause.ZxidAhead client head) h f e = e
    fed (cause.Taken revision) h f e = e
    fed cause.LinkFault h f e = e
    fed (cause.Lagged cursor floor) h f e = absurd (stays (old.feed).lags (new.feed).lags f.lags (h.1).0)
    fed cause.FeedClosed h f e = absurd (stays (old.feed).closings (new.feed).closings f.closings h.1)
    fed (cause.Damaged key value) h f e = e
    fed cause.ReadFault h f e = e
    fed cause.WriteFault h f e = e
    fed cause.Restart h f e = e
    fed cause.Memory h f e = e
