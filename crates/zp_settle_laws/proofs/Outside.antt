-- In every run nothing ends by a cause that stands outside a replay.
use Rattle.std.proofs.Common.{List, [], false, refl, subst, sym, ◌∷◌, ◌≡◌}
use Rattle.std.proofs.lemmas.List.Elements.{All-contains}
use Rattle.zk_transcript.specs.Legal.{Tick}
use Rattle.zk_service.specs.declared.cause.Cause.TheVariants as cause
use Rattle.zk_service.specs.declared.cause.Cause.{Cause}
use Rattle.zk_service.specs.declared.cause.Ended.TheVariants as ended
use Rattle.zk_transcript.specs.declared.transcript.TranscriptLine.TheVariants.{Close}
use Rattle.zt_text.specs.declared.script.Happening.{Happening}
use Rattle.zp_script.specs.Runs.{RunsFrom}
use Rattle.zp_script.specs.Worlds.{World}
use Rattle.zp_settle_laws.proofs.Causes.{never}
use Rattle.zp_settle_laws.proofs.Replays.{IsFineLine, IsFineWorld, IsSoundWorld, first-fine, happens-fine}
use Rattle.zp_settle_laws.specs.Causes.{ReplaysNeverEndBy, is_outside}

any-sound : (w : World) → IsSoundWorld false w
any-sound w = record { cores = λ c x core a there actor flight key value f. refl; reapers = λ c x r a key value there actor flight f. refl }

runs-fine : (w w' : World) (hs : List Happening) (ticks : List Tick) → RunsFrom w hs ticks w' → IsFineWorld false w → IsFineWorld false w'
runs-fine w w' [] ticks (none, same) k = subst (IsFineWorld false) (sym same) k
runs-fine w w' (h ∷ hs) ticks (mid, more, one, e, rest) k = runs-fine mid w' hs more rest (happens-fine false (λ v. Unit {0}) (λ v u. any-sound v) (λ c v v' x s does u. tt) w mid h one tt k)

not-outside : (why : Cause) → never why false ≡ false → is_outside why ≡ false
not-outside cause.Closed e = refl
not-outside (cause.ClientEnd place) e = refl
not-outside cause.ReadFault e = e
not-outside cause.WriteFault e = e
not-outside (cause.BadLength place length) e = refl
not-outside (cause.NoHeader place) e = refl
not-outside cause.AuthRefused e = refl
not-outside cause.Unknown e = refl
not-outside (cause.ZxidAhead client head) e = refl
not-outside (cause.Taken rev) e = refl
not-outside (cause.Expired rev) e = refl
not-outside (cause.Moved mine found) e = refl
not-outside cause.LinkFault e = refl
not-outside (cause.Lagged cursor floor) e = refl
not-outside cause.FeedClosed e = e
not-outside (cause.Damaged key value) e = refl
not-outside cause.Restart e = refl
not-outside cause.Memory e = e

pub replays-never-end-by : ReplaysNeverEndBy
replays-never-end-by hs ticks w c why (first, begins, runs) there =
    not-outside why (All-contains (IsFineLine false) w.lines (Close c (ended.Cause why)) (runs-fine first w hs ticks runs (first-fine false first begins)).lines there)
