-- What updates fire where nothing is armed, and where the moment right after one stands.
use Rattle.std.proofs.Common.{◌≡◌, ℕ, ◌+◌, ◌≤◌, List, [], ◌∷◌, length, refl, arith, Bool, true, false, ℤ}
use Rattle.std.specs.Prelude.{Option, Some, None}
use Rattle.std.specs.FinMap.{empty, get-empty}
use Rattle.zx_base.proofs.MapLaws.{remove-absent}
use Rattle.zk_model.specs.declared.node.Trigger.{Trigger}
use Rattle.zk_model.specs.declared.node.Trigger.TheVariants.{Created, Deleted, Changed, Children}
use Rattle.zk_transcript.proofs.Walks.{first_place-bound}
use Rattle.zk_transcript.specs.declared.transcript.TranscriptLine.{TranscriptLine}
use Rattle.zk_model.specs.Watches.{no_watches, fire, fire_all}
use Rattle.zk_transcript.specs.History.{state_at, first_place}
use Rattle.zk_transcript.specs.Walks.{fired_at, is_above, then_fired, fired_from, fired_above, update_shown, after_place, after_update}

-- ---- where nothing is armed, nothing fires

fire-none : (t : Trigger) → fire no_watches t ≡ (no_watches, [])
fire-none (Created p) = rw (get-empty {X = Unit {0}} _ p, remove-absent {X = Unit {0}} empty p (get-empty _ p)) refl
fire-none (Deleted p) = rw (get-empty {X = Unit {0}} _ p, remove-absent {X = Unit {0}} empty p (get-empty _ p)) refl
fire-none (Changed p) = rw (get-empty {X = Unit {0}} _ p, remove-absent {X = Unit {0}} empty p (get-empty _ p)) refl
fire-none (Children p) = rw (get-empty {X = Unit {0}} _ p, remove-absent {X = Unit {0}} empty p (get-empty _ p)) refl

pub fire_all-none : (ts : List Trigger) → fire_all no_watches ts ≡ (no_watches, [])
unfolding fire_all
fire_all-none [] = refl
fire_all-none (t ∷ ts) = rw (fire-none t, fire_all-none ts) refl

fired_at-none : (lines : List TranscriptLine) (k : ℕ) → fired_at lines k no_watches ≡ (no_watches, [])
fired_at-none lines k = rw (fire_all-none (state_at lines (k + 1)).triggers) refl

then_fired-none : (lines : List TranscriptLine) (k : ℕ) (b : Bool) → then_fired lines k b (no_watches, []) ≡ (no_watches, [])
then_fired-none lines k true = rw (fired_at-none lines k) refl
then_fired-none lines k false = refl

fired_from-none : (lines : List TranscriptLine) (p : ℤ) (k : ℕ) (ls : List TranscriptLine) → fired_from lines p k ls (no_watches, []) ≡ (no_watches, [])
fired_from-none lines p k [] = refl
fired_from-none lines p k (l ∷ ls) = rw (then_fired-none lines k (is_above p l)) (fired_from-none lines p (k + 1) ls)

pub fired_above-none : (lines : List TranscriptLine) (p : ℤ) → fired_above lines p no_watches ≡ (no_watches, [])
unfolding fired_above
fired_above-none lines p = fired_from-none lines p 0 lines

-- ---- where an update stands

-- the moment right after an update is one of these
pub after_update-bound : (z : ℤ) (lines : List TranscriptLine) → after_update z lines ≤ length lines
after_update-bound z lines = go (first_place (update_shown z) 0 lines) refl
  where
    go : (o : Option (ℕ × ℤ)) → first_place (update_shown z) 0 lines ≡ o → after_place o ≤ length lines
    go None e = omega arith
    go (Some x) e = omega (arith, first_place-bound (update_shown z) 0 lines x e)
