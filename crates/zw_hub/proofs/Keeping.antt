-- The newest entries stay those of the list, whose numbers stay consecutive.
use Rattle.std.proofs.Common.{◌≡◌, ℕ, zero, suc, ◌+◌, ◌-◌, ◌<◌, ◌≤◌, ℤ, pos, ◌+ℤ◌, ◌-ℤ◌, ◌≤ℤ◌, to_z, of_z, w64, to_z-of_z, true, List, [], ◌∷◌, ◌++◌, length, Some, slice_get, refl, sym, ◌∙◌, ap, subst, ⊎_elim, arith, length-append}
use Rattle.std.proofs.lemmas.Bool.{cases_lt}
use Rattle.std.proofs.lemmas.Int.{int_max_is, ints}
use Rattle.std.proofs.lemmas.Option.{same_Some, none-some}
use lib.IntN.{nat_abs}
use mir.Val.{SFits}
use Rattle.circular_buffer.specs.Buffer.{Buffer, buffer, keep_last}
use Rattle.circular_buffer.proofs.Places.{slice_get-append_left, slice_get-append_right}
use Rattle.zn_layout.specs.declared.entry.Entry.{Entry}
use Rattle.zx_history.specs.declared.ghost_history.GhostHistory.{GhostHistory}
use Rattle.zw_hub.specs.declared.feed.Fed.{Fed}
use Rattle.zw_hub.specs.declared.feed.Fed.TheVariants as fed
use Rattle.zw_hub.specs.declared.published.Published.{Published}
use Rattle.zw_hub.specs.declared.window.Window.TheInside.{Inside}
use Rattle.zw_hub.specs.Feeds.{IsFed, IsFedEntry}
use Rattle.zw_hub.specs.Lists.{max_kept, last_number, oldest, floor, IsAt, IsNumbered, is_next, with_entry}
use Rattle.zw_hub.specs.Windows.{published, IsWindow}
use Rattle.zw_hub.proofs.Newest.{newest-push, newest-get}

-- what readers are told of is kept
pub above_oldest : (list : Published) (cursor : ℤ) → floor list ≤ℤ cursor → oldest list ≤ℤ cursor
above_oldest list cursor above = omega (arith, ints, int_max_is (oldest list) list.forgotten, above)

-- the place of a cursor in the ring, as it is computed in 64 bits
pub placed : (old found cursor : ℤ) → SFits w64 cursor → SFits w64 found → SFits w64 (cursor -ℤ found) → old ≡ found → found ≤ℤ cursor
    → old +ℤ pos (nat_abs (to_z w64 (of_z w64 (to_z w64 (of_z w64 cursor) -ℤ to_z w64 (of_z w64 found))))) ≡ cursor
placed old found cursor f g d is above = grind (arith, ints, to_z-of_z)

-- an entry in the ring is the entry of the list that is so far above the floor
pub kept_at : (w : Inside) → IsWindow w → (cursor : ℤ) (place : ℕ) (a : Entry) → oldest (published w) +ℤ pos place ≡ cursor → slice_get w.ring.items place ≡ Some a → IsAt (published w) (cursor +ℤ pos 1) a
kept_at w kept cursor place a is at =
    let k = length w.all.items - max_kept + place in
    let there : slice_get w.all.items k ≡ Some a = newest-get max_kept w.ring.items w.all.items place a kept.newest at in
    let number : cursor +ℤ pos 1 ≡ w.first +ℤ pos (k + 1) = omega (arith, ints) in
    (k, there, number, kept.numbered k a there ∙ sym number)

-- a reader whose next entry is kept is answered as of the list
pub kept_fed : (list : Published) (cursor : ℤ) (entry : Entry) (answer : Fed) → floor list ≤ℤ cursor → IsAt list (cursor +ℤ pos 1) entry → IsFedEntry entry answer → IsFed list cursor answer
kept_fed list cursor entry (fed.Entry told) least at is = (least, subst (IsAt list (cursor +ℤ pos 1)) is at)
kept_fed list cursor entry fed.None least at is = absurd is
kept_fed list cursor entry (fed.Lagged was floor_) least at is = absurd is
kept_fed list cursor entry (fed.Closed end) least at is = absurd is
kept_fed list cursor entry fed.Memory least at is = tt

only : {A : Type 0} (x y : A) (k : ℕ) → slice_get (x ∷ []) k ≡ Some y → (k ≡ 0) × (x ≡ y)
only x y zero at = (refl, same_Some x y at)
only x y (suc k) at = absurd (none-some y at)

-- numbers stay consecutive where the next is added
pub numbered-next : (list : Published) (entry : Entry) → IsNumbered list → entry.number ≡ last_number list +ℤ pos 1 → IsNumbered (with_entry list entry)
numbered-next list entry numbered next k e at =
    let n = length list.entries in
    ⊎_elim (λ (below : k < n). numbered k e (sym (slice_get-append_left list.entries (entry ∷ []) k below) ∙ at))
    (λ (above : n ≤ k).
    let j : k ≡ n + (k - n) = omega arith in
    let t = only entry e (k - n) (sym (slice_get-append_right list.entries (entry ∷ []) k (k - n) j) ∙ at) in
    let k_is : k ≡ n = omega (arith, t.0) in
    ap (λ (x : Entry). x.number) (sym t.1) ∙ next ∙ omega (arith, ints, k_is))
    (cases_lt k n)

pub next-number : (list : Published) (entry : Entry) → is_next list entry ≡ true → entry.number ≡ last_number list +ℤ pos 1
next-number list entry is = grind arith

-- the window with one more entry
pub pushed : (w : Inside) → IsWindow w → (ring : Buffer Entry) (number : ℤ) (all : GhostHistory Entry) (entry mine : Entry)
    → entry.number ≡ last_number (published w) +ℤ pos 1 → number ≡ entry.number → mine ≡ entry
    → ring ≡ buffer (keep_last w.ring.capacity (w.ring.items ++ mine ∷ [])) w.ring.capacity → all.items ≡ w.all.items ++ entry ∷ []
    → IsWindow (record { ring = ring; first = w.first; last = number; end = w.end; forgotten = w.forgotten; all = all })
pushed w kept ring number all entry mine next number_is mine_is ring_is all_is =
    record {
      newest =
          ap (λ (b : Buffer Entry). b.items) ring_is
          ∙ ap (λ n. keep_last n (w.ring.items ++ mine ∷ [])) kept.room
          ∙ newest-push max_kept w.ring.items w.all.items mine kept.newest
          ∙ ap (λ (e : Entry). keep_last max_kept (w.all.items ++ e ∷ [])) mine_is
          ∙ ap (keep_last max_kept) (sym all_is);
      room = ap (λ (b : Buffer Entry). b.capacity) ring_is ∙ kept.room;
      last = number_is ∙ next ∙ omega (arith, ints, ap length all_is, length-append w.all.items (entry ∷ []));
      numbered = subst (λ (es : List Entry). IsNumbered (record { first = w.first; entries = es; end = w.end; forgotten = w.forgotten })) (sym all_is) (numbered-next (published w) entry kept.numbered next);
    }
