-- What fires above a zxid: the first update, and then the rest. Lines without an update change neither what fires nor where an
-- update stands.
use Rattle.std.proofs.Common.{◌≡◌, ℕ, zero, suc, ◌+◌, ◌≤◌, ◌<◌, List, [], ◌∷◌, ◌++◌, length, take, take-take, refl, sym, ap, ◌∙◌, arith, append_assoc, append-nil, Bool, true, false, ℤ}
use Rattle.std.specs.Prelude.{Option, Some, None, slice_get}
use Rattle.std.specs.Ordering.{int_eq}
use Rattle.std.proofs.lemmas.Int.{ints}
use Rattle.std.proofs.lemmas.Bool.Decides.{nat_tests}
use Rattle.zk_model.specs.Watches.{Watches, fire_all}
use Rattle.zk_service.specs.declared.update.UpdateRec.{UpdateRec}
use Rattle.zk_transcript.specs.declared.transcript.TranscriptLine.{TranscriptLine}
use Rattle.zk_transcript.specs.declared.transcript.TranscriptLine.TheVariants.{Update, Open, Frame as FrameLine, Send, Lapse, Close}
use Rattle.zk_service.specs.States.{State}
use Rattle.zk_transcript.specs.History.{after, first_place, when}
use Rattle.zk_transcript.specs.Legal.{is_legal}
use Rattle.zk_transcript.specs.Walks.{Due, due_notices, fired_at, is_above, then_fired, fired_from, fired_above, update_shown, after_update, after_place}
use Rattle.zx_base.proofs.Lists.{slice_get-take}
use Rattle.zk_transcript.proofs.Walks.{state_at-push}
use Rattle.zk_transcript.proofs.Zxids.{zxids-rise}
use Rattle.zk_least.proofs.SameZxid.{NoUpdate, NoUpdates, get-take}

-- ---- nothing is above

abbrev pub NoneAbove : ℤ → List TranscriptLine → Type 0
NoneAbove p ls = (j : ℕ) (l : TranscriptLine) → slice_get ls j ≡ Some l → is_above p l ≡ false

pub from-none : (full : List TranscriptLine) (p : ℤ) (k : ℕ) (ls : List TranscriptLine) (x : Watches × List Due) → NoneAbove p ls → fired_from full p k ls x ≡ x
from-none full p k [] x h = refl
from-none full p k (l ∷ ls) x h = ap (λ b. fired_from full p (k + 1) ls (then_fired full k b x)) (h 0 l refl) ∙ from-none full p (k + 1) ls x (λ j m e. h (suc j) m e)

-- ---- the first above, and then the rest

then-more : (full : List TranscriptLine) (k : ℕ) (b : Bool) (w : Watches) (ds : List Due) → then_fired full k b (w, ds) ≡ ((then_fired full k b (w, [])).0, ds ++ (then_fired full k b (w, [])).1)
then-more full k true w ds = refl
then-more full k false w ds = ap (λ l. (w, l)) (sym (append-nil ds))

from-more : (full : List TranscriptLine) (p : ℤ) (k : ℕ) (ls : List TranscriptLine) (w : Watches) (ds : List Due) → fired_from full p k ls (w, ds) ≡ ((fired_from full p k ls (w, [])).0, ds ++ (fired_from full p k ls (w, [])).1)
from-more full p k [] w ds = ap (λ l. (w, l)) (sym (append-nil ds))
from-more full p k (l ∷ ls) w ds =
    let b = is_above p l in
    let y = then_fired full k b (w, []) in
    let r = fired_from full p (k + 1) ls (y.0, []) in
    ap (fired_from full p (k + 1) ls) (then-more full k b w ds)
    ∙ from-more full p (k + 1) ls y.0 (ds ++ y.1)
    ∙ ap (λ l. (r.0, l)) (append_assoc ds y.1 r.1)
    ∙ ap (λ (q : Watches × List Due). (q.0, ds ++ q.1)) (sym (from-more full p (k + 1) ls y.0 y.1))

-- the line at i is the first above p; those after it are above q just where they are above p, and none up to it is above q
pub record IsFirst (p q : ℤ) (i : ℕ) (ls : List TranscriptLine) : Type 0 where
  pub line : TranscriptLine
  pub there : slice_get ls i ≡ Some line
  pub above : is_above p line ≡ true
  pub before : (j : ℕ) (l : TranscriptLine) → j < i → slice_get ls j ≡ Some l → is_above p l ≡ false
  pub up_to : (j : ℕ) (l : TranscriptLine) → j ≤ i → slice_get ls j ≡ Some l → is_above q l ≡ false
  pub above_after : (j : ℕ) (l : TranscriptLine) → i < j → slice_get ls j ≡ Some l → is_above p l ≡ is_above q l

from-same : (full : List TranscriptLine) (p q : ℤ) (k : ℕ) (ls : List TranscriptLine) (x : Watches × List Due)
    → ((j : ℕ) (l : TranscriptLine) → slice_get ls j ≡ Some l → is_above p l ≡ is_above q l) → fired_from full p k ls x ≡ fired_from full q k ls x
from-same full p q k [] x h = refl
from-same full p q k (l ∷ ls) x h = ap (λ b. fired_from full p (k + 1) ls (then_fired full k b x)) (h 0 l refl) ∙ from-same full p q (k + 1) ls (then_fired full k (is_above q l) x) (λ j m e. h (suc j) m e)

first-tail : (p q : ℤ) (i : ℕ) (l : TranscriptLine) (ls : List TranscriptLine) → IsFirst p q (suc i) (l ∷ ls) → IsFirst p q i ls
first-tail p q i l ls f = record {
  line = f.line;
  there = f.there;
  above = f.above;
  before = λ j m lt e. f.before (suc j) m (omega (arith, lt)) e;
  up_to = λ j m lt e. f.up_to (suc j) m (omega (arith, lt)) e;
  above_after = λ j m lt e. f.above_after (suc j) m (omega (arith, lt)) e;
}

from-first : (full : List TranscriptLine) (p q : ℤ) (k i : ℕ) (ls : List TranscriptLine) (w : Watches) → IsFirst p q i ls
    → fired_from full p k ls (w, []) ≡ fired_from full q k ls (fired_at full (k + i) w)
from-first full p q k i [] w f = absurd (cc)
  where
    no : slice_get [] i ≡ Some f.line
    no = f.there
from-first full p q k zero (l ∷ ls) w f =
    let same : l ≡ f.line = (let e : Some l ≡ Some f.line = f.there in cc) in
    let a : is_above p l ≡ true = ap (is_above p) same ∙ f.above in
    let x : then_fired full k (is_above p l) (w, []) ≡ fired_at full (k + 0) w = ap (λ b. then_fired full k b (w, [])) a ∙ ap (λ n. fired_at full n w) (omega arith) in
    let b : is_above q l ≡ false = f.up_to 0 l (omega arith) refl in
    ap (fired_from full p (k + 1) ls) x
    ∙ from-same full p q (k + 1) ls (fired_at full (k + 0) w) (λ j m e. f.above_after (suc j) m (omega arith) e)
    ∙ ap (λ c. fired_from full q (k + 1) ls (then_fired full k c (fired_at full (k + 0) w))) (sym b)
from-first full p q k (suc i) (l ∷ ls) w f =
    let a : is_above p l ≡ false = f.before 0 l (omega arith) refl in
    let b : is_above q l ≡ false = f.up_to 0 l (omega arith) refl in
    let n : (k + 1) + i ≡ k + suc i = omega arith in
    ap (λ c. fired_from full p (k + 1) ls (then_fired full k c (w, []))) a
    ∙ from-first full p q (k + 1) i ls w (first-tail p q i l ls f)
    ∙ ap (λ m. fired_from full q (k + 1) ls (fired_at full m w)) n
    ∙ ap (λ c. fired_from full q (k + 1) ls (then_fired full k c (fired_at full (k + suc i) w))) (sym b)

pub first-fires : (past : List TranscriptLine) (p q : ℤ) (i : ℕ) (w : Watches) → IsFirst p q i past
    → fired_above past p w ≡ ((fired_above past q (fired_at past i w).0).0, (fired_at past i w).1 ++ (fired_above past q (fired_at past i w).0).1)
unfolding fired_above
first-fires past p q i w f = from-first past p q 0 i past w f ∙ ap (λ n. fired_from past q 0 past (fired_at past n w)) (omega arith) ∙ from-more past q 0 past (fired_at past i w).0 (fired_at past i w).1

-- ---- more lines, or fewer

fired_in : State → ℕ → Watches → Watches × List Due
fired_in s e w = let f = fire_all w s.triggers in (f.0, due_notices (e + 1) f.1)

-- the triggers of a line before a moment
pub fired-within : (lines : List TranscriptLine) (m e : ℕ) (w : Watches) → e < m → fired_at (take m lines) e w ≡ fired_at lines e w
unfolding fired_in
fired-within lines m e w lt = ap (λ past. fired_in (after past) e w) (take-take (e + 1) m lines (omega (arith, lt)))

fired-longer : (xs ys : List TranscriptLine) (k : ℕ) (w : Watches) → k < length xs → fired_at (xs ++ ys) k w ≡ fired_at xs k w
unfolding fired_in
fired-longer xs ys k w lt = ap (λ s. fired_in s k w) (state_at-push xs ys (k + 1) (omega (arith, lt)))

then-longer : (xs ys : List TranscriptLine) (k : ℕ) (b : Bool) (x : Watches × List Due) → k < length xs → then_fired (xs ++ ys) k b x ≡ then_fired xs k b x
then-longer xs ys k true x lt = ap (λ (f : Watches × List Due). (f.0, x.1 ++ f.1)) (fired-longer xs ys k x.0 lt)
then-longer xs ys k false x lt = refl

pub from-longer : (xs ys : List TranscriptLine) (p : ℤ) (k : ℕ) (ls : List TranscriptLine) (x : Watches × List Due) → k + length ls ≤ length xs → fired_from (xs ++ ys) p k ls x ≡ fired_from xs p k ls x
from-longer xs ys p k [] x le = refl
from-longer xs ys p k (l ∷ ls) x le =
    ap (fired_from (xs ++ ys) p (k + 1) ls) (then-longer xs ys k (is_above p l) x (omega (arith, le)))
    ∙ from-longer xs ys p (k + 1) ls (then_fired xs k (is_above p l) x) (omega (arith, le))

pub from-append : (full : List TranscriptLine) (p : ℤ) (k : ℕ) (xs ys : List TranscriptLine) (x : Watches × List Due) → fired_from full p k (xs ++ ys) x ≡ fired_from full p (k + length xs) ys (fired_from full p k xs x)
from-append full p k [] ys x = ap (λ n. fired_from full p n ys x) (omega arith)
from-append full p k (l ∷ xs) ys x =
    from-append full p (k + 1) xs ys (then_fired full k (is_above p l) x)
    ∙ ap (λ n. fired_from full p n ys (fired_from full p (k + 1) xs (then_fired full k (is_above p l) x))) (omega arith)

-- ---- lines without an update

none-is-above : (p : ℤ) (l : TranscriptLine) → NoUpdate l → is_above p l ≡ false
none-is-above p (Update u) h = absurd (h u refl)
none-is-above p (Open a b d e layout) h = refl
none-is-above p (FrameLine a b d e) h = refl
none-is-above p (Send a b) h = refl
none-is-above p (Lapse a b) h = refl
none-is-above p (Close a b) h = refl

none-shown : (z : ℤ) (l : TranscriptLine) → NoUpdate l → update_shown z l ≡ None
none-shown z (Update u) h = absurd (h u refl)
none-shown z (Open a b d e layout) h = refl
none-shown z (FrameLine a b d e) h = refl
none-shown z (Send a b) h = refl
none-shown z (Lapse a b) h = refl
none-shown z (Close a b) h = refl

pub fired-same : (xs ys : List TranscriptLine) (p : ℤ) (w : Watches) → NoUpdates ys → fired_above (xs ++ ys) p w ≡ fired_above xs p w
unfolding fired_above
fired-same xs ys p w none =
    from-append (xs ++ ys) p 0 xs ys (w, [])
    ∙ from-none (xs ++ ys) p (0 + length xs) ys (fired_from (xs ++ ys) p 0 xs (w, [])) (λ j l e. none-is-above p l (none j l e))
    ∙ from-longer xs ys p 0 xs (w, []) (omega arith)

place-same : (z : ℤ) (k : ℕ) (xs ys : List TranscriptLine) → NoUpdates ys → first_place (update_shown z) k (xs ++ ys) ≡ first_place (update_shown z) k xs
place-same z k [] [] none = refl
place-same z k [] (y ∷ ys) none = ap (λ o. elim o [ Some v ↦ Some (k, v) | None ↦ first_place (update_shown z) (k + 1) ys ]) (none-shown z y (none 0 y refl)) ∙ place-same z (k + 1) [] ys (λ j l e. none (suc j) l e)
place-same z k (x ∷ xs) ys none = ap (λ r. elim (update_shown z x) [ Some v ↦ Some (k, v) | None ↦ r ]) (place-same z (k + 1) xs ys none)

pub since-same : (z : ℤ) (xs ys : List TranscriptLine) → NoUpdates ys → after_update z (xs ++ ys) ≡ after_update z xs
since-same z xs ys none = ap after_place (place-same z 0 xs ys none)

-- ---- the moment right after an update

first-at : {A : Type 0} (show : TranscriptLine → Option A) (k i : ℕ) (ls : List TranscriptLine) (l : TranscriptLine) (y : A)
    → slice_get ls i ≡ Some l → show l ≡ Some y → ((j : ℕ) (x : TranscriptLine) → j < i → slice_get ls j ≡ Some x → show x ≡ None) → first_place show k ls ≡ Some (k + i, y)
first-at show k i [] l y h s before = absurd (cc)
first-at {A} show k zero (x ∷ ls) l y h s before =
    let same : x ≡ l = cc in
    ap (λ o. elim o [ Some z ↦ Some (k, z) | None ↦ first_place show (k + 1) ls ]) (ap show same ∙ s) ∙ ap (λ n. Some (n, y)) (omega arith)
first-at {A} show k (suc i) (x ∷ ls) l y h s before =
    ap (λ o. elim o [ Some z ↦ Some (k, z) | None ↦ first_place show (k + 1) ls ]) (before 0 x (omega arith) refl)
    ∙ first-at show (k + 1) i ls l y h s (λ j m lt e. before (suc j) m (omega (arith, lt)) e) ∙ ap (λ n. Some (n, y)) (omega arith)

when-none : {A : Type 0} (b : Bool) (x : A) → b ≡ false → when b x ≡ None
when-none b x h = ap (λ c. when c x) h

other-zxid : (lines : List TranscriptLine) (k j : ℕ) (u : UpdateRec) (x : TranscriptLine) → is_legal lines ≡ true → slice_get lines k ≡ Some (Update u) → j < k → slice_get lines j ≡ Some x → update_shown u.zxid x ≡ None
other-zxid lines k j u (Update v) h at lt e =
    let up = zxids-rise lines j k v u h lt e at in
    let differ : int_eq u.zxid v.zxid ≡ false = grind (arith, nat_tests, ints) in
    when-none (int_eq u.zxid v.zxid) v.zxid differ
other-zxid lines k j u (Open a b c d layout) h at lt e = refl
other-zxid lines k j u (FrameLine a b c d) h at lt e = refl
other-zxid lines k j u (Send a b) h at lt e = refl
other-zxid lines k j u (Lapse a b) h at lt e = refl
other-zxid lines k j u (Close a b) h at lt e = refl

pub after-line : (lines : List TranscriptLine) (k : ℕ) (u : UpdateRec) → is_legal lines ≡ true → slice_get lines k ≡ Some (Update u) → after_update u.zxid lines ≡ k + 1
after-line lines k u h at =
    let own : int_eq u.zxid u.zxid ≡ true = grind (arith, nat_tests, ints) in
    ap after_place (first-at (update_shown u.zxid) 0 k lines (Update u) u.zxid at (ap (λ b. when b u.zxid) own) (λ j x lt e. other-zxid lines k j u x h at lt e)) ∙ omega arith

-- the moment right after an update, looked for among the lines up to the update's own
pub since-line : (lines : List TranscriptLine) (k : ℕ) (u : UpdateRec) → is_legal lines ≡ true → slice_get lines k ≡ Some (Update u) → after_update u.zxid (take (k + 1) lines) ≡ k + 1
since-line lines k u h at =
    let own : int_eq u.zxid u.zxid ≡ true = grind (arith, nat_tests, ints) in
    ap after_place (first-at (update_shown u.zxid) 0 k (take (k + 1) lines) (Update u) u.zxid (slice_get-take lines (k + 1) k (omega arith) ∙ at) (ap (λ b. when b u.zxid) own)
    (λ j x lt e. other-zxid lines k j u x h at lt (get-take (k + 1) j lines x e).1)) ∙ omega arith
