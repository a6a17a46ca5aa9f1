-- The update whose zxid a state has, and the moments between that update and the next one.
use Rattle.std.proofs.Common.{◌≡◌, ℕ, zero, suc, ◌+◌, ◌<◌, ◌≤◌, List, [], ◌∷◌, take, refl, sym, ap, ◌∙◌, subst, arith, true, ℤ, pos}
use Rattle.std.specs.Prelude.{Option, Some, None, ◌<ℤ◌, ◌≤ℤ◌, slice_get}
use Rattle.std.proofs.lemmas.Bool.Decides.{nat_tests}
use Rattle.std.proofs.lemmas.Int.{ints}
use Rattle.zk_service.specs.declared.update.UpdateRec.{UpdateRec}
use Rattle.zk_transcript.specs.declared.transcript.TranscriptLine.{TranscriptLine}
use Rattle.zk_transcript.specs.declared.transcript.TranscriptLine.TheVariants.{Update, Open, Frame as FrameLine, Send, Lapse, Close}
use Rattle.zk_service.specs.States.{State, Session, lapsed_in, session_at}
use Rattle.zk_transcript.specs.History.{after, change, state_at}
use Rattle.zk_transcript.specs.Legal.{is_legal}
use Rattle.zk_transcript.specs.Walks.{after_update}
use Rattle.zk_least.specs.LeastQueues.{LastUpdateLaw}
use Rattle.zk_least.proofs.Rising.{state_at-line, state_at-end, take-one, at-line, not-below}
use Rattle.zk_least.proofs.SameZxid.{NoUpdate, NoUpdates}
use Rattle.zk_least.proofs.Firing.{after-line, since-line, since-same}

pub record IsLastUpdate (lines : List TranscriptLine) (k : ℕ) : Type 0 where
  pub place : ℕ
  pub update : UpdateRec
  pub before : place < k
  pub there : slice_get lines place ≡ Some (Update update)
  pub zxid : update.zxid ≡ (state_at lines k).zxid

last-zxid : (lines : List TranscriptLine) (m : ℕ) → (state_at lines (m + 1)).zxid ≡ (state_at lines m).zxid → (pos 0 <ℤ (state_at lines m).zxid → IsLastUpdate lines m) → pos 0 <ℤ (state_at lines (m + 1)).zxid → IsLastUpdate lines (m + 1)
last-zxid lines m same was up =
    let r = was (subst (λ z. pos 0 <ℤ z) same up) in
    let lt = r.before in
    record { place = r.place; update = r.update; before = omega (arith, lt); there = r.there; zxid = r.zxid ∙ sym same }

lapse-zxid : (s : State) (id : ℤ) (o : Option Session) → (lapsed_in s id o).zxid ≡ s.zxid
lapse-zxid s id None = refl
lapse-zxid s id (Some x) = refl

last-line : (lines : List TranscriptLine) (m : ℕ) (l : TranscriptLine) → is_legal lines ≡ true → slice_get lines m ≡ Some l → (pos 0 <ℤ (state_at lines m).zxid → IsLastUpdate lines m) → pos 0 <ℤ (state_at lines (m + 1)).zxid → IsLastUpdate lines (m + 1)
last-line lines m (Update u) legal at was up = record { place = m; update = u; before = omega arith; there = at; zxid = sym (at-line lines m u legal at).zxid }
last-line lines m (Lapse r d) legal at was up = last-zxid lines m (ap (λ (s : State). s.zxid) (state_at-line lines m (Lapse r d) at) ∙ lapse-zxid (state_at lines m) d (session_at d (state_at lines m))) was up
last-line lines m (Open a b d e layout) legal at was up = last-zxid lines m (ap (λ (s : State). s.zxid) (state_at-line lines m (Open a b d e layout) at)) was up
last-line lines m (FrameLine a b d e) legal at was up = last-zxid lines m (ap (λ (s : State). s.zxid) (state_at-line lines m (FrameLine a b d e) at)) was up
last-line lines m (Send a b) legal at was up = last-zxid lines m (ap (λ (s : State). s.zxid) (state_at-line lines m (Send a b) at)) was up
last-line lines m (Close a b) legal at was up = last-zxid lines m (ap (λ (s : State). s.zxid) (state_at-line lines m (Close a b) at)) was up

none-yet : pos 0 <ℤ (state_at [] 0).zxid → ⊥
unfolding after
none-yet up = omega (arith, ints, up)

last-update : (lines : List TranscriptLine) (k : ℕ) → is_legal lines ≡ true → pos 0 <ℤ (state_at lines k).zxid → IsLastUpdate lines k
last-update lines zero legal up = absurd (none-yet up)
last-update lines (suc m) legal up =
    let e : m + 1 ≡ suc m = omega arith in
    subst (IsLastUpdate lines) e (by (slice_get lines m) refl (last-update lines m legal) (subst (λ n. pos 0 <ℤ (state_at lines n).zxid) (sym e) up))
  where
    by : (o : Option TranscriptLine) → slice_get lines m ≡ o → (pos 0 <ℤ (state_at lines m).zxid → IsLastUpdate lines m) → pos 0 <ℤ (state_at lines (m + 1)).zxid → IsLastUpdate lines (m + 1)
    by None at was up = last-zxid lines m (ap (λ (s : State). s.zxid) (state_at-end lines m at)) was up
    by (Some l) at was up = last-line lines m l legal at was up

-- a moment stands after the update of its zxid, and so does each moment between them
pub record IsPastUpdate (lines : List TranscriptLine) (z : ℤ) (k : ℕ) : Type 0 where
  pub from : after_update z lines ≤ k
  pub some : 0 < (state_at lines (after_update z lines)).updates
  pub zxid : (state_at lines (after_update z lines)).zxid ≡ z

pub past-update : (lines : List TranscriptLine) (k : ℕ) (z : ℤ) → is_legal lines ≡ true → pos 0 <ℤ z → (state_at lines k).zxid ≡ z → IsPastUpdate lines z k
past-update lines k z legal up at =
    let l = last-update lines k legal (subst (λ y. pos 0 <ℤ y) (sym at) up) in
    let same : l.update.zxid ≡ z = l.zxid ∙ at in
    let e : after_update z lines ≡ l.place + 1 = ap (λ y. after_update y lines) (sym same) ∙ after-line lines l.place l.update legal l.there in
    let lt = l.before in
    let r = at-line lines l.place l.update legal l.there in
    let n = r.updates in
    record {
      from = omega (arith, e, lt);
      some = subst (λ m. 0 < (state_at lines m).updates) (sym e) (omega (arith, n));
      zxid = ap (λ m. (state_at lines m).zxid) e ∙ r.zxid ∙ same;
    }

-- a moment between the update of a zxid and a moment of that zxid
pub record HasZxid (lines : List TranscriptLine) (z : ℤ) (j : ℕ) : Type 0 where
  pub some : 0 < (state_at lines j).updates
  pub zxid : (state_at lines j).zxid ≡ z

pub has-zxid : (lines : List TranscriptLine) (j k : ℕ) (z : ℤ) → is_legal lines ≡ true → (state_at lines k).zxid ≡ z → IsPastUpdate lines z k → after_update z lines ≤ j → j ≤ k → HasZxid lines z j
has-zxid lines j k z legal at b from to =
    let p = not-below lines (after_update z lines) j legal from b.some in
    let more = p.0 in
    let some : 0 < (state_at lines j).updates = (let n = b.some in omega (arith, n, more)) in
    let q = not-below lines j k legal to some in
    record { some = some; zxid = eq (state_at lines j).zxid z (subst (λ y. y ≤ℤ (state_at lines j).zxid) b.zxid p.1) (subst (λ y. (state_at lines j).zxid ≤ℤ y) at q.1) }
  where
    eq : (a b : ℤ) → b ≤ℤ a → a ≤ℤ b → a ≡ b
    eq a b p q = grind (arith, nat_tests, ints)

-- ---- line by line

no-update : (l : TranscriptLine) → NoUpdate l → NoUpdates (l ∷ [])
no-update l none zero m e = (let same : l ≡ m = cc in subst NoUpdate same none)
no-update l none (suc j) m e = absurd (cc)

still-last : (lines : List TranscriptLine) (k : ℕ) (l : TranscriptLine) → slice_get lines k ≡ Some l → NoUpdate l → (change (take k lines) (state_at lines k) l).zxid ≡ (state_at lines k).zxid
    → after_update (state_at lines (k + 1)).zxid (take (k + 1) lines) ≡ after_update (state_at lines k).zxid (take k lines)
still-last lines k l at none still =
    ap (λ (s : State). after_update s.zxid (take (k + 1) lines)) (state_at-line lines k l at)
    ∙ ap (λ z. after_update z (take (k + 1) lines)) still
    ∙ ap (after_update (state_at lines k).zxid) (take-one lines k l at)
    ∙ since-same (state_at lines k).zxid (take k lines) (l ∷ []) (no-update l none)

pub last-update-law : LastUpdateLaw
last-update-law lines k (Update u) legal at = ap (λ z. after_update z (take (k + 1) lines)) (at-line lines k u legal at).zxid ∙ since-line lines k u legal at
last-update-law lines k (Lapse r d) legal at = still-last lines k (Lapse r d) at (λ u s. cc) (lapse-zxid (state_at lines k) d (session_at d (state_at lines k)))
last-update-law lines k (Open a b d e layout) legal at = still-last lines k (Open a b d e layout) at (λ u s. cc) refl
last-update-law lines k (FrameLine a b d e) legal at = still-last lines k (FrameLine a b d e) at (λ u s. cc) refl
last-update-law lines k (Send a b) legal at = still-last lines k (Send a b) at (λ u s. cc) refl
last-update-law lines k (Close a b) legal at = still-last lines k (Close a b) at (λ u s. cc) refl
