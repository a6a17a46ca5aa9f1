-- In a legal history each update raises the zxid and the number of updates.
use Rattle.std.proofs.Common.{◌≡◌, ℕ, zero, suc, ◌+◌, ◌-◌, ◌≤◌, ◌<◌, List, [], ◌∷◌, ◌++◌, take, refl, sym, ap, ◌∙◌, subst, arith, true, ℤ, pos, inl, inr}
use Rattle.std.specs.Prelude.{Option, Some, None, ◌⊎◌, ◌<ℤ◌, ◌≤ℤ◌, slice_get, is_some}
use Rattle.std.proofs.lemmas.Bool.{and_parts}
use Rattle.std.proofs.lemmas.Bool.Decides.{nat_tests}
use Rattle.std.proofs.lemmas.Int.{ints}
use Rattle.zk_model.specs.Limits.{max_long}
use Rattle.zk_service.specs.declared.update.UpdateRec.{UpdateRec}
use Rattle.zk_service.specs.declared.update.UpdateKind.{UpdateKind}
use Rattle.zk_service.specs.declared.update.UpdateKind.TheVariants.{Begin, Session as NewSession, Attach, Asked, Closed, Reaped}
use Rattle.zk_transcript.specs.declared.transcript.TranscriptLine.{TranscriptLine}
use Rattle.zk_transcript.specs.declared.transcript.TranscriptLine.TheVariants.{Update, Open, Frame as FrameLine, Send, Lapse, Close}
use Rattle.zk_service.specs.States.{State, Session, Commit, committed, lapsed_in, session_at}
use Rattle.zk_transcript.specs.History.{after, change, updated, asked_commit, state_at}
use Rattle.zk_transcript.specs.Legal.{is_legal, is_legal_line, is_next_zxid, may_update}
use Rattle.zk_transcript.proofs.Appending.{after-push}
use Rattle.zk_transcript.proofs.Histories.{above-next, long-next}
use Rattle.zk_transcript.proofs.Placed.{is_legal-at}
use Rattle.zk_least.specs.LeastWalk.{HasZxids}

-- ---- one line

pub record IsRaised (s t : State) (z : ℤ) : Type 0 where
  pub zxid : t.zxid ≡ z
  pub updates : t.updates ≡ s.updates + 1

committed-raised : (s : State) (z : ℤ) (o : Option Commit) → is_some o ≡ true → IsRaised s (committed s z o) z
committed-raised s z None h = absurd (cc)
committed-raised s z (Some x) h = record { zxid = refl; updates = refl }

pub updated-raised : (before : List TranscriptLine) (s : State) (z : ℤ) (kind : UpdateKind) → may_update before s z kind ≡ true → IsRaised s (updated before s z kind) z
unfolding updated may_update
updated-raised before s z (Begin now) h = record { zxid = refl; updates = (let e : s.updates ≡ 0 = grind (arith, nat_tests) in omega (arith, e)) }
updated-raised before s z (NewSession id c) h = record { zxid = refl; updates = refl }
updated-raised before s z (Attach id c) h = record { zxid = refl; updates = refl }
updated-raised before s z (Asked c i now) h = committed-raised s z (asked_commit before s z c i now) (and_parts _ (is_some (asked_commit before s z c i now)) h).1
updated-raised before s z (Closed id c i) h = record { zxid = refl; updates = refl }
updated-raised before s z (Reaped id) h = record { zxid = refl; updates = refl }

-- the number and the zxid stand still, or both rise
abbrev pub Rises : State → State → Type 0
Rises s t = ((t.updates ≡ s.updates) × (t.zxid ≡ s.zxid)) ⊎ ((s.updates < t.updates) × (s.zxid <ℤ t.zxid))

rises-on : (s t u : State) → Rises s t → Rises t u → Rises s u
rises-on s t u (inl a) (inl b) = inl (b.0 ∙ a.0, b.1 ∙ a.1)
rises-on s t u (inl a) (inr b) = inr (omega (arith, a.0, b.0), omega (arith, ints, a.1, b.1))
rises-on s t u (inr a) (inl b) = inr (omega (arith, a.0, b.0), omega (arith, ints, a.1, b.1))
rises-on s t u (inr a) (inr b) = inr (omega (arith, a.0, b.0), omega (arith, ints, a.1, b.1))

update-rises : (before : List TranscriptLine) (s : State) (u : UpdateRec) → is_legal_line before s (Update u) ≡ true → 0 < s.updates → Rises s (updated before s u.zxid u.kind)
update-rises before s u h some =
    let q = and_parts (may_update before s u.zxid u.kind) (is_next_zxid s u.zxid) h in
    let r = updated-raised before s u.zxid u.kind q.0 in
    let up = above-next s u.zxid some q.1 in
    inr (omega (arith, r.updates), omega (arith, ints, up, r.zxid))

lapse-still : (s : State) (id : ℤ) (o : Option Session) → ((lapsed_in s id o).updates ≡ s.updates) × ((lapsed_in s id o).zxid ≡ s.zxid)
lapse-still s id None = (refl, refl)
lapse-still s id (Some x) = (refl, refl)

line-rises : (before : List TranscriptLine) (s : State) (l : TranscriptLine) → is_legal_line before s l ≡ true → 0 < s.updates → Rises s (change before s l)
line-rises before s (Update u) h some = update-rises before s u h some
line-rises before s (Lapse revision id) h some = inl (lapse-still s id (session_at id s))
line-rises before s (Open a b d e layout) h some = inl (refl, refl)
line-rises before s (FrameLine a b d e) h some = inl (refl, refl)
line-rises before s (Send a b) h some = inl (refl, refl)
line-rises before s (Close a b) h some = inl (refl, refl)

-- ---- from one moment to the next

-- the lines up to one, and that line
pub take-one : {A : Type 0} (xs : List A) (k : ℕ) (x : A) → slice_get xs k ≡ Some x → take (k + 1) xs ≡ take k xs ++ x ∷ []
take-one [] k x h = absurd (cc)
take-one (y ∷ xs) zero x h = let e : y ≡ x = cc in ap (λ z. z ∷ []) e
take-one (y ∷ xs) (suc k) x h = let e : suc k + 1 ≡ suc (k + 1) = omega arith in ap (λ n. take n (y ∷ xs)) e ∙ ap (λ l. y ∷ l) (take-one xs k x h)

take-none : {A : Type 0} (xs : List A) (k : ℕ) → slice_get xs k ≡ None → take (k + 1) xs ≡ take k xs
take-none [] zero h = refl
take-none [] (suc k) h = let e : suc k + 1 ≡ suc (k + 1) = omega arith in ap (λ n. take n []) e
take-none (y ∷ xs) zero h = absurd (cc)
take-none (y ∷ xs) (suc k) h = let e : suc k + 1 ≡ suc (k + 1) = omega arith in ap (λ n. take n (y ∷ xs)) e ∙ ap (λ l. y ∷ l) (take-none xs k h)

pub state_at-line : (lines : List TranscriptLine) (k : ℕ) (l : TranscriptLine) → slice_get lines k ≡ Some l → state_at lines (k + 1) ≡ change (take k lines) (state_at lines k) l
state_at-line lines k l at = ap after (take-one lines k l at) ∙ after-push (take k lines) l

pub state_at-end : (lines : List TranscriptLine) (k : ℕ) → slice_get lines k ≡ None → state_at lines (k + 1) ≡ state_at lines k
state_at-end lines k at = ap after (take-none lines k at)

one-rises : (lines : List TranscriptLine) (k : ℕ) → is_legal lines ≡ true → 0 < (state_at lines k).updates → Rises (state_at lines k) (state_at lines (k + 1))
one-rises lines k h some = by (slice_get lines k) refl
  where
    by : (o : Option TranscriptLine) → slice_get lines k ≡ o → Rises (state_at lines k) (state_at lines (k + 1))
    by None at = let e = state_at-end lines k at in inl (ap (λ (s : State). s.updates) e, ap (λ (s : State). s.zxid) e)
    by (Some l) at = subst (λ (s : State). Rises (state_at lines k) s) (sym (state_at-line lines k l at)) (line-rises (take k lines) (state_at lines k) l (is_legal-at lines k l h at) some)

still-some : (s t : State) → Rises s t → 0 < s.updates → 0 < t.updates
still-some s t (inl a) h = omega (arith, a.0, h)
still-some s t (inr a) h = omega (arith, a.0, h)

rises-by : (lines : List TranscriptLine) (k d : ℕ) → is_legal lines ≡ true → 0 < (state_at lines k).updates → Rises (state_at lines k) (state_at lines (k + d))
rises-by lines k zero h some =
    let e : k + 0 ≡ k = omega arith in
    inl (ap (λ m. (state_at lines m).updates) e, ap (λ m. (state_at lines m).zxid) e)
rises-by lines k (suc d) h some =
    let e : (k + d) + 1 ≡ k + suc d = omega arith in
    let first = rises-by lines k d h some in
    subst (λ m. Rises (state_at lines k) (state_at lines m)) e
    (rises-on (state_at lines k) (state_at lines (k + d)) (state_at lines ((k + d) + 1)) first (one-rises lines (k + d) h (still-some (state_at lines k) (state_at lines (k + d)) first some)))

pub rising : (lines : List TranscriptLine) (k m : ℕ) → is_legal lines ≡ true → k ≤ m → 0 < (state_at lines k).updates → Rises (state_at lines k) (state_at lines m)
rising lines k m h le some = let e : k + (m - k) ≡ m = omega arith in subst (λ n. Rises (state_at lines k) (state_at lines n)) e (rises-by lines k (m - k) h some)

-- ---- by updates

-- the state right after an update's line
pub at-line : (lines : List TranscriptLine) (k : ℕ) (u : UpdateRec) → is_legal lines ≡ true → slice_get lines k ≡ Some (Update u) → IsRaised (state_at lines k) (state_at lines (k + 1)) u.zxid
at-line lines k u h at =
    let may = (and_parts (may_update (take k lines) (state_at lines k) u.zxid u.kind) (is_next_zxid (state_at lines k) u.zxid) (is_legal-at lines k (Update u) h at)).0 in
    subst (λ (s : State). IsRaised (state_at lines k) s u.zxid) (sym (state_at-line lines k (Update u) at)) (updated-raised (take k lines) (state_at lines k) u.zxid u.kind may)

-- no update before a moment has a zxid above the state's
pub below-state : (lines : List TranscriptLine) (k m : ℕ) (u : UpdateRec) → is_legal lines ≡ true → slice_get lines k ≡ Some (Update u) → k < m → u.zxid ≤ℤ (state_at lines m).zxid
below-state lines k m u h at lt =
    let r = at-line lines k u h at in
    go (rising lines (k + 1) m h (omega (arith, lt)) (omega (arith, r.updates))) r
  where
    go : Rises (state_at lines (k + 1)) (state_at lines m) → IsRaised (state_at lines k) (state_at lines (k + 1)) u.zxid → u.zxid ≤ℤ (state_at lines m).zxid
    go (inl a) r = omega (arith, ints, a.1, r.zxid)
    go (inr a) r = omega (arith, ints, a.1, r.zxid)

pub not-below : (lines : List TranscriptLine) (k m : ℕ) → is_legal lines ≡ true → k ≤ m → 0 < (state_at lines k).updates → ((state_at lines k).updates ≤ (state_at lines m).updates) × ((state_at lines k).zxid ≤ℤ (state_at lines m).zxid)
not-below lines k m h le some = elim (rising lines k m h le some) [ inl a ↦ (omega (arith, a.0), omega (arith, ints, a.1)) | inr a ↦ (omega (arith, a.0), omega (arith, ints, a.1)) ]

-- ---- the range of zxids

abbrev pub IsLong : ℤ → Type 0
IsLong z = (pos 0 ≤ℤ z) × (z ≤ℤ max_long)

first-long : IsLong (state_at [] 0).zxid
unfolding after
first-long = (omega (arith, ints), omega (arith, ints))

line-long : (lines : List TranscriptLine) (k : ℕ) (l : TranscriptLine) → is_legal lines ≡ true → HasZxids lines → slice_get lines k ≡ Some l → IsLong (state_at lines k).zxid → IsLong (state_at lines (k + 1)).zxid
line-long lines k (Update u) h least at was =
    let most = long-next (state_at lines k) u.zxid (and_parts (may_update (take k lines) (state_at lines k) u.zxid u.kind) (is_next_zxid (state_at lines k) u.zxid) (is_legal-at lines k (Update u) h at)).1 in
    subst IsLong (sym (at-line lines k u h at).zxid) (least k u at, most)
line-long lines k (Lapse revision id) h least at was =
    subst IsLong (sym (ap (λ (s : State). s.zxid) (state_at-line lines k (Lapse revision id) at) ∙ (lapse-still (state_at lines k) id (session_at id (state_at lines k))).1)) was
line-long lines k (Open a b d e layout) h least at was = subst IsLong (sym (ap (λ (s : State). s.zxid) (state_at-line lines k (Open a b d e layout) at))) was
line-long lines k (FrameLine a b d e) h least at was = subst IsLong (sym (ap (λ (s : State). s.zxid) (state_at-line lines k (FrameLine a b d e) at))) was
line-long lines k (Send a b) h least at was = subst IsLong (sym (ap (λ (s : State). s.zxid) (state_at-line lines k (Send a b) at))) was
line-long lines k (Close a b) h least at was = subst IsLong (sym (ap (λ (s : State). s.zxid) (state_at-line lines k (Close a b) at))) was

pub state-long : (lines : List TranscriptLine) (m : ℕ) → is_legal lines ≡ true → HasZxids lines → IsLong (state_at lines m).zxid
state-long lines zero h least = first-long
state-long lines (suc m) h least =
    let e : m + 1 ≡ suc m = omega arith in
    subst (λ n. IsLong (state_at lines n).zxid) e (by (slice_get lines m) refl (state-long lines m h least))
  where
    by : (o : Option TranscriptLine) → slice_get lines m ≡ o → IsLong (state_at lines m).zxid → IsLong (state_at lines (m + 1)).zxid
    by None at was = subst (λ (s : State). IsLong s.zxid) (sym (state_at-end lines m at)) was
    by (Some l) at was = line-long lines m l h least at was

-- ---- a state with a zxid above 0 has updates

abbrev IsStarted : State → Type 0
IsStarted s = (0 < s.updates) ⊎ (s.zxid ≡ pos 0)

first-started : IsStarted (state_at [] 0)
unfolding after
first-started = inr refl

line-started : (lines : List TranscriptLine) (k : ℕ) (l : TranscriptLine) → is_legal lines ≡ true → slice_get lines k ≡ Some l → IsStarted (state_at lines k) → IsStarted (change (take k lines) (state_at lines k) l)
line-started lines k (Update u) h at was = subst IsStarted (state_at-line lines k (Update u) at) (inl (omega (arith, (at-line lines k u h at).updates)))
line-started lines k (Lapse revision id) h at was =
    let still = lapse-still (state_at lines k) id (session_at id (state_at lines k)) in
    elim was [ inl a ↦ inl (omega (arith, a, still.0)) | inr a ↦ inr (still.1 ∙ a) ]
line-started lines k (Open a b d e layout) h at was = was
line-started lines k (FrameLine a b d e) h at was = was
line-started lines k (Send a b) h at was = was
line-started lines k (Close a b) h at was = was

all-started : (lines : List TranscriptLine) (m : ℕ) → is_legal lines ≡ true → IsStarted (state_at lines m)
all-started lines zero h = first-started
all-started lines (suc m) h =
    let e : m + 1 ≡ suc m = omega arith in
    subst (λ n. IsStarted (state_at lines n)) e (by (slice_get lines m) refl (all-started lines m h))
  where
    by : (o : Option TranscriptLine) → slice_get lines m ≡ o → IsStarted (state_at lines m) → IsStarted (state_at lines (m + 1))
    by None at was = subst IsStarted (sym (state_at-end lines m at)) was
    by (Some l) at was = subst IsStarted (sym (state_at-line lines m l at)) (line-started lines m l h at was)

pub started : (lines : List TranscriptLine) (m : ℕ) → is_legal lines ≡ true → pos 0 <ℤ (state_at lines m).zxid → 0 < (state_at lines m).updates
started lines m h up = elim (all-started lines m h) [ inl a ↦ a | inr a ↦ absurd (omega (arith, ints, a, up)) ]
