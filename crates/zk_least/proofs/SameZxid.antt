-- Between two moments of one zxid no update stands: the tree is the same, and a session may only have lapsed.
use Rattle.std.proofs.Common.{◌≡◌, ◌≢◌, ℕ, zero, suc, ◌+◌, ◌≤◌, ◌<◌, List, [], ◌∷◌, ◌++◌, take, drop, take-take, take-append-drop, refl, sym, ap, ◌∙◌, subst, arith, append_assoc, append-nil, true, ℤ, inl, inr}
use Rattle.std.specs.Prelude.{Option, Some, None, ◌≤ℤ◌, slice_get}
use Rattle.std.proofs.lemmas.Int.{ints}
use Rattle.zk_service.specs.declared.update.UpdateRec.{UpdateRec}
use Rattle.zk_transcript.specs.declared.transcript.TranscriptLine.{TranscriptLine}
use Rattle.zk_transcript.specs.declared.transcript.TranscriptLine.TheVariants.{Update, Open, Frame as FrameLine, Send, Lapse, Close}
use Rattle.zk_service.specs.States.{State, Session, lapsed_in, session_at}
use Rattle.zk_transcript.specs.History.{after, change, state_at}
use Rattle.zk_transcript.specs.Legal.{is_legal}
use Rattle.zk_transcript.proofs.Appending.{after-push}
use Rattle.zk_least.proofs.Rising.{IsRaised, not-below, at-line, rising, Rises}
use Rattle.zk_least.proofs.Sessions.{SameOrLapsed, IsGone, lapse-leaves, lapse-other, gone-stays}

-- ---- a later state of the same zxid

pub record IsLag (s t : State) : Type 0 where
  pub tree : t.tree ≡ s.tree
  pub zxid : t.zxid ≡ s.zxid
  pub session : (id : ℤ) → SameOrLapsed s t id

no-lag : (s : State) → IsLag s s
no-lag s = record { tree = refl; zxid = refl; session = λ id. inl refl }

lag-on : (s t u : State) → IsLag s t → IsLag t u → IsLag s u
lag-on s t u a b = record { tree = b.tree ∙ a.tree; zxid = b.zxid ∙ a.zxid; session = λ id. go id (a.session id) (b.session id) }
  where
    go : (id : ℤ) → SameOrLapsed s t id → SameOrLapsed t u id → SameOrLapsed s u id
    go id p (inr q) = inr q
    go id (inl p) (inl q) = inl (q ∙ p)
    go id (inr p) (inl q) = inr (record { session = p.session; there = q ∙ p.there; lapsed = p.lapsed })

lapse-lag : (s : State) (id : ℤ) (o : Option Session) → IsLag s (lapsed_in s id o)
lapse-lag s id None = no-lag s
lapse-lag s id (Some x) = record { tree = refl; zxid = refl; session = λ q. lapse-leaves s q id (Some x) }

-- ---- lines

abbrev pub NoUpdate : TranscriptLine → Type 0
NoUpdate l = (u : UpdateRec) → l ≡ Update u → ⊥

abbrev pub NoUpdates : List TranscriptLine → Type 0
NoUpdates ls = (j : ℕ) (l : TranscriptLine) → slice_get ls j ≡ Some l → NoUpdate l

line-lag : (before : List TranscriptLine) (s : State) (l : TranscriptLine) → NoUpdate l → IsLag s (change before s l)
line-lag before s (Update u) none = absurd (none u refl)
line-lag before s (Lapse revision id) none = lapse-lag s id (session_at id s)
line-lag before s (Open a b d e layout) none = no-lag s
line-lag before s (FrameLine a b d e) none = no-lag s
line-lag before s (Send a b) none = no-lag s
line-lag before s (Close a b) none = no-lag s

cons-append : {A : Type 0} (xs ys : List A) (y : A) → (xs ++ y ∷ []) ++ ys ≡ xs ++ y ∷ ys
cons-append xs ys y = append_assoc xs (y ∷ []) ys

lines-lag : (xs ys : List TranscriptLine) → NoUpdates ys → IsLag (after xs) (after (xs ++ ys))
lines-lag xs [] none = subst (λ l. IsLag (after xs) (after l)) (sym (append-nil xs)) (no-lag (after xs))
lines-lag xs (y ∷ ys) none =
    let one : IsLag (after xs) (after (xs ++ y ∷ [])) = subst (IsLag (after xs)) (sym (after-push xs y)) (line-lag xs (after xs) y (none 0 y refl)) in
    let rest = lines-lag (xs ++ y ∷ []) ys (λ j l e. none (suc j) l e) in
    lag-on (after xs) (after (xs ++ y ∷ [])) (after (xs ++ y ∷ ys)) one (subst (λ l. IsLag (after (xs ++ y ∷ [])) (after l)) (cons-append xs ys y) rest)

-- ---- two moments

-- the lines between two moments
abbrev pub between : ℕ → ℕ → List TranscriptLine → List TranscriptLine
between k m lines = drop k (take m lines)

pub between-is : (lines : List TranscriptLine) (k m : ℕ) → k ≤ m → take k lines ++ between k m lines ≡ take m lines
between-is lines k m le = ap (λ l. l ++ drop k (take m lines)) (sym (take-take k m lines le)) ∙ take-append-drop k (take m lines)

pub get-take : {A : Type 0} (m j : ℕ) (xs : List A) (x : A) → slice_get (take m xs) j ≡ Some x → (j < m) × (slice_get xs j ≡ Some x)
get-take zero j xs x h = absurd (cc)
get-take (suc m) j [] x h = absurd (cc)
get-take (suc m) zero (y ∷ xs) x h = (omega arith, h)
get-take (suc m) (suc j) (y ∷ xs) x h = let q = get-take m j xs x h in (omega (arith, q.0), q.1)

pub get-drop : {A : Type 0} (k j : ℕ) (xs : List A) → slice_get (drop k xs) j ≡ slice_get xs (k + j)
get-drop zero j xs = let e : j ≡ 0 + j = omega arith in ap (slice_get xs) e
get-drop (suc k) j [] = refl
get-drop (suc k) j (x ∷ xs) = let e : suc (k + j) ≡ suc k + j = omega arith in get-drop k j xs ∙ ap (slice_get (x ∷ xs)) e

-- a line between two moments stands after the one and before the other
pub get-between : (lines : List TranscriptLine) (k m j : ℕ) (l : TranscriptLine) → slice_get (between k m lines) j ≡ Some l → (k + j < m) × (slice_get lines (k + j) ≡ Some l)
get-between lines k m j l e = get-take m (k + j) lines l (sym (get-drop k j (take m lines)) ∙ e)

none-between : (lines : List TranscriptLine) (k m : ℕ) → is_legal lines ≡ true → k ≤ m → 0 < (state_at lines k).updates → (state_at lines m).zxid ≡ (state_at lines k).zxid
    → (j : ℕ) (u : UpdateRec) → slice_get (between k m lines) j ≡ Some (Update u) → ⊥
none-between lines k m h le some same j u e =
    let q = get-between lines k m j (Update u) e in
    let r = at-line lines (k + j) u h q.1 in
    let a = not-below lines k (k + j) h (omega arith) some in
    let b = not-below lines ((k + j) + 1) m h (omega (arith, q.0)) (omega (arith, r.updates)) in
    go r a.0 b.1 (rising lines k ((k + j) + 1) h (omega arith) some)
  where
    go : IsRaised (state_at lines (k + j)) (state_at lines ((k + j) + 1)) u.zxid → (state_at lines k).updates ≤ (state_at lines (k + j)).updates → (state_at lines ((k + j) + 1)).zxid ≤ℤ (state_at lines m).zxid
        → Rises (state_at lines k) (state_at lines ((k + j) + 1)) → ⊥
    go r a b (inl f) = omega (arith, f.0, r.updates, a)
    go r a b (inr f) = omega (arith, ints, f.1, b, same)

pub no-updates : (lines : List TranscriptLine) (k m : ℕ) → is_legal lines ≡ true → k ≤ m → 0 < (state_at lines k).updates → (state_at lines m).zxid ≡ (state_at lines k).zxid → NoUpdates (between k m lines)
no-updates lines k m h le some same = λ j l e u f. none-between lines k m h le some same j u (e ∙ ap Some f)

pub moments-lag : (lines : List TranscriptLine) (k m : ℕ) → is_legal lines ≡ true → k ≤ m → 0 < (state_at lines k).updates → (state_at lines m).zxid ≡ (state_at lines k).zxid → IsLag (state_at lines k) (state_at lines m)
moments-lag lines k m h le some same = subst (λ l. IsLag (state_at lines k) (after l)) (between-is lines k m le) (lines-lag (take k lines) (between k m lines) (no-updates lines k m h le some same))

-- ---- between two such moments only a lapse of the session changes it, and none where it is gone

abbrev pub NoLapses : ℤ → List TranscriptLine → Type 0
NoLapses id ls = (j : ℕ) (r : ℤ) → slice_get ls j ≡ Some (Lapse r id) → ⊥

line-keeps : (before : List TranscriptLine) (s : State) (id : ℤ) (l : TranscriptLine) → NoUpdate l → ((r d : ℤ) → l ≡ Lapse r d → id ≢ d) → session_at id (change before s l) ≡ session_at id s
line-keeps before s id (Update u) none still = absurd (none u refl)
line-keeps before s id (Lapse revision d) none still = lapse-other s id d (session_at d s) (still revision d refl)
line-keeps before s id (Open a b d e layout) none still = refl
line-keeps before s id (FrameLine a b d e) none still = refl
line-keeps before s id (Send a b) none still = refl
line-keeps before s id (Close a b) none still = refl

lines-keep : (xs ys : List TranscriptLine) (id : ℤ) → NoUpdates ys → NoLapses id ys → session_at id (after (xs ++ ys)) ≡ session_at id (after xs)
lines-keep xs [] id none still = ap (λ l. session_at id (after l)) (append-nil xs)
lines-keep xs (y ∷ ys) id none still =
    ap (λ l. session_at id (after l)) (sym (cons-append xs ys y))
    ∙ lines-keep (xs ++ y ∷ []) ys id (λ j l e. none (suc j) l e) (λ j r e. still (suc j) r e)
    ∙ ap (session_at id) (after-push xs y)
    ∙ line-keeps xs (after xs) id y (none 0 y refl) (λ r d e same. still 0 r (ap Some e ∙ ap (λ q. Some (Lapse r q)) (sym same)))

pub same-session : (lines : List TranscriptLine) (k m : ℕ) (id : ℤ) → is_legal lines ≡ true → k ≤ m → 0 < (state_at lines k).updates → (state_at lines m).zxid ≡ (state_at lines k).zxid → NoLapses id (between k m lines)
    → session_at id (state_at lines m) ≡ session_at id (state_at lines k)
same-session lines k m id legal le some same still =
    ap (λ l. session_at id (after l)) (sym (between-is lines k m le)) ∙ lines-keep (take k lines) (between k m lines) id (no-updates lines k m legal le some same) still

line-gone : (before : List TranscriptLine) (s : State) (id : ℤ) (l : TranscriptLine) → NoUpdate l → IsGone (session_at id s) → session_at id (change before s l) ≡ session_at id s
line-gone before s id (Update u) none gone = absurd (none u refl)
line-gone before s id (Lapse revision d) none gone = gone-stays s id d gone
line-gone before s id (Open a b d e layout) none gone = refl
line-gone before s id (FrameLine a b d e) none gone = refl
line-gone before s id (Send a b) none gone = refl
line-gone before s id (Close a b) none gone = refl

lines-gone : (xs ys : List TranscriptLine) (id : ℤ) → NoUpdates ys → IsGone (session_at id (after xs)) → session_at id (after (xs ++ ys)) ≡ session_at id (after xs)
lines-gone xs [] id none gone = ap (λ l. session_at id (after l)) (append-nil xs)
lines-gone xs (y ∷ ys) id none gone =
    let one : session_at id (after (xs ++ y ∷ [])) ≡ session_at id (after xs) = ap (session_at id) (after-push xs y) ∙ line-gone xs (after xs) id y (none 0 y refl) gone in
    ap (λ l. session_at id (after l)) (sym (cons-append xs ys y))
    ∙ lines-gone (xs ++ y ∷ []) ys id (λ j l e. none (suc j) l e) (subst IsGone (sym one) gone)
    ∙ one

pub gone-session : (lines : List TranscriptLine) (k m : ℕ) (id : ℤ) → is_legal lines ≡ true → k ≤ m → 0 < (state_at lines k).updates → (state_at lines m).zxid ≡ (state_at lines k).zxid → IsGone (session_at id (state_at lines k))
    → session_at id (state_at lines m) ≡ session_at id (state_at lines k)
gone-session lines k m id legal le some same gone =
    ap (λ l. session_at id (after l)) (sym (between-is lines k m le)) ∙ lines-gone (take k lines) (between k m lines) id (no-updates lines k m legal le some same) gone
