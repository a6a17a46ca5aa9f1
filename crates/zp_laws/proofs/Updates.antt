-- The last update before a moment, and the next one after an update, by their numbers.
use Rattle.std.proofs.Common.{◌≡◌, ℕ, zero, suc, ◌+◌, ◌≤◌, ◌<◌, List, take, refl, sym, ap, ◌∙◌, subst, arith, Bool, true, false, ℤ, inl, inr}
use Rattle.std.specs.Prelude.{Option, Some, None, ◌<ℤ◌, ◌≤ℤ◌, nat_lt, int_lt, slice_get}
use Rattle.std.proofs.lemmas.Int.{ints}
use Rattle.std.proofs.lemmas.Bool.Decides.{nat_tests}
use Rattle.zk_service.specs.States.{State, Session, lapsed_in, session_at}
use Rattle.zk_transcript.specs.History.{after, change, state_at, when}
use Rattle.zk_transcript.specs.Legal.{is_legal}
use Rattle.zk_transcript.specs.Walks.{above_shown, next_update}
use Rattle.zk_transcript.specs.declared.transcript.TranscriptLine.{TranscriptLine}
use Rattle.zk_transcript.specs.declared.transcript.TranscriptLine.TheVariants.{Update, Open, Frame as FrameLine, Send, Lapse, Close}
use Rattle.zk_service.specs.declared.update.UpdateRec.{UpdateRec}
use Rattle.zk_transcript.proofs.Prefixes.{begins-take, is_legal-begins, is_legal-take}
use Rattle.zk_transcript.proofs.Zxids.{zxids-rise}
use Rattle.zk_least.proofs.FirstPlaces.{IsFirstAt, first_place-at, first_place-none}
use Rattle.zk_least.proofs.Firing.{NoneAbove}
use Rattle.zk_least.proofs.Exchange.{not-above}
use Rattle.zk_least.proofs.Rising.{at-line, below-state, not-below, rising, state_at-end, state_at-line}
use Rattle.zk_least.proofs.SameZxid.{get-take}

-- the lines up to a moment after an update are a legal history
pub legal-before : (lines : List TranscriptLine) (m k : ℕ) (u : UpdateRec) → is_legal lines ≡ true → slice_get lines k ≡ Some (Update u) → k < m → is_legal (take m lines) ≡ true
legal-before lines m k u h at lt = is_legal-take lines m (begins-take lines m k u lt at (is_legal-begins lines h)) h

-- two moments with one number of updates have one zxid
pub same-count : (lines : List TranscriptLine) (k m : ℕ) → is_legal lines ≡ true → k ≤ m → 0 < (state_at lines k).updates → (state_at lines m).updates ≡ (state_at lines k).updates → (state_at lines m).zxid ≡ (state_at lines k).zxid
same-count lines k m h le some e = elim (rising lines k m h le some) [ inl a ↦ a.1 | inr a ↦ absurd (omega (arith, a.0, e)) ]

-- no update before a moment is above a zxid that the state then doesn't pass
pub none-above : (lines : List TranscriptLine) (m : ℕ) (p : ℤ) → is_legal lines ≡ true → (state_at lines m).zxid ≤ℤ p → NoneAbove p (take m lines)
none-above lines m p h le = λ j l e. not-above p l (λ v s.
    let q = get-take m j lines l e in
    let b = below-state lines j m v h (q.1 ∙ ap Some s) q.0 in
    omega (arith, ints, b, le))

-- ---- the last update before a moment

pub record IsLast (lines : List TranscriptLine) (m : ℕ) : Type 0 where
  pub place : ℕ
  pub update : UpdateRec
  pub shown : slice_get lines place ≡ Some (Update update)
  pub before : place < m
  pub zxid : (state_at lines m).zxid ≡ update.zxid
  pub count : (state_at lines (place + 1)).updates ≡ (state_at lines m).updates

abbrev SameCount : State → State → Type 0
SameCount s t = (t.updates ≡ s.updates) × (t.zxid ≡ s.zxid)

lapse-still : (s : State) (id : ℤ) (o : Option Session) → SameCount s (lapsed_in s id o)
lapse-still s id None = (refl, refl)
lapse-still s id (Some x) = (refl, refl)

nothing-first : (lines : List TranscriptLine) → (state_at lines 0).updates ≡ 0
unfolding after
nothing-first lines = refl

still-last : (lines : List TranscriptLine) (m : ℕ) → SameCount (state_at lines m) (state_at lines (m + 1)) → (1 ≤ (state_at lines m).updates → IsLast lines m) → 1 ≤ (state_at lines (m + 1)).updates → IsLast lines (m + 1)
still-last lines m same was some =
    let t = was (omega (arith, some, same.0)) in
    record { place = t.place; update = t.update; shown = t.shown; before = omega (arith, t.before); zxid = same.1 ∙ t.zxid; count = t.count ∙ sym same.0 }

line-last : (lines : List TranscriptLine) (m : ℕ) (l : TranscriptLine) → slice_get lines m ≡ Some l → SameCount (state_at lines m) (change (take m lines) (state_at lines m) l) → SameCount (state_at lines m) (state_at lines (m + 1))
line-last lines m l at same = subst (λ s. SameCount (state_at lines m) s) (sym (state_at-line lines m l at)) same

pub last-update : (lines : List TranscriptLine) (m : ℕ) → is_legal lines ≡ true → 1 ≤ (state_at lines m).updates → IsLast lines m
last-update lines zero h some = absurd (omega (arith, some, nothing-first lines))
last-update lines (suc m) h some =
    let e : m + 1 ≡ suc m = omega arith in
    subst (IsLast lines) e (by (slice_get lines m) refl (last-update lines m h) (subst (λ n. 1 ≤ (state_at lines n).updates) (sym e) some))
  where
    by : (o : Option TranscriptLine) → slice_get lines m ≡ o → (1 ≤ (state_at lines m).updates → IsLast lines m) → 1 ≤ (state_at lines (m + 1)).updates → IsLast lines (m + 1)
    by None at was up = still-last lines m (subst (λ s. SameCount (state_at lines m) s) (sym (state_at-end lines m at)) (refl, refl)) was up
    by (Some (Update u)) at was up = record { place = m; update = u; shown = at; before = omega arith; zxid = (at-line lines m u h at).zxid; count = refl }
    by (Some (Open a b c d layout)) at was up = still-last lines m (line-last lines m (Open a b c d layout) at (refl, refl)) was up
    by (Some (FrameLine a b c d)) at was up = still-last lines m (line-last lines m (FrameLine a b c d) at (refl, refl)) was up
    by (Some (Send a b)) at was up = still-last lines m (line-last lines m (Send a b) at (refl, refl)) was up
    by (Some (Lapse r id)) at was up = still-last lines m (line-last lines m (Lapse r id) at (lapse-still (state_at lines m) id (session_at id (state_at lines m)))) was up
    by (Some (Close a b)) at was up = still-last lines m (line-last lines m (Close a b) at (refl, refl)) was up

-- ---- the next update

-- the update at e is the next one after that at k
pub record IsNext (lines : List TranscriptLine) (k e : ℕ) (u v : UpdateRec) : Type 0 where
  pub legal : is_legal lines ≡ true
  pub last : slice_get lines k ≡ Some (Update u)
  pub next : slice_get lines e ≡ Some (Update v)
  pub count : (state_at lines (e + 1)).updates ≡ (state_at lines (k + 1)).updates + 1

pub next-after : (lines : List TranscriptLine) (k e : ℕ) (u v : UpdateRec) → IsNext lines k e u v → k < e
next-after lines k e u v n = go (nat_lt k e) refl
  where
    go : (b : Bool) → nat_lt k e ≡ b → k < e
    go true h = grind (arith, nat_tests)
    go false h =
        let le : e ≤ k = grind (arith, nat_tests) in
        let r = at-line lines e v n.legal n.next in
        absurd (omega (arith, (not-below lines (e + 1) (k + 1) n.legal (omega (arith, le)) (omega (arith, r.updates))).0, n.count))

-- no update stands between them
none-between : (lines : List TranscriptLine) (k e j : ℕ) (u v x : UpdateRec) → IsNext lines k e u v → k < j → j < e → slice_get lines j ≡ Some (Update x) → ⊥
none-between lines k e j u v x n a b h =
    let r = at-line lines k u n.legal n.last in
    let s = at-line lines j x n.legal h in
    let t = at-line lines e v n.legal n.next in
    let one = (not-below lines (k + 1) j n.legal (omega (arith, a)) (omega (arith, r.updates))).0 in
    let two = (not-below lines (j + 1) e n.legal (omega (arith, b)) (omega (arith, s.updates))).0 in
    omega (arith, one, two, s.updates, t.updates, n.count)

-- an update before the next one isn't above the last
before-next : (lines : List TranscriptLine) (k e j : ℕ) (u v x : UpdateRec) → IsNext lines k e u v → j < e → slice_get lines j ≡ Some (Update x) → x.zxid ≤ℤ u.zxid
before-next lines k e j u v x n lt h = go (nat_lt j k) (nat_lt k j) refl refl
  where
    go : (p q : Bool) → nat_lt j k ≡ p → nat_lt k j ≡ q → x.zxid ≤ℤ u.zxid
    go true q a b = let less = zxids-rise lines j k x u n.legal (grind (arith, nat_tests)) h n.last in omega (arith, ints, less)
    go false true a b = absurd (none-between lines k e j u v x n (grind (arith, nat_tests)) lt h)
    go false false a b =
        let same : j ≡ k = grind (arith, nat_tests) in
        let e : Some (Update x) ≡ Some (Update u) = sym h ∙ ap (slice_get lines) same ∙ n.last in
        let both : x ≡ u = cc in
        omega (arith, ints, ap (λ (w : UpdateRec). w.zxid) both)

when-some : {A : Type 0} (b : Bool) (x y : A) → when b x ≡ Some y → (b ≡ true) × (x ≡ y)
when-some true x y h = (refl, cc)
when-some false x y h = absurd (cc)

above-is : (p : ℤ) (l : TranscriptLine) (z : ℤ) → above_shown p l ≡ Some z → (u : UpdateRec) × (l ≡ Update u) × (p <ℤ u.zxid) × (u.zxid ≡ z)
above-is p (Update u) z h = let w = when-some (int_lt p u.zxid) u.zxid z h in (u, refl, grind (arith, nat_tests, ints, w.0), w.1)
above-is p (Open a b c d layout) z h = absurd (cc)
above-is p (FrameLine a b c d) z h = absurd (cc)
above-is p (Send a b) z h = absurd (cc)
above-is p (Lapse a b) z h = absurd (cc)
above-is p (Close a b) z h = absurd (cc)

above-it : (p : ℤ) (u : UpdateRec) → p <ℤ u.zxid → above_shown p (Update u) ≡ Some u.zxid
above-it p u up = let t : int_lt p u.zxid ≡ true = grind (arith, nat_tests, ints) in ap (λ b. when b u.zxid) t

pub next-is : (lines : List TranscriptLine) (k e : ℕ) (u v : UpdateRec) → IsNext lines k e u v → next_update u.zxid lines ≡ Some (e, v.zxid)
next-is lines k e u v n = by (next_update u.zxid lines) refl
  where
    up : u.zxid <ℤ v.zxid
    up = zxids-rise lines k e u v n.legal (next-after lines k e u v n) n.last n.next

    found : (x : ℕ × ℤ) → (f : IsFirstAt (above_shown u.zxid) 0 lines x) → (a b : Bool) → nat_lt f.place e ≡ a → nat_lt e f.place ≡ b → Some x ≡ Some (e, v.zxid)
    found x f true b p q =
        let a = above-is u.zxid f.line x.1 f.shown in
        let le = before-next lines k e f.place u v a.0 n (grind (arith, nat_tests)) (f.there ∙ ap Some a.1) in
        absurd (omega (arith, ints, le, a.2))
    found x f false true p q =
        let none = f.before e (Update v) (grind (arith, nat_tests)) n.next in
        absurd (no_some (sym none ∙ above-it u.zxid v up))
      where
        no_some : {z : ℤ} → None ≡ Some z → ⊥
        no_some h = cc
    found x f false false p q =
        let same : f.place ≡ e = grind (arith, nat_tests) in
        let line : f.line ≡ Update v = (let h : Some f.line ≡ Some (Update v) = sym f.there ∙ ap (slice_get lines) same ∙ n.next in cc) in
        let z : v.zxid ≡ x.1 = (let h : Some v.zxid ≡ Some x.1 = sym (above-it u.zxid v up) ∙ ap (above_shown u.zxid) (sym line) ∙ f.shown in cc) in
        let i : x.0 ≡ e = omega (arith, f.at, same) in
        λ j. Some (i j, sym z j)

    by : (o : Option (ℕ × ℤ)) → next_update u.zxid lines ≡ o → o ≡ Some (e, v.zxid)
    by None h =
        let none = first_place-none (above_shown u.zxid) 0 lines h e (Update v) n.next in
        absurd (let f : None ≡ Some v.zxid = sym none ∙ above-it u.zxid v up in cc)
    by (Some x) h = let f = first_place-at (above_shown u.zxid) 0 lines x h in found x f (nat_lt f.place e) (nat_lt e f.place) refl refl

-- it stands before each moment whose number reaches its own
pub next-within : (lines : List TranscriptLine) (k e m : ℕ) (u v : UpdateRec) → IsNext lines k e u v → (state_at lines (k + 1)).updates < (state_at lines m).updates → e < m
next-within lines k e m u v n more = go (nat_lt e m) refl
  where
    go : (b : Bool) → nat_lt e m ≡ b → e < m
    go true h = grind (arith, nat_tests)
    go false h =
        let le : m ≤ e = grind (arith, nat_tests) in
        let t = at-line lines e v n.legal n.next in
        absurd (omega (arith, (not-below lines m e n.legal le (omega (arith, more))).0, more, t.updates, n.count))
