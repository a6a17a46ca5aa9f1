-- What holds right after Begin, and is kept by each legal line after it, holds after each legal history.
use Rattle.std.proofs.Common.{◌≡◌, ℕ, ◌+◌, ◌≤◌, List, [], ◌∷◌, ◌++◌, Option, Some, None, refl, sym, subst, arith, Bool, true, false, ℤ, append_assoc, append-nil}
use Rattle.std.specs.Prelude.{◌≤ℤ◌, ◌<ℤ◌, ◌||◌, ◌==◌, int_lt, int_le}
use Rattle.std.specs.List.{list_all}
use Rattle.std.proofs.lemmas.Bool.{and_parts}
use Rattle.std.proofs.lemmas.Bool.Decides.{nat_tests}
use Rattle.std.proofs.lemmas.Int.{ints}
use Rattle.zk_model.specs.Limits.{max_long}
use Rattle.zk_service.specs.declared.update.UpdateKind.{UpdateKind}
use Rattle.zk_service.specs.declared.update.UpdateKind.TheVariants.{Begin, Session as NewSession, Attach, Asked, Closed, Reaped}
use Rattle.zk_transcript.specs.declared.transcript.TranscriptLine.{TranscriptLine}
use Rattle.zk_transcript.specs.declared.transcript.TranscriptLine.TheVariants.{Update, Open, Frame as FrameLine, Send, Lapse, Close}
use Rattle.zk_service.specs.States.{State, Session, Commit, nothing_yet, session_at, committed, lapsed_in}
use Rattle.zk_transcript.specs.History.{asked_commit, updated, change, after, after_from, first_place, first_shown, update_in}
use Rattle.zk_transcript.specs.Legal.{may_update, is_next_zxid, is_legal, is_legal_from, is_legal_line, begins}
use Rattle.zk_transcript.proofs.Lookups.{first_shown-new}
use Rattle.zx_base.proofs.Booleans.{or-second, or-other}

-- ---- the next zxid

some_updates : (n : ℕ) → 1 ≤ n → (n == 0) ≡ false
some_updates n some = grind (arith, nat_tests)

pub above-next : (s : State) (z : ℤ) → 1 ≤ s.updates → is_next_zxid s z ≡ true → s.zxid <ℤ z
above-next s z some h =
    let up = or-other (s.updates == 0) (int_lt s.zxid z) (some_updates s.updates some) (and_parts (s.updates == 0 || int_lt s.zxid z) (int_le z max_long) h).0 in
    grind (arith, ints, up)

pub long-next : (s : State) (z : ℤ) → is_next_zxid s z ≡ true → z ≤ℤ max_long
long-next s z h = let most = (and_parts (s.updates == 0 || int_lt s.zxid z) (int_le z max_long) h).1 in grind (arith, ints, most)

-- a greater zxid may come next
pub next-above : (s : State) (z : ℤ) → s.zxid <ℤ z → z ≤ℤ max_long → is_next_zxid s z ≡ true
next-above s z above most =
    let up : int_lt s.zxid z ≡ true = grind (arith, ints) in
    let long : int_le z max_long ≡ true = grind (arith, ints) in
    rw (or-second (s.updates == 0) (int_lt s.zxid z) up) long

-- ---- Begin comes once

pub not-begin : (before : List TranscriptLine) (s : State) (z : ℤ) (now : ℕ) → 1 ≤ s.updates → may_update before s z (Begin now) ≡ true → ⊥
unfolding may_update
not-begin before s z now some h = let none : s.updates ≡ 0 = grind (arith, nat_tests, h) in omega (arith, none)

committed-updates : (s : State) (z : ℤ) (o : Option Commit) → 1 ≤ s.updates → 1 ≤ (committed s z o).updates
committed-updates s z None some = some
committed-updates s z (Some x) some = omega arith

updated-some : (before : List TranscriptLine) (s : State) (z : ℤ) (kind : UpdateKind) → 1 ≤ s.updates → 1 ≤ (updated before s z kind).updates
unfolding updated
updated-some before s z (Begin now) some = omega arith
updated-some before s z (NewSession id c) some = omega arith
updated-some before s z (Attach id c) some = omega arith
updated-some before s z (Asked c i now) some = committed-updates s z (asked_commit before s z c i now) some
updated-some before s z (Closed id c i) some = omega arith
updated-some before s z (Reaped id) some = omega arith

lapsed-some : (s : State) (id : ℤ) (o : Option Session) → 1 ≤ s.updates → 1 ≤ (lapsed_in s id o).updates
lapsed-some s id None some = some
lapsed-some s id (Some x) some = some

change-some : (before : List TranscriptLine) (s : State) (l : TranscriptLine) → 1 ≤ s.updates → 1 ≤ (change before s l).updates
change-some before s (Update u) some = updated-some before s u.zxid u.kind some
change-some before s (Lapse revision id) some = lapsed-some s id (session_at id s) some
change-some before s (Open c proxy id passwd layout) some = some
change-some before s (FrameLine c i z bytes) some = some
change-some before s (Send c bytes) some = some
change-some before s (Close c end) some = some

-- ---- the induction

-- neither an update nor a lapse
abbrev pub is_still : TranscriptLine → Bool
is_still (Update u) = false
is_still (Lapse revision id) = false
is_still _ = true

abbrev pub begin_line : ℤ → ℕ → TranscriptLine
begin_line z now = Update (record { zxid = z; kind = Begin now })

still-push : (before : List TranscriptLine) (l : TranscriptLine) → list_all is_still before ≡ true → is_still l ≡ true → list_all is_still (before ++ l ∷ []) ≡ true
still-push [] l all h = rw h refl
still-push (x ∷ before) l all h =
    let both = and_parts (is_still x) (list_all is_still before) all in
    rw both.0 (still-push before l both.1 h)

module _ (P : List TranscriptLine → State → Type 0)
    (first : (before : List TranscriptLine) (z : ℤ) (now : ℕ) → list_all is_still before ≡ true → z ≤ℤ max_long → P (before ++ begin_line z now ∷ []) (updated before nothing_yet z (Begin now)))
    (next : (before : List TranscriptLine) (s : State) (l : TranscriptLine) → P before s → 1 ≤ s.updates → is_legal_line before s l ≡ true → P (before ++ l ∷ []) (change before s l)) where
  on : (before : List TranscriptLine) (s : State) (ls : List TranscriptLine) → P before s → 1 ≤ s.updates → is_legal_from before s ls ≡ true → P (before ++ ls) (after_from before s ls)
  on before s [] was some h = subst (λ (ls : List TranscriptLine). P ls s) (sym (append-nil before)) was
  on before s (l ∷ ls) was some h =
      let both = and_parts (is_legal_line before s l) (is_legal_from (before ++ l ∷ []) (change before s l) ls) h in
      subst (λ (all : List TranscriptLine). P all (after_from (before ++ l ∷ []) (change before s l) ls)) (append_assoc before (l ∷ []) ls)
      (on (before ++ l ∷ []) (change before s l) ls (next before s l was some both.0) (change-some before s l some) both.1)

  -- Begin, and the lines after it
  from_begin : (before : List TranscriptLine) (z : ℤ) (kind : UpdateKind) (ls : List TranscriptLine) → list_all is_still before ≡ true → begins (Update (record { zxid = z; kind = kind }) ∷ ls) ≡ true
      → is_legal_from before nothing_yet (Update (record { zxid = z; kind = kind }) ∷ ls) ≡ true → P (before ++ Update (record { zxid = z; kind = kind }) ∷ ls) (after_from before nothing_yet (Update (record { zxid = z; kind = kind }) ∷ ls))
  unfolding updated
  from_begin before z (Begin now) ls still begin h =
      let line = and_parts (is_legal_line before nothing_yet (begin_line z now)) (is_legal_from (before ++ begin_line z now ∷ []) (updated before nothing_yet z (Begin now)) ls) h in
      let long = long-next nothing_yet z (and_parts (may_update before nothing_yet z (Begin now)) (is_next_zxid nothing_yet z) line.0).1 in
      subst (λ (all : List TranscriptLine). P all (after_from (before ++ begin_line z now ∷ []) (updated before nothing_yet z (Begin now)) ls)) (append_assoc before (begin_line z now ∷ []) ls)
      (on (before ++ begin_line z now ∷ []) (updated before nothing_yet z (Begin now)) ls (first before z now still long) (omega arith) line.1)
  from_begin before z (NewSession id c) ls still begin h = absurd (cc)
  from_begin before z (Attach id c) ls still begin h = absurd (cc)
  from_begin before z (Asked c i now) ls still begin h = absurd (cc)
  from_begin before z (Closed id c i) ls still begin h = absurd (cc)
  from_begin before z (Reaped id) ls still begin h = absurd (cc)

  -- a line before Begin
  skip : (before : List TranscriptLine) (l : TranscriptLine) (ls : List TranscriptLine) → P ((before ++ l ∷ []) ++ ls) (after_from (before ++ l ∷ []) nothing_yet ls) → P (before ++ l ∷ ls) (after_from (before ++ l ∷ []) nothing_yet ls)
  skip before l ls p = subst (λ (all : List TranscriptLine). P all (after_from (before ++ l ∷ []) nothing_yet ls)) (append_assoc before (l ∷ []) ls) p

  from_start : (before ls : List TranscriptLine) → list_all is_still before ≡ true → begins ls ≡ true → is_legal_from before nothing_yet ls ≡ true → P (before ++ ls) (after_from before nothing_yet ls)
  from_start before [] still begin h = absurd (cc)
  from_start before (Update u ∷ ls) still begin h = from_begin before u.zxid u.kind ls still begin h
  from_start before (Lapse revision id ∷ ls) still begin h = absurd (cc)
  from_start before (Open c proxy id passwd layout ∷ ls) still begin h =
      skip before (Open c proxy id passwd layout) ls (from_start (before ++ Open c proxy id passwd layout ∷ []) ls (still-push before (Open c proxy id passwd layout) still refl) begin h)
  from_start before (FrameLine c i z bytes ∷ ls) still begin h =
      skip before (FrameLine c i z bytes) ls (from_start (before ++ FrameLine c i z bytes ∷ []) ls (still-push before (FrameLine c i z bytes) still refl) begin h)
  from_start before (Send c bytes ∷ ls) still begin h =
      skip before (Send c bytes) ls (from_start (before ++ Send c bytes ∷ []) ls (still-push before (Send c bytes) still refl) begin h)
  from_start before (Close c end ∷ ls) still begin h =
      skip before (Close c end) ls (from_start (before ++ Close c end ∷ []) ls (still-push before (Close c end) still refl) begin h)

  pub legal-induct : (lines : List TranscriptLine) → is_legal lines ≡ true → P lines (after lines)
  unfolding is_legal after
  legal-induct lines h = let both = and_parts (begins lines) (is_legal_from [] nothing_yet lines) h in from_start [] lines refl both.0 both.1

-- ---- there was an update

begun-some : (before : List TranscriptLine) (z : ℤ) (now : ℕ) → list_all is_still before ≡ true → z ≤ℤ max_long → 1 ≤ (updated before nothing_yet z (Begin now)).updates
unfolding updated
begun-some before z now still most = omega arith

pub legal-begun : (lines : List TranscriptLine) → is_legal lines ≡ true → 1 ≤ (after lines).updates
legal-begun lines h = legal-induct (λ lines s. 1 ≤ s.updates) begun-some (λ before s l was some legal. change-some before s l some) lines h

-- ---- look-ups over lines before Begin

module _ {A : Type 0} (show : TranscriptLine → Option A) (unshown : (l : TranscriptLine) → is_still l ≡ true → show l ≡ None) where
  pub first_place-still : (k : ℕ) (before : List TranscriptLine) → list_all is_still before ≡ true → first_place show k before ≡ None
  first_place-still k [] still = refl
  first_place-still k (l ∷ before) still =
      let both = and_parts (is_still l) (list_all is_still before) still in
      rw (first_place, unshown l both.0) (first_place-still (k + 1) before both.1)

  pub first_shown-still : (before : List TranscriptLine) → list_all is_still before ≡ true → first_shown show before ≡ None
  first_shown-still [] still = refl
  first_shown-still (l ∷ before) still =
      let both = and_parts (is_still l) (list_all is_still before) still in
      rw (first_shown, unshown l both.0) (first_shown-still before both.1)

pub first_shown-push : {A : Type 0} (show : TranscriptLine → Option A) (ls more : List TranscriptLine) (x : A) → first_shown show ls ≡ Some x → first_shown show (ls ++ more) ≡ Some x
first_shown-push show [] more x h = absurd (cc)
first_shown-push {A} show (l ∷ ls) more x h =
    elim (show l) as (λ o. ◌≡◌ {A = Option A} (elim o [ Some y ↦ Some y | None ↦ first_shown show ls ]) (Some x) → ◌≡◌ {A = Option A} (elim o [ Some y ↦ Some y | None ↦ first_shown show (ls ++ more) ]) (Some x)) [
      | Some y ↦ λ e. e
      | None ↦ λ e. first_shown-push show ls more x e
    ] h

no_update : (l : TranscriptLine) → is_still l ≡ true → update_in l ≡ None
no_update (Update u) h = absurd (cc)
no_update (Lapse revision id) h = refl
no_update (Open c proxy id passwd layout) h = refl
no_update (FrameLine c i z bytes) h = refl
no_update (Send c bytes) h = refl
no_update (Close c end) h = refl

-- the first update is Begin
pub first_update-begins : (before : List TranscriptLine) (z : ℤ) (now : ℕ) → list_all is_still before ≡ true → first_shown update_in (before ++ begin_line z now ∷ []) ≡ Some (record { zxid = z; kind = Begin now })
first_update-begins before z now still = first_shown-new update_in before (begin_line z now) (first_shown-still update_in no_update before still)
