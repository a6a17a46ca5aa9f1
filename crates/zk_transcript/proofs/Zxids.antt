-- The zxids of a legal history's updates rise, and its last one is the state's.
use Rattle.std.proofs.Common.{◌≡◌, ℕ, zero, suc, ◌<◌, ◌≤◌, List, [], ◌∷◌, ◌++◌, take, Option, Some, None, refl, sym, ap, ◌∙◌, subst, arith, true, ℤ}
use Rattle.std.specs.Prelude.{◌≤ℤ◌, ◌<ℤ◌, slice_get, is_some}
use Rattle.std.specs.List.{list_all}
use Rattle.std.proofs.lemmas.Bool.{and_parts}
use Rattle.std.proofs.lemmas.Int.{ints}
use Rattle.zk_model.specs.Limits.{max_long}
use Rattle.zk_service.specs.declared.update.UpdateKind.{UpdateKind}
use Rattle.zk_service.specs.declared.update.UpdateKind.TheVariants.{Begin, Session as NewSession, Attach, Asked, Closed, Reaped}
use Rattle.zk_service.specs.declared.update.UpdateRec.{UpdateRec}
use Rattle.zk_transcript.specs.declared.transcript.TranscriptLine.{TranscriptLine}
use Rattle.zk_transcript.specs.declared.transcript.TranscriptLine.TheVariants.{Update, Open, Frame as FrameLine, Send, Lapse, Close}
use Rattle.zk_service.specs.States.{State, Session, Commit, nothing_yet, session_at, committed, lapsed_in}
use Rattle.zk_transcript.specs.History.{asked_commit, updated, change, after, state_at}
use Rattle.zk_transcript.specs.Legal.{may_update, is_next_zxid, is_legal, is_legal_line}
use Rattle.zk_transcript.proofs.Lookups.{Within, front, back, within, slice_get-front, slice_get-back}
use Rattle.zk_transcript.proofs.Placed.{is_legal-at}
use Rattle.zx_base.proofs.Lists.{slice_get-take}
use Rattle.zk_transcript.proofs.Ordered.{all-at}
use Rattle.zk_transcript.proofs.Histories.{above-next, is_still, begin_line, legal-induct, legal-begun}
use Rattle.zk_transcript.proofs.Prefixes.{begins-take, is_legal-take, is_legal-begins}

committed-zxid : (s : State) (z : ℤ) (o : Option Commit) → is_some o ≡ true → (committed s z o).zxid ≡ z
committed-zxid s z None h = absurd (cc)
committed-zxid s z (Some x) h = refl

updated-zxid : (before : List TranscriptLine) (s : State) (z : ℤ) (kind : UpdateKind) → may_update before s z kind ≡ true → (updated before s z kind).zxid ≡ z
unfolding may_update updated
updated-zxid before s z (Begin now) h = refl
updated-zxid before s z (NewSession id c) h = refl
updated-zxid before s z (Attach id c) h = refl
updated-zxid before s z (Asked c i now) h = committed-zxid s z (asked_commit before s z c i now) (and_parts _ (is_some (asked_commit before s z c i now)) h).1
updated-zxid before s z (Closed id c i) h = refl
updated-zxid before s z (Reaped id) h = refl

lapsed-zxid : (s : State) (id : ℤ) (o : Option Session) → (lapsed_in s id o).zxid ≡ s.zxid
lapsed-zxid s id None = refl
lapsed-zxid s id (Some x) = refl

-- the state's zxid does not fall
change-zxid : (before : List TranscriptLine) (s : State) (l : TranscriptLine) → 1 ≤ s.updates → is_legal_line before s l ≡ true → s.zxid ≤ℤ (change before s l).zxid
change-zxid before s (Update u) some h =
    let both = and_parts (may_update before s u.zxid u.kind) (is_next_zxid s u.zxid) h in
    let above = above-next s u.zxid some both.1 in
    omega (arith, ints, updated-zxid before s u.zxid u.kind both.0)
change-zxid before s (Lapse revision id) some h = omega (arith, ints, lapsed-zxid s id (session_at id s))
change-zxid before s (Open c proxy id passwd layout) some h = omega (arith, ints)
change-zxid before s (FrameLine c i z bytes) some h = omega (arith, ints)
change-zxid before s (Send c bytes) some h = omega (arith, ints)
change-zxid before s (Close c end) some h = omega (arith, ints)

-- no update among the lines has a zxid above the state's
abbrev Covers : List TranscriptLine → State → Type 0
Covers lines s = (j : ℕ) (a : UpdateRec) → slice_get lines j ≡ Some (Update a) → a.zxid ≤ℤ s.zxid

covers-last : (before : List TranscriptLine) (s : State) (l : TranscriptLine) (i : ℕ) (a : UpdateRec) → is_legal_line before s l ≡ true → slice_get (l ∷ []) i ≡ Some (Update a) → a.zxid ≤ℤ (change before s l).zxid
covers-last before s l (suc i) a h g = absurd (cc)
covers-last before s l zero a h g =
    let same : Update a ≡ l = cc in
    let legal : is_legal_line before s (Update a) ≡ true = subst (λ (x : TranscriptLine). is_legal_line before s x ≡ true) (sym same) h in
    let both = and_parts (may_update before s a.zxid a.kind) (is_next_zxid s a.zxid) legal in
    subst (λ (x : TranscriptLine). a.zxid ≤ℤ (change before s x).zxid) same (omega (arith, ints, updated-zxid before s a.zxid a.kind both.0))

covers-push : (before : List TranscriptLine) (s : State) (l : TranscriptLine) → Covers before s → 1 ≤ s.updates → is_legal_line before s l ≡ true → Covers (before ++ l ∷ []) (change before s l)
covers-push before s l covers some h j a g = by_place (within before (l ∷ []) j)
  where
    by_place : Within before (l ∷ []) j → a.zxid ≤ℤ (change before s l).zxid
    by_place (front lt) = let old = covers j a (sym (slice_get-front before (l ∷ []) j lt) ∙ g) in let up = change-zxid before s l some h in omega (arith, ints)
    by_place (back i e) = covers-last before s l i a h (sym (ap (slice_get (before ++ l ∷ [])) e ∙ slice_get-back before (l ∷ []) i) ∙ g)

still-no_update : (before : List TranscriptLine) (j : ℕ) (a : UpdateRec) → list_all is_still before ≡ true → slice_get before j ≡ Some (Update a) → ⊥
still-no_update before j a still g = let none : is_still (Update a) ≡ true = all-at is_still before j (Update a) still g in cc

zxid_in : TranscriptLine → ℤ → ℤ
zxid_in (Update u) z = u.zxid
zxid_in _ z = z

covers-first : (before : List TranscriptLine) (z : ℤ) (now : ℕ) → list_all is_still before ≡ true → z ≤ℤ max_long → Covers (before ++ begin_line z now ∷ []) (updated before nothing_yet z (Begin now))
unfolding updated zxid_in
covers-first before z now still most j a g = by_place (within before (begin_line z now ∷ []) j)
  where
    here : (i : ℕ) → slice_get (begin_line z now ∷ []) i ≡ Some (Update a) → a.zxid ≤ℤ z
    here zero e = let same : Update (record { zxid = z; kind = Begin now }) ≡ Update a = cc in let at : z ≡ a.zxid = ap (λ l. zxid_in l z) same in omega (arith, ints, at)
    here (suc i) e = absurd (cc)

    by_place : Within before (begin_line z now ∷ []) j → a.zxid ≤ℤ z
    by_place (front lt) = absurd (still-no_update before j a still (sym (slice_get-front before (begin_line z now ∷ []) j lt) ∙ g))
    by_place (back i e) = here i (sym (ap (slice_get (before ++ begin_line z now ∷ [])) e ∙ slice_get-back before (begin_line z now ∷ []) i) ∙ g)

-- the state's zxid is the greatest of its updates'
pub zxid-covers : (lines : List TranscriptLine) (j : ℕ) (a : UpdateRec) → is_legal lines ≡ true → slice_get lines j ≡ Some (Update a) → a.zxid ≤ℤ (after lines).zxid
zxid-covers lines j a h = legal-induct Covers covers-first covers-push lines h j a

pub zxids-rise : (lines : List TranscriptLine) (j k : ℕ) (a b : UpdateRec) → is_legal lines ≡ true → j < k → slice_get lines j ≡ Some (Update a) → slice_get lines k ≡ Some (Update b) → a.zxid <ℤ b.zxid
zxids-rise lines j k a b legal lt at_j at_k =
    let line = is_legal-at lines k (Update b) legal at_k in
    let both = and_parts (may_update (take k lines) (state_at lines k) b.zxid b.kind) (is_next_zxid (state_at lines k) b.zxid) line in
    let front_legal = is_legal-take lines k (begins-take lines k j a lt at_j (is_legal-begins lines legal)) legal in
    let above = above-next (state_at lines k) b.zxid (legal-begun (take k lines) front_legal) both.1 in
    let covered = zxid-covers (take k lines) j a front_legal (slice_get-take lines k j lt ∙ at_j) in
    omega (arith, ints)
