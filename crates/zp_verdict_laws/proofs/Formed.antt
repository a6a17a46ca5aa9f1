-- Each line of a run is one that a run of the service can have written where it stands.
use Rattle.std.proofs.Common.{◌≡◌, ◌≤◌, ℕ, ℤ, zero, suc, ◌+◌, List, [], ◌∷◌, ◌++◌, length, take, drop, refl, sym, ap, ◌∙◌, subst, append_assoc, arith, Bool, true, false, pos}
use Rattle.std.proofs.Math.Seq.{take-append_seam}
use Rattle.std.proofs.lemmas.Bool.Decides.{Decides-int_eq, nat_tests}
use Rattle.std.proofs.lemmas.Bool.{and_from, and_parts}
use Rattle.std.proofs.lemmas.Int.{ints}
use Rattle.std.specs.Prelude.{Option, Some, None, if◌then◌else◌, int_le, int_lt, is_none, is_some, nat_le, not, slice_get, ◌<ℤ◌, ◌&&◌, ◌||◌, ◌==◌}
use Rattle.zk_service.specs.declared.fresh.Fresh.{Fresh}
use Rattle.zk_model.specs.declared.layout.Layout.{Layout}
use Rattle.zk_legal.specs.Faults.{comes_after_begin, has_event, history_fault, history_fault_from, is_history_line, is_in_range, is_timely, or_empty}
use Rattle.zk_legal.specs.Formed.{frames_of, has_begun, is_closed, is_formed_line, is_kind_formed, is_opened}
use Rattle.zk_model.specs.Limits.{max_frame, max_time}
use Rattle.zk_model.specs.declared.connect.ConnectRequest.{ConnectRequest}
use Rattle.zk_transcript.proofs.Appending.{after-push}
use Rattle.zk_transcript.proofs.Histories.{legal-begun, not-begin}
use Rattle.zk_transcript.proofs.Lookups.{slice_get-back}
use Rattle.zk_transcript.proofs.Placed.{is_legal-at}
use Rattle.zk_transcript.proofs.Prefixes.{is_legal-take}
use Rattle.zk_transcript.proofs.Zxids.{zxids-rise}
use Rattle.zk_transcript.specs.Conversations.{IsShownFresh, close_shown}
use Rattle.zk_service.specs.States.{State, nothing_yet, session_at}
use Rattle.zk_transcript.specs.History.{after, asked_commit, change, connect, first_shown, frame, opening, request, begin_lines}
use Rattle.zk_transcript.specs.Legal.{asks_anew, attach_of, begins, is_begin, is_close, is_legal, is_legal_line, is_next_zxid, is_resumed_by, is_small_frame, is_within_parts, may_attach, may_update, offers}
use Rattle.zk_service.specs.declared.cause.Ended.{Ended as SomeEnd}
use Rattle.zk_transcript.specs.declared.transcript.TranscriptLine.TheVariants.{Close, Frame as FrameLine, Lapse, Open, Send, Update}
use Rattle.zk_transcript.specs.declared.transcript.TranscriptLine.{TranscriptLine}
use Rattle.zk_service.specs.declared.update.UpdateKind.TheVariants.{Asked, Attach, Begin, Closed, Reaped, Session as NewSession}
use Rattle.zk_service.specs.declared.update.UpdateKind.{UpdateKind}
use Rattle.zk_service.specs.declared.update.UpdateRec.{UpdateRec}
use Rattle.zp_verdict_laws.proofs.Meaning.{framed-opened, found-as}
use Rattle.zp_verdict_laws.proofs.Progress.{Broken, Ended, Opened, Progress, Unused, broken-later, progress, progress-append, progressed, takes}
use Rattle.zx_base.proofs.Options.{some_is}
use Rattle.zx_base.proofs.Booleans.{same-test as same-nat}

-- ---- a line that breaks nothing

module _ (before : List TranscriptLine) (c : ℕ) where
  -- a line of its own, where its kind leads from here to there
  stepped : (l : TranscriptLine) (p q : Progress) → progress c before ≡ p → progressed c p l ≡ q → progress c (before ++ l ∷ []) ≡ q
  stepped l p q e f = progress-append c before (l ∷ []) ∙ ap (λ r. progressed c r l) e ∙ f

  own-line : (p q : Progress) → (if c == c then q else p) ≡ q
  own-line p q = ap (λ b. if b then q else p) (same-nat c)

  open-unopened : (proxy : ℕ) (id : ℤ) (passwd : List ℕ) (layout : Layout) → (progress c (before ++ Open c proxy id passwd layout ∷ []) ≡ Broken → ⊥) → is_some (opening c before) ≡ false
  open-unopened proxy id passwd layout unbroken = go (progress c before) refl
    where
      go : (p : Progress) → progress c before ≡ p → is_some (opening c before) ≡ false
      go Unused e = ap is_some (found-as c before Unused e).unopened
      go (Opened n) e = absurd (unbroken (stepped (Open c proxy id passwd layout) (Opened n) Broken e (own-line (Opened n) Broken)))
      go Ended e = absurd (unbroken (stepped (Open c proxy id passwd layout) Ended Broken e (own-line Ended Broken)))
      go Broken e = absurd (unbroken (stepped (Open c proxy id passwd layout) Broken Broken e (own-line Broken Broken)))

  -- it is open
  record IsStillOpen : Type 0 where
    opened : is_some (opening c before) ≡ true
    unclosed : is_some (first_shown (close_shown c) before) ≡ false

  still-open : (n : ℕ) → progress c before ≡ Opened n → IsStillOpen
  still-open n e = let s = found-as c before (Opened n) e in record { opened = ap is_some s.opened; unclosed = ap is_some s.unclosed }

  send-open : (bytes : List ℕ) → (progress c (before ++ Send c bytes ∷ []) ≡ Broken → ⊥) → IsStillOpen
  send-open bytes unbroken = go (progress c before) refl
    where
      go : (p : Progress) → progress c before ≡ p → IsStillOpen
      go Unused e = absurd (unbroken (stepped (Send c bytes) Unused Broken e (own-line Unused Broken)))
      go (Opened n) e = still-open n e
      go Ended e = absurd (unbroken (stepped (Send c bytes) Ended Broken e (own-line Ended Broken)))
      go Broken e = absurd (unbroken (stepped (Send c bytes) Broken Broken e (own-line Broken Broken)))

  close-unclosed : (end : SomeEnd) → (progress c (before ++ Close c end ∷ []) ≡ Broken → ⊥) → is_some (first_shown (close_shown c) before) ≡ false
  close-unclosed end unbroken = go (progress c before) refl
    where
      go : (p : Progress) → progress c before ≡ p → is_some (first_shown (close_shown c) before) ≡ false
      go Unused e = ap is_some (found-as c before Unused e).unclosed
      go (Opened n) e = ap is_some (found-as c before (Opened n) e).unclosed
      go Ended e = absurd (unbroken (stepped (Close c end) Ended Broken e (own-line Ended Broken)))
      go Broken e = absurd (unbroken (stepped (Close c end) Broken Broken e (own-line Broken Broken)))

  -- its next frame, within the limit
  record IsOwnNextFrame (i : ℕ) (bytes : List ℕ) : Type 0 where
    open_still : IsStillOpen
    index : (i == frames_of c before) ≡ true
    small : nat_le (length bytes) max_frame ≡ true

  frame-next : (i : ℕ) (z : ℤ) (bytes : List ℕ) → (progress c (before ++ FrameLine c i z bytes ∷ []) ≡ Broken → ⊥) → IsOwnNextFrame i bytes
  frame-next i z bytes unbroken = go (progress c before) refl
    where
      tests : (n : ℕ) → progress c before ≡ Opened n → (b : Bool) → ((i == n) && nat_le (length bytes) max_frame) ≡ b → IsOwnNextFrame i bytes
      tests n e true h =
          let q = and_parts (i == n) (nat_le (length bytes) max_frame) h in
          record { open_still = still-open n e; index = ap (λ m. i == m) (found-as c before (Opened n) e).count ∙ q.0; small = q.1 }
      tests n e false h = absurd (unbroken (stepped (FrameLine c i z bytes) (Opened n) Broken e (own-line (Opened n) (takes i bytes (Opened n)) ∙ ap (λ b. if b then Opened (n + 1) else Broken) h)))

      go : (p : Progress) → progress c before ≡ p → IsOwnNextFrame i bytes
      go Unused e = absurd (unbroken (stepped (FrameLine c i z bytes) Unused Broken e (own-line Unused Broken)))
      go (Opened n) e = tests n e ((i == n) && nat_le (length bytes) max_frame) refl
      go Ended e = absurd (unbroken (stepped (FrameLine c i z bytes) Ended Broken e (own-line Ended Broken)))
      go Broken e = absurd (unbroken (stepped (FrameLine c i z bytes) Broken Broken e (own-line Broken Broken)))

  -- what has a frame was opened
  small-opened : (i : ℕ) → (progress c before ≡ Broken → ⊥) → is_small_frame (frame c i before) ≡ true → is_some (opening c before) ≡ true
  small-opened i unbroken small = go (frame c i before) refl small
    where
      go : (o : Option (List ℕ)) → frame c i before ≡ o → is_small_frame o ≡ true → is_some (opening c before) ≡ true
      go None e h = absurd (cc)
      go (Some bytes) e h = ap is_some (framed-opened c before i bytes unbroken e).1

-- ---- an update's connection is open

attach-frame : (before : List TranscriptLine) (c : ℕ) (z : ℤ) (o : Option ConnectRequest) → may_attach before c z o ≡ true → is_small_frame (frame c 0 before) ≡ true
attach-frame before c z None h = absurd (cc)
attach-frame before c z (Some r) h = (and_parts (is_none (attach_of c before)) (is_small_frame (frame c 0 before)) (and_parts _ (int_lt r.last_zxid z) h).0).1

offer-some : (id : ℤ) (o : Option Fresh) → offers id o ≡ true → is_some o ≡ true
offer-some id None h = absurd (cc)
offer-some id (Some o) h = refl

kind-formed : (before : List TranscriptLine) (s : State) (z : ℤ) (kind : UpdateKind) → ((c : ℕ) → progress c before ≡ Broken → ⊥) → may_update before s z kind ≡ true → is_kind_formed before kind ≡ true
unfolding may_update is_opened
kind-formed before s z (Begin now) unbroken may = refl
kind-formed before s z (NewSession id c) unbroken may = offer-some id (opening c before) (and_parts _ (offers id (opening c before)) (and_parts _ (asks_anew (connect c before)) (and_parts _ (may_attach before c z (connect c before)) may).0).0).1
kind-formed before s z (Attach id c) unbroken may = small-opened before c 0 (unbroken c) (attach-frame before c z (connect c before) ((and_parts (is_resumed_by id (connect c before) (session_at id s)) (may_attach before c z (connect c before)) may).1))
kind-formed before s z (Asked c i now) unbroken may =
    let most = (and_parts _ (is_some (asked_commit before s z c i now)) may).0 in
    small-opened before c i (unbroken c) ((and_parts _ (is_small_frame (frame c i before)) (and_parts _ (is_within_parts (request c i before)) most).0).1)
kind-formed before s z (Closed id c i) unbroken may = small-opened before c i (unbroken c) ((and_parts _ (is_small_frame (frame c i before)) (and_parts _ (is_close (request c i before)) may).0).1)
kind-formed before s z (Reaped id) unbroken may = refl

-- ---- formed lines

some-begun : (s : State) → 1 ≤ s.updates → has_begun s ≡ true
some-begun s h = grind (arith, nat_tests)

formed-line : (before : List TranscriptLine) (s : State) (l : TranscriptLine) → ((c : ℕ) → progress c before ≡ Broken → ⊥) → ((c : ℕ) → progress c (before ++ l ∷ []) ≡ Broken → ⊥) → 1 ≤ s.updates
    → ((c i : ℕ) (z : ℤ) (bytes : List ℕ) → l ≡ FrameLine c i z bytes → z ≡ s.zxid) → is_legal_line before s l ≡ true → is_formed_line before s l ≡ true
unfolding is_formed_line is_opened is_closed
formed-line before s (Open c proxy id passwd layout) was unbroken begun last legal = ap not (open-unopened before c proxy id passwd layout (unbroken c))
formed-line before s (FrameLine c i z bytes) was unbroken begun last legal =
    let f = frame-next before c i z bytes (unbroken c) in
    and_from _ _ (and_from _ _ (and_from _ _ (and_from _ _ (and_from _ _ f.open_still.opened (ap not f.open_still.unclosed)) f.index) f.small) (some-begun s begun)) ((Decides-int_eq z s.zxid).1 (last c i z bytes refl))
formed-line before s (Send c bytes) was unbroken begun last legal = let o = send-open before c bytes (unbroken c) in and_from _ _ o.opened (ap not o.unclosed)
formed-line before s (Close c end) was unbroken begun last legal = ap not (close-unclosed before c end (unbroken c))
formed-line before s (Update u) was unbroken begun last legal = kind-formed before s u.zxid u.kind was (and_parts (may_update before s u.zxid u.kind) (is_next_zxid s u.zxid) legal).0
formed-line before s (Lapse revision id) was unbroken begun last legal = refl

-- ---- and lines of a history

begun-line : (s : State) (l : TranscriptLine) → 1 ≤ s.updates → comes_after_begin s l ≡ true
begun-line s (Update u) h = ap (λ b. b || is_begin u.kind) (some-begun s h)
begun-line s (Lapse revision id) h = some-begun s h
begun-line s (Open c proxy id passwd layout) h = refl
begun-line s (FrameLine c i z bytes) h = refl
begun-line s (Send c bytes) h = refl
begun-line s (Close c end) h = refl

within-limit : (now : ℕ) → now ≤ max_time → nat_le now max_time ≡ true
within-limit now le = grind (arith, nat_tests)

above-two : (z : ℤ) → pos 2 <ℤ z → int_le (pos 0) z ≡ true
above-two z h = grind (arith, nat_tests, ints)

time-within : (before : List TranscriptLine) (s : State) (z : ℤ) (kind : UpdateKind) → 1 ≤ s.updates → may_update before s z kind ≡ true → ((c i now : ℕ) → kind ≡ Asked c i now → now ≤ max_time) → is_timely kind ≡ true
time-within before s z (Begin now) begun may clock = absurd (not-begin before s z now begun may)
time-within before s z (Asked c i now) begun may clock = within-limit now (clock c i now refl)
time-within before s z (NewSession id c) begun may clock = refl
time-within before s z (Attach id c) begun may clock = refl
time-within before s z (Closed id c i) begun may clock = refl
time-within before s z (Reaped id) begun may clock = refl

range-line : (before : List TranscriptLine) (s : State) (l : TranscriptLine) → 1 ≤ s.updates → is_legal_line before s l ≡ true → ((u : UpdateRec) → l ≡ Update u → pos 2 <ℤ u.zxid)
    → ((c i now : ℕ) (z : ℤ) → l ≡ Update (record { zxid = z; kind = Asked c i now }) → now ≤ max_time) → is_in_range l ≡ true
range-line before s (Update u) begun legal zxid clock =
    and_from _ _ (above-two u.zxid (zxid u refl))
    (time-within before s u.zxid u.kind begun (and_parts (may_update before s u.zxid u.kind) (is_next_zxid s u.zxid) legal).0 (λ c i now e. clock c i now u.zxid (ap (λ k. Update (record { zxid = u.zxid; kind = k })) e)))
range-line before s (Lapse revision id) begun legal zxid clock = refl
range-line before s (Open c proxy id passwd layout) begun legal zxid clock = refl
range-line before s (FrameLine c i z bytes) begun legal zxid clock = refl
range-line before s (Send c bytes) begun legal zxid clock = refl
range-line before s (Close c end) begun legal zxid clock = refl

history-line : (before : List TranscriptLine) (s : State) (l : TranscriptLine) → is_formed_line before s l ≡ true → comes_after_begin s l ≡ true → is_in_range l ≡ true → is_legal_line before s l ≡ true → is_history_line before s l ≡ true
unfolding is_history_line
history-line before s l formed begun range legal = and_from _ _ (and_from _ _ (and_from _ _ formed begun) range) legal

-- ---- the line at a place of a run

split-at : {A : Type 0} (xs : List A) (k : ℕ) (x : A) → slice_get xs k ≡ Some x → xs ≡ (take k xs ++ x ∷ []) ++ drop (suc k) xs
split-at [] k x h = absurd (cc)
split-at (y ∷ xs) zero x h = let same : y ≡ x = cc in ap (λ z. z ∷ xs) same
split-at (y ∷ xs) (suc k) x h = ap (λ zs. y ∷ zs) (split-at xs k x h)

abbrev first_update : UpdateRec
first_update = record { zxid = pos 2; kind = Begin 0 }

first-history : is_history_line [] nothing_yet (Update first_update) ≡ true
unfolding is_history_line is_formed_line may_update
first-history = refl

after-none : after [] ≡ nothing_yet
unfolding after
after-none = refl

-- lines that begin so, of which none is broken
pub record IsUnbrokenRun (lines : List TranscriptLine) : Type 0 where
  pub more : List TranscriptLine
  pub begins : lines ≡ begin_lines 0 ++ more
  pub legal : is_legal lines ≡ true
  pub fresh : IsShownFresh lines
  pub unbroken : (c : ℕ) → progress c lines ≡ Broken → ⊥
  pub clocks : (k c i now : ℕ) (z : ℤ) → slice_get lines k ≡ Some (Update (record { zxid = z; kind = Asked c i now })) → now ≤ max_time

module _ (lines : List TranscriptLine) (r : IsUnbrokenRun lines) where
  first-at : slice_get lines 0 ≡ Some (Update first_update)
  first-at = ap (λ l. slice_get l 0) r.begins

  begun-at : (k : ℕ) → 1 ≤ (after (take (suc k) lines)).updates
  begun-at k = legal-begun (take (suc k) lines) (is_legal-take lines (suc k) (ap (λ l. begins (take (suc k) l)) r.begins) r.legal)

  unbroken-here : (k c : ℕ) (l : TranscriptLine) → slice_get lines k ≡ Some l → progress c (take k lines ++ l ∷ []) ≡ Broken → ⊥
  unbroken-here k c l at e = r.unbroken c (ap (progress c) (split-at lines k l at) ∙ broken-later c (take k lines ++ l ∷ []) (drop (suc k) lines) e)

  unbroken-before : (k c : ℕ) (l : TranscriptLine) → slice_get lines k ≡ Some l → progress c (take k lines) ≡ Broken → ⊥
  unbroken-before k c l at e = unbroken-here k c l at (broken-later c (take k lines) (l ∷ []) e)

  line-at : (k : ℕ) (l : TranscriptLine) → slice_get lines k ≡ Some l → is_history_line (take k lines) (after (take k lines)) l ≡ true
  line-at zero l at =
      let same : Update first_update ≡ l = some_is (sym first-at ∙ at) in
      subst (λ x. is_history_line [] (after []) x ≡ true) same (subst (λ s. is_history_line [] s (Update first_update) ≡ true) (sym after-none) first-history)
  line-at (suc k) l at =
      let before : List TranscriptLine = take (suc k) lines in
      let s : State = after (take (suc k) lines) in
      let legal : is_legal_line before s l ≡ true = is_legal-at lines (suc k) l r.legal at in
      let same_line : (x : TranscriptLine) → l ≡ x → slice_get lines (suc k) ≡ Some x = λ x e. at ∙ ap (λ y. Some y) e in
      let last : (c i : ℕ) (z : ℤ) (bytes : List ℕ) → l ≡ FrameLine c i z bytes → z ≡ s.zxid = λ c i z bytes e. r.fresh (suc k) c i z bytes (same_line (FrameLine c i z bytes) e) in
      let above : (u : UpdateRec) → l ≡ Update u → pos 2 <ℤ u.zxid = λ u e. zxids-rise lines 0 (suc k) first_update u r.legal (omega arith) first-at (same_line (Update u) e) in
      history-line before s l
      (formed-line before s l (λ c. unbroken-before (suc k) c l at) (λ c. unbroken-here (suc k) c l at) (begun-at k) last legal)
      (begun-line s l (begun-at k))
      (range-line before s l (begun-at k) legal above (λ c i now z e. r.clocks (suc k) c i now z (same_line _ e)))
      legal

-- ---- no line is at fault

none-from : (lines before ls : List TranscriptLine) (s : State) → lines ≡ before ++ ls → s ≡ after before → ((k : ℕ) (l : TranscriptLine) → slice_get lines k ≡ Some l → is_history_line (take k lines) (after (take k lines)) l ≡ true) → history_fault_from before s ls ≡ None
none-from lines before [] s e f h = refl
none-from lines before (l ∷ ls) s e f h =
    let n : length before ≡ length before + 0 = omega arith in
    let at : slice_get lines (length before) ≡ Some l = ap (λ m. slice_get m (length before)) e ∙ ap (slice_get (before ++ l ∷ ls)) n ∙ slice_get-back before (l ∷ ls) 0 in
    let front : take (length before) lines ≡ before = ap (take (length before)) e ∙ take-append_seam before (l ∷ ls) in
    let here : is_history_line before s l ≡ true = subst (λ t. is_history_line before t l ≡ true) (sym f) (subst (λ b. is_history_line b (after b) l ≡ true) front (h (length before) l at)) in
    ap (λ b. if b then history_fault_from (before ++ l ∷ []) (change before s l) ls else Some (length before + 1)) here
    ∙ none-from lines (before ++ l ∷ []) ls (change before s l) (e ∙ sym (append_assoc before (l ∷ []) ls)) (ap (λ t. change before t l) f ∙ sym (after-push before l)) h

pub no-history-fault : (lines : List TranscriptLine) → IsUnbrokenRun lines → history_fault lines ≡ None
unfolding history_fault
no-history-fault lines r =
    ap (or_empty lines) (none-from lines [] lines nothing_yet refl (sym after-none) (line-at lines r))
    ∙ ap (λ b. if b then None else Some (length lines + 1)) (ap has_event r.begins)
