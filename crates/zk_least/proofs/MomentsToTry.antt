-- The least moment of a reply is found among two moments at most.
use Rattle.std.proofs.Common.{◌≡◌, ℕ, zero, suc, ◌+◌, ◌-◌, ◌<◌, ◌≤◌, List, [], ◌∷◌, length, take, drop, refl, sym, ap, ◌∙◌, subst, arith, Bool, true, false, ℤ, pos, inl, inr}
use Rattle.std.specs.Prelude.{Option, Some, None, ◌⊎◌, ◌<ℤ◌, slice_get, nat_le, nat_lt, if◌then◌else◌}
use Rattle.std.specs.Ordering.{int_eq}
use Rattle.std.proofs.lemmas.Bool.Decides.{Decides-int_eq, nat_tests}
use Rattle.zk_model.specs.declared.reply.Reply.TheVariants as reply
use Rattle.zk_model.specs.Codes.{session_expired}
use Rattle.zk_jute.specs.Requests.{read_request}
use Rattle.zk_jute.specs.Packets.{reply_packet}
use Rattle.zk_service.specs.declared.update.UpdateRec.{UpdateRec}
use Rattle.zk_transcript.specs.declared.transcript.TranscriptLine.{TranscriptLine}
use Rattle.zk_transcript.specs.declared.transcript.TranscriptLine.TheVariants.{Update, Open, Frame as FrameLine, Send, Lapse, Close}
use Rattle.zk_service.specs.Answers.{Told, only, xid_of, session_refusal, owned_limit_in}
use Rattle.zk_service.specs.States.{State, session_at}
use Rattle.zk_transcript.specs.History.{state_at, first_place, when}
use Rattle.zk_transcript.specs.Legal.{is_legal}
use Rattle.zk_transcript.specs.Walks.{Walker, Due, placed_frame, own_update, fired_above, later_of, seen_told, told_as_of, after_place, after_update, is_past}
use Rattle.zk_least.specs.LeastWalk.{zxid_in, next_reply, is_allowed, first_passing, least_moment, HasZxids}
use Rattle.zk_least.specs.LeastMoments.{code_in, lapse_shown, first_moment, moment_after_lapse, moments_to_try, moments_for, first_of, LeastMomentLaw}
use Rattle.zk_least.proofs.Rising.{state_at-line}
use Rattle.zk_least.proofs.LastUpdates.{IsPastUpdate, past-update, has-zxid}
use Rattle.zk_least.proofs.Sessions.{IsGone, says-as, lapse-gone}
use Rattle.zk_least.proofs.SameZxid.{NoLapses, between, get-drop, get-between, moments-lag, same-session, gone-session}
use Rattle.zk_least.proofs.FirstPlaces.{IsFirstAt, first_place-at, first_place-none}
use Rattle.zk_least.proofs.Headers.{reply-code}
use Rattle.zk_least.proofs.SameAnswer.{expired-short}
use Rattle.zk_least.proofs.Complete.{first-found}
use Rattle.zk_least.proofs.AllowedMoments.{AllowedAs, allowed-as, allowed-up, shown, allowed-moment-law}
use Rattle.zk_least.proofs.LowerMoments.{lower-moment}

-- ---- the first that passes, where one or two are the only ones that may be it

none-passing : (test : ℕ → Bool) (a n : ℕ) → ((k : ℕ) → test k ≡ true → ⊥) → first_passing test a n ≡ None
none-passing test a zero never = by (test a) refl
  where
    by : (b : Bool) → test a ≡ b → (if b then Some a else None) ≡ None
    by true e = absurd (never a e)
    by false e = refl
none-passing test a (suc n) never = by (test a) refl (none-passing test (a + 1) n never)
  where
    by : (b : Bool) → test a ≡ b → first_passing test (a + 1) n ≡ None → (if b then Some a else first_passing test (a + 1) n) ≡ None
    by true e ih = absurd (never a e)
    by false e ih = ih

least-is : (test : ℕ → Bool) (a n : ℕ) → test a ≡ true → a ≤ n → ((k : ℕ) → test k ≡ true → k ≤ a → a ≤ k) → first_passing test 0 n ≡ Some a
least-is test a n t le low =
    let f = first-found test a 0 n t (omega arith) (omega (arith, le)) in
    let up = low f.0 f.3 f.2 in
    f.1 ∙ ap Some (omega (arith, up, f.2))

first-of-one : (test : ℕ → Bool) (a n : ℕ) → ((k : ℕ) → test k ≡ true → (a ≤ k) × (k ≤ n)) → ((k : ℕ) → test k ≡ true → test a ≡ true) → first_passing test 0 n ≡ first_of test (a ∷ [])
first-of-one test a n low one = by (test a) refl
  where
    by : (b : Bool) → test a ≡ b → first_passing test 0 n ≡ (if b then Some a else None)
    by true e = least-is test a n e (low a e).1 (λ k t le. (low k t).0)
    by false e = none-passing test 0 n (λ k t. let bad : false ≡ true = sym e ∙ one k t in cc)

first-of-two : (test : ℕ → Bool) (a b n : ℕ) → ((k : ℕ) → test k ≡ true → (a ≤ k) × (k ≤ n)) → ((k : ℕ) → test k ≡ true → (test a ≡ true) ⊎ ((test b ≡ true) × (b ≤ k))) → first_passing test 0 n ≡ first_of test (a ∷ b ∷ [])
first-of-two test a b n low two = by (test a) refl
  where
    first_before : test a ≡ false → (k : ℕ) → test k ≡ true → (test b ≡ true) × (b ≤ k)
    first_before e k t = elim (two k t) [ inl at ↦ absurd (let bad : false ≡ true = sym e ∙ at in cc) | inr q ↦ q ]

    second : (d : Bool) → test b ≡ d → test a ≡ false → first_passing test 0 n ≡ (if d then Some b else None)
    second true f e = least-is test b n f (low b f).1 (λ k t le. (first_before e k t).1)
    second false f e = none-passing test 0 n (λ k t. let bad : false ≡ true = sym f ∙ (first_before e k t).0 in cc)

    by : (d : Bool) → test a ≡ d → first_passing test 0 n ≡ (if d then Some a else first_of test (b ∷ []))
    by true e = least-is test a n e (low a e).1 (λ k t le. (low k t).0)
    by false e = second (test b) refl e

-- ---- the later of two

later-left : (a b : ℕ) → a ≤ later_of a b
later-left a b = by (nat_le a b) refl
  where
    by : (t : Bool) → nat_le a b ≡ t → a ≤ (if t then b else a)
    by true e = grind (arith, nat_tests)
    by false e = omega arith

later-right : (a b : ℕ) → b ≤ later_of a b
later-right a b = by (nat_le a b) refl
  where
    by : (t : Bool) → nat_le a b ≡ t → b ≤ (if t then b else a)
    by true e = omega arith
    by false e = grind (arith, nat_tests)

later-most : (a b k : ℕ) → a ≤ k → b ≤ k → later_of a b ≤ k
later-most a b k p q = by (nat_le a b)
  where
    by : (t : Bool) → (if t then b else a) ≤ k
    by true = q
    by false = p

-- ---- lapses

lapse-is : (id : ℤ) (l : TranscriptLine) (x : ℤ) → lapse_shown id l ≡ Some x → (r : ℤ) × (l ≡ Lapse r id)
lapse-is id (Lapse r d) x h = by (int_eq id d) refl h
  where
    by : (b : Bool) → int_eq id d ≡ b → ◌≡◌ {A = Option ℤ} (if b then Some id else None) (Some x) → (q : ℤ) × (Lapse r d ≡ Lapse q id)
    by true e t = (r, ap (Lapse r) (sym ((Decides-int_eq id d).0 e)))
    by false e t = absurd (cc)
lapse-is id (Update u) x h = absurd (cc)
lapse-is id (Open a b d e layout) x h = absurd (cc)
lapse-is id (FrameLine a b d e) x h = absurd (cc)
lapse-is id (Send a b) x h = absurd (cc)
lapse-is id (Close a b) x h = absurd (cc)

own-lapse : (id r : ℤ) → lapse_shown id (Lapse r id) ≡ Some id
own-lapse id r = ap (λ b. when b id) ((Decides-int_eq id id).1 refl)

-- right after its lapse a session is gone
gone-rest_after : (lines : List TranscriptLine) (e : ℕ) (id r : ℤ) → slice_get lines e ≡ Some (Lapse r id) → IsGone (session_at id (state_at lines (e + 1)))
gone-rest_after lines e id r at = subst (λ (s : State). IsGone (session_at id s)) (sym (state_at-line lines e (Lapse r id) at)) (lapse-gone (state_at lines e) id (session_at id (state_at lines e)) refl)

-- no lapse stands between two moments, where none stands from an earlier moment up to a place after them
still-between : (lines : List TranscriptLine) (n a b top : ℕ) (id : ℤ) → n ≤ a → b ≤ n + top → ((j : ℕ) (l : TranscriptLine) → j < top → slice_get (drop n lines) j ≡ Some l → lapse_shown id l ≡ None) → NoLapses id (between a b lines)
still-between lines n a b top id from to none j r e =
    let q = get-between lines a b j (Lapse r id) e in
    let lt = q.0 in
    let i : ℕ = (a + j) - n in
    let sum : n + i ≡ a + j = omega arith in
    let at : slice_get (drop n lines) i ≡ Some (Lapse r id) = get-drop n i lines ∙ ap (slice_get lines) sum ∙ q.1 in
    let shown : None ≡ Some id = sym (none i (Lapse r id) (omega (arith, lt)) at) ∙ own-lapse id r in
    absurd (cc)

-- ---- the moments of a reply without a line of its own

-- what is told to an expired session shows its code
expired-code : (lines : List TranscriptLine) (c : ℕ) (id : ℤ) (w : Walker) (ps : List Due) (m : ℕ) (bytes : List ℕ) → is_legal lines ≡ true → HasZxids lines → next_reply ps ≡ Some bytes → own_update c w.next lines ≡ None
    → (a : AllowedAs lines c id w ps m) → session_refusal c (session_at id (state_at lines m)) ≡ Some (reply.Refused session_expired) → code_in bytes ≡ session_expired
unfolding told_as_of
expired-code lines c id w ps m bytes legal least next own a gone =
    let mk = a.made in
    let x = read_request mk.bytes in
    let f = (fired_above (take m lines) w.zxid w.watches).0 in
    let s = state_at lines m in
    let told : told_as_of (take m lines) c id x f None ≡ Some mk.what = ap (told_as_of (take m lines) c id x f) (sym own) ∙ mk.told in
    let here : ◌≡◌ {A = Option (Bool × Told)} (Some (true, only f (reply.Refused session_expired))) (Some mk.what) = sym (ap (seen_told s (owned_limit_in (session_at id s)) id x f) gone) ∙ told in
    let same : ◌≡◌ {A = Bool × Told} (true, only f (reply.Refused session_expired)) mk.what = cc in
    let said : reply.Refused session_expired ≡ mk.what.1.reply = ap (λ (p : Bool × Told). p.1.reply) same in
    ap code_in (shown lines c id w ps m bytes legal least next a ∙ ap (reply_packet (xid_of x) (state_at lines m).zxid) (sym said))
    ∙ reply-code (xid_of x) (state_at lines m).zxid (reply.Refused session_expired) expired-short

module _ (lines : List TranscriptLine) (c : ℕ) (id : ℤ) (w : Walker) (ps : List Due) (bytes : List ℕ) (frame : ℕ × List ℕ)
    (legal : is_legal lines ≡ true) (least : HasZxids lines) (up : pos 0 <ℤ w.zxid) (next : next_reply ps ≡ Some bytes) (framed : placed_frame c w.next lines ≡ Some frame) (own : own_update c w.next lines ≡ None) where
  pub record IsTried (k : ℕ) : Type 0 where
    pub allowed : AllowedAs lines c id w ps k
    pub zxid : (state_at lines k).zxid ≡ zxid_in bytes
    pub past_update : IsPastUpdate lines (zxid_in bytes) k
    pub from : first_moment lines w frame.0 (zxid_in bytes) ≤ k
    pub within : k ≤ length lines

  tried : (k : ℕ) → is_allowed lines c id w ps k ≡ true → IsTried k
  tried k h =
      let a = allowed-moment-law lines c id w ps bytes k legal least up next h in
      let at = a.zxid in
      let made = allowed-as lines c id w ps k h in
      let lt = a.fresh in
      record {
        allowed = made;
        zxid = at;
        past_update = past-update lines k (zxid_in bytes) legal (allowed-up lines c id w ps k (zxid_in bytes) up made at) at;
        from = later-most (later_of w.moment (frame.0 + 1)) (after_update (zxid_in bytes) lines) k (later-most w.moment (frame.0 + 1) k a.not_back (omega (arith, lt, same (placed_frame c w.next lines) frame a.frame framed a.framed))) a.update_before;
        within = a.within;
      }
    where
      same : (o : Option (ℕ × List ℕ)) (f g : ℕ × List ℕ) → o ≡ Some f → o ≡ Some g → f.0 ≡ g.0
      same o f g e d = (let both : Some f ≡ Some g = sym e ∙ d in let one : f ≡ g = cc in ap (λ (p : ℕ × List ℕ). p.0) one)

  -- an earlier moment at which the session is the same is allowed too
  lower : (j k : ℕ) → is_allowed lines c id w ps k ≡ true → first_moment lines w frame.0 (zxid_in bytes) ≤ j → j ≤ k → session_at id (state_at lines j) ≡ session_at id (state_at lines k) → is_allowed lines c id w ps j ≡ true
  lower j k h from to seen =
      let t = tried k h in
      let early = later-left (later_of w.moment (frame.0 + 1)) (after_update (zxid_in bytes) lines) in
      let back = later-left w.moment (frame.0 + 1) in
      let after_frame = later-right w.moment (frame.0 + 1) in
      let n = later-right (later_of w.moment (frame.0 + 1)) (after_update (zxid_in bytes) lines) in
      let here = has-zxid lines j k (zxid_in bytes) legal t.zxid t.past_update (omega (arith, n, from)) to in
      let lt : frame.0 < j = omega (arith, after_frame, early, from) in
      let test : nat_lt frame.0 j ≡ true = grind (arith, nat_tests) in
      lower-moment lines c id w ps j k legal up own to (omega (arith, back, early, from)) (ap (is_past j) framed ∙ test) (t.zxid ∙ sym here.zxid) seen h

  -- the first moment is allowed where any is, unless the session has expired
  first-unless : (k : ℕ) → is_allowed lines c id w ps k ≡ true → (is_allowed lines c id w ps (first_moment lines w frame.0 (zxid_in bytes)) ≡ true) ⊎ (code_in bytes ≡ session_expired)
  first-unless k h =
      let t = tried k h in
      let m = first_moment lines w frame.0 (zxid_in bytes) in
      let here = has-zxid lines m k (zxid_in bytes) legal t.zxid t.past_update (later-right (later_of w.moment (frame.0 + 1)) (after_update (zxid_in bytes) lines)) t.from in
      let lag = moments-lag lines m k legal t.from here.some (t.zxid ∙ sym here.zxid) in
      elim (says-as (state_at lines m) (state_at lines k) c id (lag.session id)) [
        | inl q ↦ inl (lower m k h (omega arith) t.from (sym q))
        | inr q ↦ inr (expired-code lines c id w ps k bytes legal least next own t.allowed q)
      ]

  -- where the first lapse after the update has this place, the moment right after it is the only other one that may be the least
  lapse_before : (k : ℕ) → is_allowed lines c id w ps k ≡ true → (x : ℕ × ℤ) → IsFirstAt (lapse_shown id) (after_update (zxid_in bytes) lines) (drop (after_update (zxid_in bytes) lines) lines) x
      → (is_allowed lines c id w ps (first_moment lines w frame.0 (zxid_in bytes)) ≡ true) ⊎ ((is_allowed lines c id w ps (later_of (first_moment lines w frame.0 (zxid_in bytes)) (x.0 + 1)) ≡ true) × (later_of (first_moment lines w frame.0 (zxid_in bytes)) (x.0 + 1) ≤ k))
  lapse_before k h x f = by (nat_le k (n + f.place)) refl
    where
      n : ℕ
      n = after_update (zxid_in bytes) lines

      m : ℕ
      m = first_moment lines w frame.0 (zxid_in bytes)

      t : IsTried k
      t = tried k h

      from_update : n ≤ m
      from_update = later-right (later_of w.moment (frame.0 + 1)) n

      -- the lapse stands after k
      ahead : k ≤ n + f.place → is_allowed lines c id w ps m ≡ true
      ahead le =
          let here = has-zxid lines m k (zxid_in bytes) legal t.zxid t.past_update from_update t.from in
          let still = still-between lines n m k f.place id from_update le f.before in
          lower m k h (omega arith) t.from (sym (same-session lines m k id legal t.from here.some (t.zxid ∙ sym here.zxid) still))

      lapse : (r : ℤ) × (f.line ≡ Lapse r id)
      lapse = lapse-is id f.line x.1 f.shown

      at_lapse : slice_get lines (n + f.place) ≡ Some (Lapse lapse.0 id)
      at_lapse = sym (get-drop n f.place lines) ∙ f.there ∙ ap Some lapse.1

      -- the lapse stands before k
      past : (n + f.place) + 1 ≤ k → (is_allowed lines c id w ps (later_of m (x.0 + 1)) ≡ true) × (later_of m (x.0 + 1) ≤ k)
      past le =
          let at = f.at in
          let s = later_of m (x.0 + 1) in
          let small : s ≤ k = later-most m (x.0 + 1) k t.from (omega (arith, at, le)) in
          let left = later-left m (x.0 + 1) in
          let right = later-right m (x.0 + 1) in
          let e : ℕ = (n + f.place) + 1 in
          let up_to : e ≤ s = omega (arith, at, right) in
          let gone = gone-rest_after lines (n + f.place) id lapse.0 at_lapse in
          let here = has-zxid lines e k (zxid_in bytes) legal t.zxid t.past_update (omega arith) le in
          let there = has-zxid lines s k (zxid_in bytes) legal t.zxid t.past_update (omega (arith, from_update, left)) small in
          let a = gone-session lines e s id legal up_to here.some (there.zxid ∙ sym here.zxid) gone in
          let b = gone-session lines e k id legal le here.some (t.zxid ∙ sym here.zxid) gone in
          (lower s k h left small (a ∙ sym b), small)

      by : (d : Bool) → nat_le k (n + f.place) ≡ d → (is_allowed lines c id w ps m ≡ true) ⊎ ((is_allowed lines c id w ps (later_of m (x.0 + 1)) ≡ true) × (later_of m (x.0 + 1) ≤ k))
      by true d = inl (ahead (grind (arith, nat_tests)))
      by false d = inr (past (grind (arith, nat_tests)))

  lapse-two : (k : ℕ) → is_allowed lines c id w ps k ≡ true
      → (is_allowed lines c id w ps (first_moment lines w frame.0 (zxid_in bytes)) ≡ true) ⊎ ((is_allowed lines c id w ps (moment_after_lapse lines id w frame.0 (zxid_in bytes)) ≡ true) × (moment_after_lapse lines id w frame.0 (zxid_in bytes) ≤ k))
  lapse-two k h = by (first_place (lapse_shown id) n (drop n lines)) refl
    where
      n : ℕ
      n = after_update (zxid_in bytes) lines

      m : ℕ
      m = first_moment lines w frame.0 (zxid_in bytes)

      never : first_place (lapse_shown id) n (drop n lines) ≡ None → is_allowed lines c id w ps m ≡ true
      never e =
          let t = tried k h in
          let from_update = later-right (later_of w.moment (frame.0 + 1)) n in
          let here = has-zxid lines m k (zxid_in bytes) legal t.zxid t.past_update from_update t.from in
          let still = still-between lines n m k k id from_update (omega arith) (λ j l lt at. first_place-none (lapse_shown id) n (drop n lines) e j l at) in
          lower m k h (omega arith) t.from (sym (same-session lines m k id legal t.from here.some (t.zxid ∙ sym here.zxid) still))

      by : (o : Option (ℕ × ℤ)) → first_place (lapse_shown id) n (drop n lines) ≡ o → (is_allowed lines c id w ps m ≡ true) ⊎ ((is_allowed lines c id w ps (later_of m (after_place o)) ≡ true) × (later_of m (after_place o) ≤ k))
      by None e = inl (never e)
      by (Some x) e = lapse_before k h x (first_place-at (lapse_shown id) n (drop n lines) x e)

  pub least-of-two : least_moment lines c id w ps ≡ first_of (is_allowed lines c id w ps) (moments_to_try lines id w frame.0 bytes None)
  least-of-two = by (int_eq (code_in bytes) session_expired) refl
    where
      m : ℕ
      m = first_moment lines w frame.0 (zxid_in bytes)

      low : (k : ℕ) → is_allowed lines c id w ps k ≡ true → (m ≤ k) × (k ≤ length lines)
      low k h = let t = tried k h in (t.from, t.within)

      by : (d : Bool) → int_eq (code_in bytes) session_expired ≡ d → least_moment lines c id w ps ≡ first_of (is_allowed lines c id w ps) (m ∷ (if d then moment_after_lapse lines id w frame.0 (zxid_in bytes) ∷ [] else []))
      by true e = first-of-two (is_allowed lines c id w ps) m (moment_after_lapse lines id w frame.0 (zxid_in bytes)) (length lines) low lapse-two
      by false e = first-of-one (is_allowed lines c id w ps) m (length lines) low (λ k h. elim (first-unless k h) [
        | inl a ↦ a
        | inr q ↦ absurd (let bad : false ≡ true = sym e ∙ (Decides-int_eq (code_in bytes) session_expired).1 q in cc)
      ])

-- ---- a request with a line of its own, and no request

least-own : (lines : List TranscriptLine) (c : ℕ) (id : ℤ) (w : Walker) (ps : List Due) (bytes : List ℕ) (u : ℕ × UpdateRec) → is_legal lines ≡ true → HasZxids lines → pos 0 <ℤ w.zxid → next_reply ps ≡ Some bytes → own_update c w.next lines ≡ Some u
    → least_moment lines c id w ps ≡ first_of (is_allowed lines c id w ps) ((u.0 + 1) ∷ [])
least-own lines c id w ps bytes u legal least up next own = first-of-one (is_allowed lines c id w ps) (u.0 + 1) (length lines) (λ k h. (omega (arith, at k h), within k h)) (λ k h. subst (λ j. is_allowed lines c id w ps j ≡ true) (at k h) h)
  where
    at : (k : ℕ) → is_allowed lines c id w ps k ≡ true → k ≡ u.0 + 1
    at k h = (allowed-moment-law lines c id w ps bytes k legal least up next h).own u own

    within : (k : ℕ) → is_allowed lines c id w ps k ≡ true → k ≤ length lines
    within k h = (allowed-moment-law lines c id w ps bytes k legal least up next h).within

least-none : (lines : List TranscriptLine) (c : ℕ) (id : ℤ) (w : Walker) (ps : List Due) (bytes : List ℕ) → is_legal lines ≡ true → HasZxids lines → pos 0 <ℤ w.zxid → next_reply ps ≡ Some bytes → placed_frame c w.next lines ≡ None → least_moment lines c id w ps ≡ None
least-none lines c id w ps bytes legal least up next none = none-passing (is_allowed lines c id w ps) 0 (length lines) (λ k h. absent (placed_frame c w.next lines) none (allowed-moment-law lines c id w ps bytes k legal least up next h).frame (allowed-moment-law lines c id w ps bytes k legal least up next h).framed)
  where
    absent : (o : Option (ℕ × List ℕ)) → o ≡ None → (f : ℕ × List ℕ) → o ≡ Some f → ⊥
    absent o e f g = (let bad : None ≡ Some f = sym e ∙ g in cc)

pub least-moment-law : LeastMomentLaw
least-moment-law lines c id w ps bytes legal least up next = by (placed_frame c w.next lines) refl
  where
    with_own : (f : ℕ × List ℕ) → placed_frame c w.next lines ≡ Some f → (o : Option (ℕ × UpdateRec)) → own_update c w.next lines ≡ o → least_moment lines c id w ps ≡ first_of (is_allowed lines c id w ps) (moments_to_try lines id w f.0 bytes o)
    with_own f e (Some u) own = least-own lines c id w ps bytes u legal least up next own
    with_own f e None own = least-of-two lines c id w ps bytes f legal least up next e own

    by : (o : Option (ℕ × List ℕ)) → placed_frame c w.next lines ≡ o → least_moment lines c id w ps ≡ first_of (is_allowed lines c id w ps) (moments_for lines c id w bytes o)
    by None e = least-none lines c id w ps bytes legal least up next e
    by (Some f) e = with_own f e (own_update c w.next lines) refl
