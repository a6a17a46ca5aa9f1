-- A session lives, and is attached to a connection, from that connection's own line on, as long as no later line takes it and the
-- connection's frames are mild.
use Rattle.std.proofs.Common.{◌≡◌, ◌≢◌, ℕ, zero, suc, ◌+◌, ◌-◌, ◌<◌, ◌≤◌, List, ◌++◌, length, take, drop, take-append-drop, refl, sym, ap, ◌∙◌, subst, arith, Bool, true, false, ℤ, pos, inl, inr}
use Rattle.std.specs.Prelude.{Option, Some, None, ◌&&◌, ◌==◌, ◌⊎◌, ◌≤ℤ◌, is_none, nat_lt, not, option_and_then, slice_get}
use Rattle.std.specs.FinMap.{get}
use Rattle.std.specs.Ordering.{int_eq}
use Rattle.std.proofs.lemmas.Bool.{and_parts}
use Rattle.std.proofs.lemmas.Bool.Decides.{Decides-int_eq, nat_tests}
use Rattle.std.proofs.Math.Seq.{take-length}
use Rattle.std.proofs.lemmas.Option.{slice_get_within}
use Rattle.zk_jute.specs.Requests.{Frame, NoHeader, Unreadable, Unknown, Asks, read_request}
use Rattle.zk_model.specs.declared.request.Request.TheVariants as req
use Rattle.zk_model.specs.declared.request.Request.{Request}
use Rattle.zk_least.proofs.FirstPlaces.{first_place-at}
use Rattle.zk_least.proofs.Rising.{state_at-end, state_at-line}
use Rattle.zk_transcript.proofs.Attachments.{NoneAfter, attached-by_own_line}
use Rattle.zk_transcript.proofs.Conditions.{attach-shows}
use Rattle.zk_transcript.proofs.Histories.{legal-begun, not-begin}
use Rattle.zk_transcript.proofs.Lookups.{slice_get-front}
use Rattle.zk_transcript.proofs.Placed.{first_place-shown, is_legal-at}
use Rattle.zk_service.proofs.SessionMaps.{at-insert_other, at-insert_same, at-remove_other, attached_session-open, either_id}
use Rattle.zk_service.specs.States.{Session, State, attached_anew, attached_session, lapsed_in, new_session, session_at}
use Rattle.zk_transcript.specs.History.{after, asked_in, change, frame, frame_shown, opening, connect, request, state_at, updated, when}
use Rattle.zk_transcript.specs.Legal.{Attachment, attach_in, attach_of, attach_shown, is_close as is_closing, is_id, is_lapsed, is_legal, is_live_as, is_next_zxid, is_small_frame, may_attach, may_update, asks_anew, offers}
use Rattle.zk_service.specs.Answers.{has_header}
use Rattle.zk_transcript.specs.Walks.{placed_frame}
use Rattle.zk_transcript.specs.declared.transcript.TranscriptLine.{TranscriptLine}
use Rattle.zk_transcript.specs.declared.transcript.TranscriptLine.TheVariants.{Update, Open, Frame as FrameLine, Send, Lapse, Close}
use Rattle.zk_service.specs.declared.update.UpdateKind.{UpdateKind}
use Rattle.zk_service.specs.declared.update.UpdateKind.TheVariants.{Begin, Session as NewSession, Attach, Asked, Closed, Reaped}
use Rattle.zk_service.specs.declared.update.UpdateRec.{UpdateRec}
use Rattle.zx_base.proofs.Options.{none_some, some_is}
use Rattle.zp_laws.proofs.Attached.{IsAttached, first_place-take, mine-here}
use Rattle.zp_laws.proofs.Updates.{legal-before}
use Rattle.zp_world_laws.proofs.Numbers.{number-same}
use Rattle.zp_settle_laws.proofs.Open.{asked-sessions}
use Rattle.zp_settle_laws.specs.Staying.{IsAttachedHere, closes_after}
use Rattle.zp_settle_laws.specs.Undisturbed.{HasMildFrames, takes_session}
use Rattle.zx_base.proofs.Booleans.{true-not_false as true-false}

-- ---- frames in a transcript

abbrev pub IsMild : List ℕ → Type 0
IsMild bytes = (has_header (read_request bytes) ≡ true) × (closes_after (read_request bytes) ≡ false)

-- what stands in the front stands there in the whole
pub get-front : {A : Type 0} (xs ys : List A) (k : ℕ) (x : A) → slice_get xs k ≡ Some x → slice_get (xs ++ ys) k ≡ Some x
get-front xs ys k x e = slice_get-front xs ys k (slice_get_within xs k x e) ∙ e

pub mild-front : (c : ℕ) (xs ys : List TranscriptLine) → HasMildFrames c (xs ++ ys) → HasMildFrames c xs
mild-front c xs ys h k i z bytes e least = h k i z bytes (get-front xs ys k (FrameLine c i z bytes) e) least

pub when-both : {A : Type 0} (a b : Bool) (x y : A) → when (a && b) x ≡ Some y → (a ≡ true) × (b ≡ true) × (x ≡ y)
when-both true true x y h = (refl, refl, some_is h)
when-both true false x y h = absurd (none_some h)
when-both false b x y h = absurd (none_some h)

-- a line that shows a frame is its line
frame-line : (c i : ℕ) (l : TranscriptLine) (bytes : List ℕ) → frame_shown c i l ≡ Some bytes → (z : ℤ) × (l ≡ FrameLine c i z bytes)
frame-line c i (FrameLine d j z b) bytes h =
    let w = when-both (c == d) (i == j) b bytes h in
    let one = sym (number-same c d w.0) in
    let two = sym (number-same i j w.1) in
    (z, λ t. FrameLine (one t) (two t) z (w.2 t))
frame-line c i (Update u) bytes h = absurd (none_some h)
frame-line c i (Open a b d e layout) bytes h = absurd (none_some h)
frame-line c i (Send a b) bytes h = absurd (none_some h)
frame-line c i (Lapse a b) bytes h = absurd (none_some h)
frame-line c i (Close a b) bytes h = absurd (none_some h)

pub placed-mild : (c i place : ℕ) (lines : List TranscriptLine) (bytes : List ℕ) → HasMildFrames c lines → placed_frame c i lines ≡ Some (place, bytes) → 1 ≤ i → IsMild bytes
placed-mild c i place lines bytes h e least =
    let f = first_place-at (frame_shown c i) 0 lines (place, bytes) e in
    let l = frame-line c i f.line bytes f.shown in
    h f.place i l.0 bytes (f.there ∙ ap Some l.1) least

-- ---- a session that lives, attached last by this line

pub record IsHeld (s : State) (a : Attachment) : Type 0 where
  pub session : Session
  pub there : session_at a.session s ≡ Some session
  pub alive : session.lapsed ≡ false
  pub mine : session.attached ≡ a.zxid

held-as : (s t : State) (a : Attachment) → session_at a.session t ≡ session_at a.session s → IsHeld s a → IsHeld t a
held-as s t a e h = record { session = h.session; there = e ∙ h.there; alive = h.alive; mine = h.mine }

-- ---- the own line

abbrev IsOwnKind : ℕ → ℤ → UpdateKind → Attachment → Type 0
IsOwnKind c z kind a = (z ≡ a.zxid) × ((kind ≡ NewSession a.session c) ⊎ (kind ≡ Attach a.session c))

own-when : (c d : ℕ) (z id : ℤ) (a : Attachment) → when {A = Attachment} (c == d) (record { zxid = z; session = id }) ≡ Some a → (c ≡ d) × (z ≡ a.zxid) × (id ≡ a.session)
own-when c d z id a h = go (c == d) refl h
  where
    go : (b : Bool) → (c == d) ≡ b → when {A = Attachment} b (record { zxid = z; session = id }) ≡ Some a → (c ≡ d) × (z ≡ a.zxid) × (id ≡ a.session)
    go true e f = (number-same c d e, ap (λ (x : Attachment). x.zxid) (some_is f), ap (λ (x : Attachment). x.session) (some_is f))
    go false e f = absurd (none_some f)

own-kind : (c : ℕ) (z : ℤ) (kind : UpdateKind) (a : Attachment) → attach_in c z kind ≡ Some a → IsOwnKind c z kind a
own-kind c z (NewSession id d) a h = let w = own-when c d z id a h in let e = sym w.0 in let f = w.2 in (w.1, inl (λ t. NewSession (f t) (e t)))
own-kind c z (Attach id d) a h = let w = own-when c d z id a h in let e = sym w.0 in let f = w.2 in (w.1, inr (λ t. Attach (f t) (e t)))
own-kind c z (Begin now) a h = absurd (none_some h)
own-kind c z (Asked d i now) a h = absurd (none_some h)
own-kind c z (Closed id d i) a h = absurd (none_some h)
own-kind c z (Reaped id) a h = absurd (none_some h)

own-update : (c : ℕ) (l : TranscriptLine) (a : Attachment) → attach_shown c l ≡ Some a → (u : UpdateRec) × (l ≡ Update u) × IsOwnKind c u.zxid u.kind a
own-update c (Update u) a h = (u, refl, own-kind c u.zxid u.kind a h)
own-update c (FrameLine d i z b) a h = absurd (none_some h)
own-update c (Open d b e f layout) a h = absurd (none_some h)
own-update c (Send d b) a h = absurd (none_some h)
own-update c (Lapse d b) a h = absurd (none_some h)
own-update c (Close d b) a h = absurd (none_some h)

-- right after its line
new-held : (before : List TranscriptLine) (s : State) (z : ℤ) (c : ℕ) (a : Attachment) → z ≡ a.zxid → IsHeld (updated before s z (NewSession a.session c)) a
unfolding updated
new-held before s z c a e = record { session = new_session (opening c before) (connect c before) c z; there = at-insert_same s.sessions a.session (new_session (opening c before) (connect c before) c z); alive = refl; mine = e }

attach-held : (before : List TranscriptLine) (s : State) (z : ℤ) (c : ℕ) (a : Attachment) (x : Session) → session_at a.session s ≡ Some x → x.lapsed ≡ false → z ≡ a.zxid → IsHeld (updated before s z (Attach a.session c)) a
unfolding updated
attach-held before s z c a x there alive e =
    let y : Session = record x { connection = c; attached = z } in
    record { session = y; there = ap (λ o. get (attached_anew s z a.session c o) a.session) there ∙ at-insert_same s.sessions a.session y; alive = alive; mine = e }

-- ---- a later line

not-is : (a b : ℤ) → int_eq a b ≡ false → b ≢ a
not-is a b h e = true-false (sym ((Decides-int_eq a b).1 (sym e)) ∙ h)

-- an update of another session leaves it
other-new : (before : List TranscriptLine) (s : State) (z id own : ℤ) (c : ℕ) → id ≢ own → session_at own (updated before s z (NewSession id c)) ≡ session_at own s
unfolding updated
other-new before s z id own c apart = at-insert_other s.sessions id own _ (λ e. apart (sym e))

other-attach : (before : List TranscriptLine) (s : State) (z id own : ℤ) (c : ℕ) → id ≢ own → session_at own (updated before s z (Attach id c)) ≡ session_at own s
unfolding updated
other-attach before s z id own c apart = go (session_at id s)
  where
    go : (o : Option Session) → get (attached_anew s z id c o) own ≡ get s.sessions own
    go None = refl
    go (Some x) = at-insert_other s.sessions id own _ (λ e. apart (sym e))

other-closed : (before : List TranscriptLine) (s : State) (z id own : ℤ) (c i : ℕ) → id ≢ own → session_at own (updated before s z (Closed id c i)) ≡ session_at own s
unfolding updated
other-closed before s z id own c i apart = at-remove_other s.sessions id own (λ e. apart (sym e))

other-reaped : (before : List TranscriptLine) (s : State) (z id own : ℤ) → id ≢ own → session_at own (updated before s z (Reaped id)) ≡ session_at own s
unfolding updated
other-reaped before s z id own apart = at-remove_other s.sessions id own (λ e. apart (sym e))

other-lapse : (s : State) (id own : ℤ) (o : Option Session) → id ≢ own → session_at own (lapsed_in s id o) ≡ session_at own s
other-lapse s id own None apart = refl
other-lapse s id own (Some x) apart = at-insert_other s.sessions id own _ (λ e. apart (sym e))

none-not : {A : Type 0} (o : Option A) (x : A) → o ≡ Some x → is_none o ≡ true → ⊥
none-not None x e h = none_some e
none-not (Some y) x e h = true-false (sym h)

-- none opens a session that is open
new-not : (before : List TranscriptLine) (s : State) (z id : ℤ) (c : ℕ) (x : Session) → session_at id s ≡ Some x → may_update before s z (NewSession id c) ≡ true → ⊥
unfolding may_update
new-not before s z id c x there h =
    let a = and_parts (is_none (session_at id s) && is_id id && offers id (opening c before) && asks_anew (connect c before)) (may_attach before c z (connect c before)) h in
    let b = and_parts (is_none (session_at id s) && is_id id && offers id (opening c before)) (asks_anew (connect c before)) a.0 in
    let d = and_parts (is_none (session_at id s) && is_id id) (offers id (opening c before)) b.0 in
    none-not (session_at id s) x there (and_parts (is_none (session_at id s)) (is_id id) d.0).0

lapsed-not : (o : Option Session) (x : Session) → o ≡ Some x → x.lapsed ≡ false → is_lapsed o ≡ true → ⊥
lapsed-not None x e alive h = none_some e
lapsed-not (Some y) x e alive h = true-false (sym h ∙ ap (λ (v : Session). v.lapsed) (some_is e) ∙ alive)

-- none reaps one that lives
reaped-not : (before : List TranscriptLine) (s : State) (z id : ℤ) (x : Session) → session_at id s ≡ Some x → x.lapsed ≡ false → may_update before s z (Reaped id) ≡ true → ⊥
unfolding may_update
reaped-not before s z id x there alive h = lapsed-not (session_at id s) x there alive h

-- ---- none closes it, but its connection

pub record MayClose (before : List TranscriptLine) (s : State) (id : ℤ) (c i : ℕ) : Type 0 where
  pub own : is_id id ≡ true
  pub live : is_live_as id (attached_session c s) ≡ true
  pub index : nat_lt 0 i ≡ true
  pub closes : is_closing (request c i before) ≡ true

pub may-close : (before : List TranscriptLine) (s : State) (z id : ℤ) (c i : ℕ) → may_update before s z (Closed id c i) ≡ true → MayClose before s id c i
unfolding may_update
may-close before s z id c i h =
    let a = and_parts (is_id id && is_live_as id (attached_session c s) && nat_lt 0 i && is_small_frame (frame c i before)) (is_closing (request c i before)) h in
    let b = and_parts (is_id id && is_live_as id (attached_session c s) && nat_lt 0 i) (is_small_frame (frame c i before)) a.0 in
    let d = and_parts (is_id id && is_live_as id (attached_session c s)) (nat_lt 0 i) b.0 in
    let e = and_parts (is_id id) (is_live_as id (attached_session c s)) d.0 in
    record { own = e.0; live = e.1; index = d.1; closes = a.1 }

live-as : (id : ℤ) (o : Option (ℤ × Session)) → is_live_as id o ≡ true → (x : Session) × (o ≡ Some (id, x))
live-as id None h = absurd (true-false (sym h))
live-as id (Some e) h = let same = (Decides-int_eq id e.0).0 (and_parts (int_eq id e.0) (not e.1.lapsed) h).0 in (e.1, ap (λ n. Some (n, e.1)) (sym same))

-- the session that a close ends is attached to its connection
closes-own : (before : List TranscriptLine) (s : State) (id : ℤ) (c i : ℕ) → MayClose before s id c i → (x : Session) × (attached_session c s ≡ Some (id, x))
closes-own before s id c i m = live-as id (attached_session c s) m.live

asked-close : (x : Frame) → is_closing (asked_in x) ≡ true → closes_after x ≡ true
asked-close NoHeader h = absurd (true-false (sym h))
asked-close (Unreadable xid place) h = absurd (true-false (sym h))
asked-close (Unknown xid kind) h = absurd (true-false (sym h))
asked-close (Asks xid req.Close) h = refl
asked-close (Asks xid r) h = absurd (other-close r h)
  where
    other-close : (q : Request) → is_closing (Some q) ≡ true → ⊥
    other-close q g = cc

pub close-frame : (c i : ℕ) (before : List TranscriptLine) → is_closing (request c i before) ≡ true → (bytes : List ℕ) × (frame c i before ≡ Some bytes) × (closes_after (read_request bytes) ≡ true)
close-frame c i before h = go (frame c i before) h
  where
    go : (o : Option (List ℕ)) → is_closing (option_and_then (λ bytes. asked_in (read_request bytes)) o) ≡ true → (bytes : List ℕ) × (o ≡ Some bytes) × (closes_after (read_request bytes) ≡ true)
    go None e = absurd (true-false (sym e))
    go (Some bytes) e = (bytes, refl, asked-close (read_request bytes) e)

-- ---- in a transcript

module _ (lines : List TranscriptLine) (c : ℕ) (k : ℕ) (a : Attachment) (legal : is_legal lines ≡ true) (own : attach_of c lines ≡ Some (k, a)) (least : pos 1 ≤ℤ a.session) (kept : NoneAfter (takes_session a.session) k lines) (mild : HasMildFrames c lines) where
  -- its own line
  the-line : (u : UpdateRec) × (slice_get lines k ≡ Some (Update u)) × IsOwnKind c u.zxid u.kind a
  the-line =
      let f = first_place-at (attach_shown c) 0 lines (k, a) own in
      let at : f.place ≡ k = omega (arith, f.at) in
      let u = own-update c f.line a f.shown in
      (u.0, ap (slice_get lines) (sym at) ∙ f.there ∙ ap (λ l. Some l) u.1, u.2)

  legal-at : (n : ℕ) → k < n → is_legal (take n lines) ≡ true
  legal-at n lt = legal-before lines n k the-line.0 legal the-line.1 lt

  first-held : IsHeld (state_at lines (k + 1)) a
  first-held = subst (λ s. IsHeld s a) (sym (state_at-line lines k (Update the-line.0) the-line.1)) (by (the-line.0).zxid (the-line.0).kind the-line.1 the-line.2)
    where
      by : (z : ℤ) (kind : UpdateKind) → slice_get lines k ≡ Some (Update (record { zxid = z; kind = kind })) → IsOwnKind c z kind a → IsHeld (updated (take k lines) (state_at lines k) z kind) a
      by z kind there (e, inl is) = subst (λ q. IsHeld (updated (take k lines) (state_at lines k) z q) a) (sym is) (new-held (take k lines) (state_at lines k) z c a e)
      by z kind there (e, inr is) =
          let shows = attach-shows lines k c z a.session legal (there ∙ ap (λ q. Some (Update (record { zxid = z; kind = q }))) is) in
          subst (λ q. IsHeld (updated (take k lines) (state_at lines k) z q) a) (sym is) (attach-held (take k lines) (state_at lines k) z c a shows.1 shows.3 shows.6 e)

  -- a connection that may close it is c
  closer : (n d i : ℕ) → k < n → (h : IsHeld (state_at lines n) a) → MayClose (take n lines) (state_at lines n) a.session d i → d ≡ c
  closer n d i lt h m =
      let x = closes-own (take n lines) (state_at lines n) a.session d i m in
      let open_at = attached_session-open d (state_at lines n) (a.session, x.0) x.1 in
      let same : h.session ≡ x.0 = some_is (sym h.there ∙ open_at) in
      let by = attached-by_own_line (take n lines) d a.session x.0 (legal-at n lt) x.1 in
      let zxid : x.0.attached ≡ a.zxid = ap (λ (v : Session). v.attached) (sym same) ∙ h.mine in
      let one : IsAttached lines d (record { session = a.session; mine = x.0.attached }) n = record { legal = legal-at n lt; place = by.0; own = by.1; least = least } in
      let two : IsAttached lines c (record { session = a.session; mine = a.zxid }) n = record { legal = legal-at n lt; place = k; own = first_place-take (attach_shown c) 0 n lines k a own (omega (arith, lt)); least = least } in
      sym (mine-here lines d (record { session = a.session; mine = x.0.attached }) n one x.0 open_at refl) ∙ mine-here lines c (record { session = a.session; mine = a.zxid }) n two x.0 open_at zxid

  close-not : (n i : ℕ) → MayClose (take n lines) (state_at lines n) a.session c i → ⊥
  close-not n i m =
      let f = close-frame c i (take n lines) m.closes in
      let p = first_place-shown (frame_shown c i) 0 (take n lines) f.0 f.1 in
      let front : HasMildFrames c (take n lines) = mild-front c (take n lines) (drop n lines) (subst (HasMildFrames c) (sym (take-append-drop n lines)) mild) in
      let above : 1 ≤ i = grind (arith, nat_tests, m.index) in
      true-false (sym f.2 ∙ (placed-mild c i p.0 (take n lines) f.0 front p.1 above).1)

  module _ (n : ℕ) (lt : k < n) (h : IsHeld (state_at lines n) a) where
    may : (z : ℤ) (kind : UpdateKind) → slice_get lines n ≡ Some (Update (record { zxid = z; kind = kind })) → may_update (take n lines) (state_at lines n) z kind ≡ true
    may z kind at = (and_parts (may_update (take n lines) (state_at lines n) z kind) (is_next_zxid (state_at lines n) z) (is_legal-at lines n (Update (record { zxid = z; kind = kind })) legal at)).0

    update-held : (z : ℤ) (kind : UpdateKind) → slice_get lines n ≡ Some (Update (record { zxid = z; kind = kind })) → IsHeld (updated (take n lines) (state_at lines n) z kind) a
    update-held z (Begin now) at = absurd (not-begin (take n lines) (state_at lines n) z now (legal-begun (take n lines) (legal-at n lt)) (may z (Begin now) at))
    update-held z (NewSession id d) at = elim (either_id id a.session) [
      | inl same ↦ absurd (new-not (take n lines) (state_at lines n) z id d h.session (ap (λ m. session_at m (state_at lines n)) same ∙ h.there) (may z (NewSession id d) at))
      | inr apart ↦ held-as (state_at lines n) (updated (take n lines) (state_at lines n) z (NewSession id d)) a (other-new (take n lines) (state_at lines n) z id a.session d apart) h
    ]
    update-held z (Attach id d) at = held-as (state_at lines n) (updated (take n lines) (state_at lines n) z (Attach id d)) a
        (other-attach (take n lines) (state_at lines n) z id a.session d (not-is a.session id (kept n (Update (record { zxid = z; kind = Attach id d })) lt at))) h
    update-held z (Asked d i now) at = held-as (state_at lines n) (updated (take n lines) (state_at lines n) z (Asked d i now)) a (asked-sessions (take n lines) (state_at lines n) z a.session d i now) h
    update-held z (Closed id d i) at = elim (either_id id a.session) [
      | inl same ↦
          let m : MayClose (take n lines) (state_at lines n) a.session d i = subst (λ q. MayClose (take n lines) (state_at lines n) q d i) same (may-close (take n lines) (state_at lines n) z id d i (may z (Closed id d i) at)) in
          absurd (close-not n i (subst (λ q. MayClose (take n lines) (state_at lines n) a.session q i) (closer n d i lt h m) m))
      | inr apart ↦ held-as (state_at lines n) (updated (take n lines) (state_at lines n) z (Closed id d i)) a (other-closed (take n lines) (state_at lines n) z id a.session d i apart) h
    ]
    update-held z (Reaped id) at = elim (either_id id a.session) [
      | inl same ↦ absurd (reaped-not (take n lines) (state_at lines n) z id h.session (ap (λ m. session_at m (state_at lines n)) same ∙ h.there) h.alive (may z (Reaped id) at))
      | inr apart ↦ held-as (state_at lines n) (updated (take n lines) (state_at lines n) z (Reaped id)) a (other-reaped (take n lines) (state_at lines n) z id a.session apart) h
    ]

    next-held : (l : TranscriptLine) → slice_get lines n ≡ Some l → IsHeld (change (take n lines) (state_at lines n) l) a
    next-held (Update u) at = update-held u.zxid u.kind at
    next-held (Lapse r id) at = held-as (state_at lines n) (lapsed_in (state_at lines n) id (session_at id (state_at lines n))) a
        (other-lapse (state_at lines n) id a.session (session_at id (state_at lines n)) (not-is a.session id (kept n (Lapse r id) lt at))) h
    next-held (Open d p id pw layout) at = h
    next-held (FrameLine d i z b) at = h
    next-held (Send d b) at = h
    next-held (Close d e) at = h

  held-after : (m : ℕ) → IsHeld (state_at lines (k + 1 + m)) a
  held-after zero = let e : k + 1 ≡ k + 1 + 0 = omega arith in subst (λ n. IsHeld (state_at lines n) a) e first-held
  held-after (suc m) = go (slice_get lines (k + 1 + m)) refl (held-after m)
    where
      next : k + 1 + m + 1 ≡ k + 1 + suc m
      next = omega arith

      go : (o : Option TranscriptLine) → slice_get lines (k + 1 + m) ≡ o → IsHeld (state_at lines (k + 1 + m)) a → IsHeld (state_at lines (k + 1 + suc m)) a
      go None e h = subst (λ n. IsHeld (state_at lines n) a) next (subst (λ s. IsHeld s a) (sym (state_at-end lines (k + 1 + m) e)) h)
      go (Some l) e h = subst (λ n. IsHeld (state_at lines n) a) next (subst (λ s. IsHeld s a) (sym (state_at-line lines (k + 1 + m) l e)) (next-held (k + 1 + m) (omega arith) h l e))

  -- at each moment after its line
  pub held-at : (n : ℕ) → k < n → IsHeld (state_at lines n) a
  held-at n lt = let e : k + 1 + (n - (k + 1)) ≡ n = omega (arith, lt) in subst (λ j. IsHeld (state_at lines j) a) e (held-after (n - (k + 1)))

  -- the session lives now, and its last attachment is the connection's own
  pub here-now : IsAttachedHere lines (record { session = a.session; mine = a.zxid })
  here-now =
      let h = held-at (length lines) (slice_get_within lines k (Update the-line.0) the-line.1) in
      record { session = h.session; there = ap (λ ls. session_at a.session (after ls)) (sym (take-length lines)) ∙ h.there; alive = h.alive; mine = h.mine }
