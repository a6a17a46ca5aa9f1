-- Which connection a session is attached to, by the lines: the connection whose own line attached it last.
use Rattle.std.proofs.Common.{◌≡◌, ◌≢◌, ℕ, zero, suc, ◌+◌, ◌<◌, ◌≤◌, List, [], ◌∷◌, ◌++◌, length, Option, Some, None, refl, sym, ap, ◌∙◌, subst, ◌⊎◌, inl, inr, ⊎_elim, arith, Bool, true, false, cond, ℤ}
use Rattle.std.specs.Prelude.{◌≤ℤ◌, ◌<ℤ◌, ◌==◌, ◌&&◌, if◌then◌else◌, option_map, is_none, int_lt, slice_get}
use Rattle.std.specs.List.{list_all}
use Rattle.std.specs.Ordering.{int_cmp, int_eq, is_eq}
use Rattle.std.proofs.lemmas.Bool.{and_parts}
use Rattle.std.proofs.lemmas.Bool.Decides.{Decides-int_eq, nat_tests}
use Rattle.std.proofs.lemmas.Int.{ints}
use Rattle.std.specs.FinMap.{insert, entries, get-entries, find, get-empty}
use Rattle.zx_base.proofs.Options.{none_some}
use Rattle.zk_model.specs.declared.connect.ConnectRequest.{ConnectRequest}
use Rattle.zk_model.specs.Limits.{max_long}
use Rattle.zk_service.specs.declared.update.UpdateKind.{UpdateKind}
use Rattle.zk_service.specs.declared.update.UpdateKind.TheVariants.{Begin, Session as NewSession, Attach, Asked, Closed, Reaped}
use Rattle.zk_transcript.specs.declared.transcript.TranscriptLine.{TranscriptLine}
use Rattle.zk_transcript.specs.declared.transcript.TranscriptLine.TheVariants.{Update, Open, Frame as FrameLine, Send, Lapse, Close}
use Rattle.zk_service.specs.States.{State, Session, Sessions, Commit, nothing_yet, session_at, is_attached_to, attached_in, attached_session, committed, new_session, attached_anew, session_ended, lapsed_in}
use Rattle.zk_transcript.specs.History.{when, frame, opening, connect, asked_commit, updated, change, after}
use Rattle.zk_transcript.specs.Legal.{Attachment, changes_session, lapses_session, attach_of, attach_shown, may_attach, is_small_frame, is_resumed_by, may_update, is_next_zxid, is_legal, is_legal_line}
use Rattle.zk_transcript.proofs.Appending.{first_place-push}
use Rattle.zk_transcript.proofs.Lookups.{first_place-skip, first_place-new, Within, front, back, within, slice_get-front, slice_get-back}
use Rattle.zk_transcript.proofs.Histories.{above-next, not-begin, is_still, begin_line, first_place-still, legal-induct}
use Rattle.zk_service.proofs.SessionMaps.{EachSession, each_session-put_apart, still_open, attached_session-open}

-- ---- the session that is attached to a connection

attached_in-of : (c : ℕ) (es : List (ℤ × Session)) (e : ℤ × Session) → attached_in c es ≡ Some e → e.1.connection ≡ c
attached_in-of c [] e h = absurd (cc)
attached_in-of c (d ∷ es) e h = by_test (is_attached_to c d) refl h (attached_in-of c es e)
  where
    by_test : (b : Bool) → is_attached_to c d ≡ b → (if b then Some d else attached_in c es) ≡ Some e → (attached_in c es ≡ Some e → e.1.connection ≡ c) → e.1.connection ≡ c
    by_test true t g later =
        let same : d ≡ e = cc in
        let here : d.1.connection ≡ c = grind (arith, nat_tests, t) in
        sym (ap (λ (x : ℤ × Session). x.1.connection) same) ∙ here
    by_test false t g later = later g

-- where none is attached, none of the entries is the connection's
attached_in-none : (c : ℕ) (id : ℤ) (x : Session) (es : List (ℤ × Session)) → attached_in c es ≡ None → find int_cmp id es ≡ Some x → x.connection ≢ c
attached_in-none c id x [] h f mine = absurd (cc)
attached_in-none c id x (d ∷ es) h f mine = by_test (is_attached_to c d) refl (is_eq (int_cmp id d.0)) h f (λ none found. attached_in-none c id x es none found mine)
  where
    by_test : (b : Bool) → is_attached_to c d ≡ b → (t : Bool) → ◌≡◌ {A = Option (ℤ × Session)} (if b then Some d else attached_in c es) None → cond t (Some d.1) (find int_cmp id es) ≡ Some x
        → (attached_in c es ≡ None → find int_cmp id es ≡ Some x → ⊥) → ⊥
    by_test true e t g found later = cc
    by_test false e true g found later =
        let same : d.1 ≡ x = cc in
        let here : is_attached_to c d ≡ true = (let at_c : d.1.connection ≡ c = ap (λ (y : Session). y.connection) same ∙ mine in grind (arith, nat_tests)) in
        cc
    by_test false e false g found later = later g found

-- ---- a connection's own line

abbrev own_line : ℤ → ℤ → Attachment
own_line z id = record { zxid = z; session = id }

pub attach_of-push : (lines more : List TranscriptLine) (c : ℕ) (x : ℕ × Attachment) → attach_of c lines ≡ Some x → attach_of c (lines ++ more) ≡ Some x
attach_of-push lines more c x h = first_place-push (attach_shown c) 0 lines more x h

-- a line that attaches nobody
pub attach_of-skip : (lines : List TranscriptLine) (l : TranscriptLine) (c : ℕ) → attach_shown c l ≡ None → attach_of c (lines ++ l ∷ []) ≡ attach_of c lines
attach_of-skip lines l c none = first_place-skip (attach_shown c) 0 lines l none

-- a line that attaches the connection, which had no such line
pub attach_of-new : (lines : List TranscriptLine) (l : TranscriptLine) (c : ℕ) (a : Attachment) → attach_of c lines ≡ None → attach_shown c l ≡ Some a → attach_of c (lines ++ l ∷ []) ≡ Some (length lines, a)
attach_of-new lines l c a none shown = first_place-new (attach_shown c) 0 lines l a none shown ∙ ap (λ n. Some (n, a)) (omega arith)

-- l attaches d to the session id, at z
abbrev Attaches : TranscriptLine → ℕ → ℤ → ℤ → Type 0
Attaches l d z id = (c : ℕ) → attach_shown c l ≡ when {A = Attachment} (c == d) (own_line z id)

own_place : Option (ℕ × Attachment) → ℕ → ℕ
own_place None k = k
own_place (Some x) k = x.0

own_zxid : Option (ℕ × Attachment) → ℤ → ℤ
own_zxid None z = z
own_zxid (Some x) z = x.1.zxid

own_id : Option (ℕ × Attachment) → ℤ → ℤ
own_id None id = id
own_id (Some x) id = x.1.session

-- a connection that has an own line had it before, or is d
old_or_new : (lines : List TranscriptLine) (l : TranscriptLine) (c d k : ℕ) (z id w own : ℤ) → Attaches l d z id → attach_of c (lines ++ l ∷ []) ≡ Some (k, own_line w own)
    → (attach_of c lines ≡ Some (k, own_line w own)) ⊎ ((c ≡ d) × (w ≡ z) × (own ≡ id))
unfolding own_zxid own_id
old_or_new lines l c d k z id w own attaches h = by_line (attach_of c lines) refl
  where
    by_test : (b : Bool) → (c == d) ≡ b → attach_of c lines ≡ None → (attach_of c lines ≡ Some (k, own_line w own)) ⊎ ((c ≡ d) × (w ≡ z) × (own ≡ id))
    by_test true e none =
        let shown = attach_of-new lines l c (own_line z id) none (attaches c ∙ ap (λ b. when {A = Attachment} b (own_line z id)) e) in
        inr (grind (arith, nat_tests, e), ap (λ o. own_zxid o z) (sym h ∙ shown), ap (λ o. own_id o id) (sym h ∙ shown))
    by_test false e none = let still = attach_of-skip lines l c (attaches c ∙ ap (λ b. when {A = Attachment} b (own_line z id)) e) in inl (sym still ∙ h)

    by_line : (o : Option (ℕ × Attachment)) → attach_of c lines ≡ o → (attach_of c lines ≡ Some (k, own_line w own)) ⊎ ((c ≡ d) × (w ≡ z) × (own ≡ id))
    by_line (Some y) e = inl (e ∙ sym (attach_of-push lines (l ∷ []) c y e) ∙ h)
    by_line None e = by_test (c == d) refl e

-- ---- the lines after a place

-- none of them is one of these
abbrev pub NoneAfter : (TranscriptLine → Bool) → ℕ → List TranscriptLine → Type 0
NoneAfter q place lines = (j : ℕ) (l : TranscriptLine) → place < j → slice_get lines j ≡ Some l → q l ≡ false

none_after-push : (q : TranscriptLine → Bool) (place : ℕ) (lines : List TranscriptLine) (l : TranscriptLine) → NoneAfter q place lines → q l ≡ false → NoneAfter q place (lines ++ l ∷ [])
none_after-push q place lines l all here j m lt g = by_place (within lines (l ∷ []) j)
  where
    last : (i : ℕ) → slice_get (l ∷ []) i ≡ Some m → q m ≡ false
    last zero e = let same : l ≡ m = cc in subst (λ (x : TranscriptLine). q x ≡ false) same here
    last (suc i) e = absurd (cc)

    by_place : Within lines (l ∷ []) j → q m ≡ false
    by_place (front less) = all j m lt (sym (slice_get-front lines (l ∷ []) j less) ∙ g)
    by_place (back i e) = last i (sym (ap (slice_get (lines ++ l ∷ [])) e ∙ slice_get-back lines (l ∷ []) i) ∙ g)

-- nothing stands after the last line
none_after-last : (q : TranscriptLine → Bool) (lines : List TranscriptLine) (l : TranscriptLine) → NoneAfter q (length lines) (lines ++ l ∷ [])
none_after-last q lines l j m lt g = by_place (within lines (l ∷ []) j)
  where
    last : (i : ℕ) → j ≡ length lines + i → slice_get (l ∷ []) i ≡ Some m → q m ≡ false
    last zero at e = absurd (omega (arith, at))
    last (suc i) at e = absurd (cc)

    by_place : Within lines (l ∷ []) j → q m ≡ false
    by_place (front less) = absurd (omega arith)
    by_place (back i e) = last i e (sym (ap (slice_get (lines ++ l ∷ [])) e ∙ slice_get-back lines (l ∷ []) i) ∙ g)

-- ---- each open session is attached by its connection's own line, the last one that attached it

pub record IsListed (lines : List TranscriptLine) (id : ℤ) (x : Session) : Type 0 where
  pub place : ℕ
  pub own : attach_of x.connection lines ≡ Some (place, own_line x.attached id)
  pub latest : (c k : ℕ) (z : ℤ) → attach_of c lines ≡ Some (k, own_line z id) → z ≤ℤ x.attached
  pub one : (c k : ℕ) (z : ℤ) → attach_of c lines ≡ Some (k, own_line z id) → x.attached ≡ z → x.connection ≡ c
  pub unmoved : NoneAfter (changes_session id) place lines
  pub alive : x.lapsed ≡ false → NoneAfter (lapses_session id) place lines

pub record Lined (lines : List TranscriptLine) (s : State) : Type 0 where
  pub all : EachSession (IsListed lines) s.sessions
  -- own lines have zxids of the past
  pub past : (c k : ℕ) (z id : ℤ) → attach_of c lines ≡ Some (k, own_line z id) → z ≤ℤ s.zxid

-- an open session that the line neither changes nor lapses
abbrev Leaves : TranscriptLine → ℤ → Session → Type 0
Leaves l id x = (changes_session id l ≡ false) × (x.lapsed ≡ false → lapses_session id l ≡ false)

listed-skip : (lines : List TranscriptLine) (l : TranscriptLine) (id : ℤ) (x : Session) → ((c : ℕ) → attach_shown c l ≡ None) → Leaves l id x → IsListed lines id x → IsListed (lines ++ l ∷ []) id x
listed-skip lines l id x nobody leaves p = record {
  place = p.place;
  own = attach_of-skip lines l x.connection (nobody x.connection) ∙ p.own;
  latest = λ c k z h. p.latest c k z (sym (attach_of-skip lines l c (nobody c)) ∙ h);
  one = λ c k z h at. p.one c k z (sym (attach_of-skip lines l c (nobody c)) ∙ h) at;
  unmoved = none_after-push (changes_session id) p.place lines l p.unmoved leaves.0;
  alive = λ lives. none_after-push (lapses_session id) p.place lines l (p.alive lives) (leaves.1 lives);
}

past-skip : (lines : List TranscriptLine) (l : TranscriptLine) (s : State) (new : ℤ) → ((c : ℕ) → attach_shown c l ≡ None) → s.zxid ≤ℤ new → Lined lines s
    → (c k : ℕ) (z id : ℤ) → attach_of c (lines ++ l ∷ []) ≡ Some (k, own_line z id) → z ≤ℤ new
past-skip lines l s new nobody up was c k z id h = let old = was.past c k z id (sym (attach_of-skip lines l c (nobody c)) ∙ h) in omega (arith, ints)

-- a line that attaches nobody
lined-skip : (lines : List TranscriptLine) (l : TranscriptLine) (s new : State) → ((c : ℕ) → attach_shown c l ≡ None) → EachSession (λ id x. Leaves l id x × IsListed lines id x) new.sessions → s.zxid ≤ℤ new.zxid
    → Lined lines s → Lined (lines ++ l ∷ []) new
lined-skip lines l s new nobody all up was = record {
  all = λ id x is. let p = all id x is in listed-skip lines l id x nobody p.0 p.1;
  past = past-skip lines l s new.zxid nobody up was;
}

-- a line that attaches d
lined-put : (lines : List TranscriptLine) (l : TranscriptLine) (s new : State) (d : ℕ) (z id : ℤ) (x : Session) → Attaches l d z id → ((other : ℤ) → other ≢ id → (changes_session other l ≡ false) × (lapses_session other l ≡ false))
    → attach_of d lines ≡ None → s.zxid <ℤ z → x.connection ≡ d → x.attached ≡ z → new.sessions ≡ insert s.sessions id x → new.zxid ≡ z → Lined lines s → Lined (lines ++ l ∷ []) new
lined-put lines l s new d z id x attaches others free above at_d at_z sessions zxid was = record {
  all = subst (EachSession (IsListed (lines ++ l ∷ []))) (sym sessions) (each_session-put_apart (IsListed (lines ++ l ∷ [])) s.sessions id x (λ other y far is. kept other y far (was.all other y is)) here);
  past = λ c k w own h. ⊎_elim
      (λ e. let old = was.past c k w own e in omega (arith, ints, zxid))
      (λ e. let at = e.1 in omega (arith, ints, zxid))
      (old_or_new lines l c d k z id w own attaches h);
}
  where
    kept : (other : ℤ) (y : Session) → other ≢ id → IsListed lines other y → IsListed (lines ++ l ∷ []) other y
    kept other y far p = record {
      place = p.place;
      own = attach_of-push lines (l ∷ []) y.connection (p.place, own_line y.attached other) p.own;
      latest = λ c k w h. ⊎_elim (λ e. p.latest c k w e) (λ e. absurd (far e.2)) (old_or_new lines l c d k z id w other attaches h);
      one = λ c k w h at. ⊎_elim (λ e. p.one c k w e at) (λ e. absurd (far e.2)) (old_or_new lines l c d k z id w other attaches h);
      unmoved = none_after-push (changes_session other) p.place lines l p.unmoved (others other far).0;
      alive = λ lives. none_after-push (lapses_session other) p.place lines l (p.alive lives) (others other far).1;
    }

    own_d : attach_of d (lines ++ l ∷ []) ≡ Some (length lines, own_line z id)
    own_d =
        let self : (d == d) ≡ true = grind (arith, nat_tests) in
        attach_of-new lines l d (own_line z id) free (attaches d ∙ ap (λ b. when {A = Attachment} b (own_line z id)) self)

    here : IsListed (lines ++ l ∷ []) id x
    here = record {
      place = length lines;
      own = ap (λ n. attach_of n (lines ++ l ∷ [])) at_d ∙ own_d ∙ ap (λ v. Some (length lines, own_line v id)) (sym at_z);
      latest = λ c k w h. ⊎_elim
          (λ e. let old = was.past c k w id e in omega (arith, ints, at_z))
          (λ e. let is_z = e.1 in omega (arith, ints, at_z))
          (old_or_new lines l c d k z id w id attaches h);
      one = λ c k w h at. ⊎_elim
          (λ e. let old = was.past c k w id e in absurd (omega (arith, ints, at_z, at)))
          (λ e. at_d ∙ sym e.0)
          (old_or_new lines l c d k z id w id attaches h);
      unmoved = none_after-last (changes_session id) lines l;
      alive = λ lives. none_after-last (lapses_session id) lines l;
    }

-- ---- by the kinds of lines

not_attached : (before : List TranscriptLine) (c : ℕ) (z : ℤ) (o : Option ConnectRequest) → may_attach before c z o ≡ true → attach_of c before ≡ None
not_attached before c z None h = absurd (cc)
not_attached before c z (Some r) h =
    let a = and_parts (is_none (attach_of c before) && is_small_frame (frame c 0 before)) (int_lt r.last_zxid z) h in
    is_absent (attach_of c before) (and_parts (is_none (attach_of c before)) (is_small_frame (frame c 0 before)) a.0).0
  where
    is_absent : (o : Option (ℕ × Attachment)) → is_none o ≡ true → o ≡ None
    is_absent None e = refl
    is_absent (Some y) e = absurd (cc)

resumed-some : (id : ℤ) (r : Option ConnectRequest) (o : Option Session) → is_resumed_by id r o ≡ true → (x : Session) × (o ≡ Some x)
resumed-some id None o h = absurd (cc)
resumed-some id (Some r) None h = absurd (cc)
resumed-some id (Some r) (Some x) h = (x, refl)

apart : (other id : ℤ) → other ≢ id → int_eq other id ≡ false
apart other id far = by_test (int_eq other id) refl
  where
    by_test : (b : Bool) → int_eq other id ≡ b → b ≡ false
    by_test true e = absurd (far ((Decides-int_eq other id).0 e))
    by_test false e = refl

-- a line that concerns no session
all_left : (lines : List TranscriptLine) (l : TranscriptLine) (m : Sessions) → ((id : ℤ) → changes_session id l ≡ false) → ((id : ℤ) → lapses_session id l ≡ false) → EachSession (IsListed lines) m → EachSession (λ id x. Leaves l id x × IsListed lines id x) m
all_left lines l m unmoved alive all id x is = ((unmoved id, λ lives. alive id), all id x is)

lined-committed : (lines : List TranscriptLine) (l : TranscriptLine) (s : State) (z : ℤ) (o : Option Commit) → ((c : ℕ) → attach_shown c l ≡ None) → ((id : ℤ) → changes_session id l ≡ false) → ((id : ℤ) → lapses_session id l ≡ false)
    → s.zxid <ℤ z → Lined lines s → Lined (lines ++ l ∷ []) (committed s z o)
lined-committed lines l s z None nobody unmoved alive above was = lined-skip lines l s s nobody (all_left lines l s.sessions unmoved alive was.all) (omega (arith, ints)) was
lined-committed lines l s z (Some x) nobody unmoved alive above was = lined-skip lines l s (committed s z (Some x)) nobody (all_left lines l s.sessions unmoved alive was.all) (omega (arith, ints)) was

-- a session ends by this line
lined-ended : (lines : List TranscriptLine) (l : TranscriptLine) (s : State) (z id : ℤ) → ((c : ℕ) → attach_shown c l ≡ None) → ((other : ℤ) → changes_session other l ≡ int_eq other id) → ((other : ℤ) → lapses_session other l ≡ false)
    → s.zxid <ℤ z → Lined lines s → Lined (lines ++ l ∷ []) (session_ended s z id)
lined-ended lines l s z id nobody ends alive above was =
    lined-skip lines l s (session_ended s z id) nobody
    (λ other x is. let still = still_open s.sessions id other x is in ((ends other ∙ apart other id still.0, λ lives. alive other), was.all other x still.1))
    (omega (arith, ints)) was

lined-updated : (lines : List TranscriptLine) (s : State) (z : ℤ) (kind : UpdateKind) → Lined lines s → 1 ≤ s.updates → may_update lines s z kind ≡ true → s.zxid <ℤ z
    → Lined (lines ++ Update (record { zxid = z; kind = kind }) ∷ []) (updated lines s z kind)
unfolding may_update updated
lined-updated lines s z (Begin now) was some may above = absurd (not-begin lines s z now some may)
lined-updated lines s z (NewSession id d) was some may above =
    lined-put lines (Update (record { zxid = z; kind = NewSession id d })) s (updated lines s z (NewSession id d)) d z id (new_session (opening d lines) (connect d lines) d z) (λ c. refl)
    (λ other far. (apart other id far, refl)) (not_attached lines d z (connect d lines) (and_parts _ (may_attach lines d z (connect d lines)) may).1) above refl refl refl refl was
lined-updated lines s z (Attach id d) was some may above =
    let both = and_parts (is_resumed_by id (connect d lines) (session_at id s)) (may_attach lines d z (connect d lines)) may in
    let x = resumed-some id (connect d lines) (session_at id s) both.0 in
    lined-put lines (Update (record { zxid = z; kind = Attach id d })) s (updated lines s z (Attach id d)) d z id (record x.0 { connection = d; attached = z }) (λ c. refl)
    (λ other far. (apart other id far, refl)) (not_attached lines d z (connect d lines) both.1) above refl refl (ap (attached_anew s z id d) x.1) refl was
lined-updated lines s z (Asked c i now) was some may above =
    lined-committed lines (Update (record { zxid = z; kind = Asked c i now })) s z (asked_commit lines s z c i now) (λ d. refl) (λ id. refl) (λ id. refl) above was
lined-updated lines s z (Closed id c i) was some may above =
    lined-ended lines (Update (record { zxid = z; kind = Closed id c i })) s z id (λ d. refl) (λ other. refl) (λ other. refl) above was
lined-updated lines s z (Reaped id) was some may above =
    lined-ended lines (Update (record { zxid = z; kind = Reaped id })) s z id (λ d. refl) (λ other. refl) (λ other. refl) above was

lined-lapsed : (lines : List TranscriptLine) (s : State) (revision id : ℤ) → Lined lines s → Lined (lines ++ Lapse revision id ∷ []) (lapsed_in s id (session_at id s))
lined-lapsed lines s revision id was = by_session (session_at id s) refl
  where
    others : (other : ℤ) (y : Session) → other ≢ id → session_at other s ≡ Some y → Leaves (Lapse revision id) other y × IsListed lines other y
    others other y far is = ((refl, λ lives. apart other id far), was.all other y is)

    by_session : (o : Option Session) → session_at id s ≡ o → Lined (lines ++ Lapse revision id ∷ []) (lapsed_in s id o)
    by_session None none =
        lined-skip lines (Lapse revision id) s s (λ c. refl) (λ other y is. others other y (λ e. none_some (sym none ∙ sym (ap (λ n. session_at n s) e) ∙ is)) is) (omega (arith, ints)) was
    by_session (Some x) is =
        let p = was.all id x is in
        lined-skip lines (Lapse revision id) s (lapsed_in s id (Some x)) (λ c. refl)
        (each_session-put_apart (λ other y. Leaves (Lapse revision id) other y × IsListed lines other y) s.sessions id (record x { lapsed = true }) others
        ((refl, λ lives. cc), record { place = p.place; own = p.own; latest = p.latest; one = p.one; unmoved = p.unmoved; alive = λ lives. cc }))
        (omega (arith, ints)) was

lined-same : (lines : List TranscriptLine) (l : TranscriptLine) (s : State) → ((c : ℕ) → attach_shown c l ≡ None) → ((id : ℤ) → changes_session id l ≡ false) → ((id : ℤ) → lapses_session id l ≡ false) → Lined lines s → Lined (lines ++ l ∷ []) s
lined-same lines l s nobody unmoved alive was = lined-skip lines l s s nobody (all_left lines l s.sessions unmoved alive was.all) (omega (arith, ints)) was

lined-change : (lines : List TranscriptLine) (s : State) (l : TranscriptLine) → Lined lines s → 1 ≤ s.updates → is_legal_line lines s l ≡ true → Lined (lines ++ l ∷ []) (change lines s l)
lined-change lines s (Update u) was some h =
    let both = and_parts (may_update lines s u.zxid u.kind) (is_next_zxid s u.zxid) h in lined-updated lines s u.zxid u.kind was some both.0 (above-next s u.zxid some both.1)
lined-change lines s (Lapse revision id) was some h = lined-lapsed lines s revision id was
lined-change lines s (Open c proxy id passwd layout) was some h = lined-same lines (Open c proxy id passwd layout) s (λ d. refl) (λ id. refl) (λ id. refl) was
lined-change lines s (FrameLine c i z bytes) was some h = lined-same lines (FrameLine c i z bytes) s (λ d. refl) (λ id. refl) (λ id. refl) was
lined-change lines s (Send c bytes) was some h = lined-same lines (Send c bytes) s (λ d. refl) (λ id. refl) (λ id. refl) was
lined-change lines s (Close c end) was some h = lined-same lines (Close c end) s (λ d. refl) (λ id. refl) (λ id. refl) was

unattached : (c : ℕ) (l : TranscriptLine) → is_still l ≡ true → attach_shown c l ≡ None
unattached c (Update u) h = absurd (cc)
unattached c (Lapse revision id) h = refl
unattached c (Open d proxy id passwd layout) h = refl
unattached c (FrameLine d i z bytes) h = refl
unattached c (Send d bytes) h = refl
unattached c (Close d end) h = refl

-- right after Begin no session is open, and no connection has a line of its own
lined-first : (before : List TranscriptLine) (z : ℤ) (now : ℕ) → list_all is_still before ≡ true → z ≤ℤ max_long → Lined (before ++ begin_line z now ∷ []) (updated before nothing_yet z (Begin now))
unfolding updated
lined-first before z now still most = record {
  all = λ id x is. absurd (none_some (sym (get-empty int_cmp id) ∙ is));
  past = λ c k w id h. absurd (none_some (sym (attach_of-skip before (begin_line z now) c refl ∙ first_place-still (attach_shown c) (unattached c) 0 before still) ∙ h));
}

pub legal-lined : (lines : List TranscriptLine) → is_legal lines ≡ true → Lined lines (after lines)
legal-lined lines h = legal-induct Lined lined-first lined-change lines h

-- ---- the laws

-- the session that is attached to a connection was attached by that connection's own line
pub attached-by_own_line : (lines : List TranscriptLine) (c : ℕ) (id : ℤ) (x : Session) → is_legal lines ≡ true → attached_session c (after lines) ≡ Some (id, x)
    → (k : ℕ) × (attach_of c lines ≡ Some (k, own_line x.attached id))
attached-by_own_line lines c id x legal at =
    let p = (legal-lined lines legal).all id x (attached_session-open c (after lines) (id, x) at) in
    (p.place, ap (λ n. attach_of n lines) (sym (attached_in-of c (entries (after lines).sessions) (id, x) at)) ∙ p.own)

-- a session that was attached last by a connection's own line is attached to it
pub attached-to_own_line : (lines : List TranscriptLine) (c k : ℕ) (z id : ℤ) (x : Session) → is_legal lines ≡ true → attach_of c lines ≡ Some (k, own_line z id) → session_at id (after lines) ≡ Some x → x.attached ≡ z
    → attached_session c (after lines) ≡ Some (id, x)
unfolding own_id
attached-to_own_line lines c k z id x legal own here at = by_entry (attached_session c (after lines)) refl
  where
    mine : x.connection ≡ c
    mine = ((legal-lined lines legal).all id x here).one c k z own at

    by_entry : (o : Option (ℤ × Session)) → attached_session c (after lines) ≡ o → o ≡ Some (id, x)
    by_entry None is = absurd (attached_in-none c id x (entries (after lines).sessions) is (sym (get-entries (after lines).sessions id) ∙ here) mine)
    by_entry (Some e) is =
        let by = attached-by_own_line lines c e.0 e.1 legal is in
        let same : e.0 ≡ id = ap (λ o. own_id o id) (sym by.1 ∙ own) in
        let is_x : Some e.1 ≡ Some x = sym (attached_session-open c (after lines) e is) ∙ ap (λ n. session_at n (after lines)) same ∙ here in
        ap (λ n. Some (n, e.1)) same ∙ ap (option_map (λ (y : Session). (id, y))) is_x

-- no line with a greater zxid attached that session
pub attached-latest : (lines : List TranscriptLine) (c : ℕ) (id : ℤ) (x : Session) → is_legal lines ≡ true → attached_session c (after lines) ≡ Some (id, x)
    → (d k : ℕ) (z : ℤ) → attach_of d lines ≡ Some (k, own_line z id) → z ≤ℤ x.attached
attached-latest lines c id x legal at = ((legal-lined lines legal).all id x (attached_session-open c (after lines) (id, x) at)).latest

-- own lines have zxids of the past
pub own_line-past : (lines : List TranscriptLine) (c k : ℕ) (z id : ℤ) → is_legal lines ≡ true → attach_of c lines ≡ Some (k, own_line z id) → z ≤ℤ (after lines).zxid
own_line-past lines c k z id legal own = (legal-lined lines legal).past c k z id own

own_line-place : (lines : List TranscriptLine) (c : ℕ) (id : ℤ) (x : Session) (k : ℕ) (a : Attachment) → attached_session c (after lines) ≡ Some (id, x) → attach_of c lines ≡ Some (k, a)
    → (p : IsListed lines id x) → p.place ≡ k
unfolding own_place
own_line-place lines c id x k a at own p =
    ap (λ o. own_place o k) (sym p.own ∙ ap (λ n. attach_of n lines) (attached_in-of c (entries (after lines).sessions) (id, x) at) ∙ own)

-- no line after the own line opened, attached or ended the session
pub attached-unmoved : (lines : List TranscriptLine) (c : ℕ) (id : ℤ) (x : Session) (k : ℕ) (a : Attachment) → is_legal lines ≡ true → attached_session c (after lines) ≡ Some (id, x) → attach_of c lines ≡ Some (k, a)
    → NoneAfter (changes_session id) k lines
attached-unmoved lines c id x k a legal at own =
    let p = (legal-lined lines legal).all id x (attached_session-open c (after lines) (id, x) at) in
    subst (λ (n : ℕ). NoneAfter (changes_session id) n lines) (own_line-place lines c id x k a at own p) p.unmoved

-- no line after the own line lapsed the session, where it lives
pub attached-alive : (lines : List TranscriptLine) (c : ℕ) (id : ℤ) (x : Session) (k : ℕ) (a : Attachment) → is_legal lines ≡ true → attached_session c (after lines) ≡ Some (id, x) → attach_of c lines ≡ Some (k, a)
    → x.lapsed ≡ false → NoneAfter (lapses_session id) k lines
attached-alive lines c id x k a legal at own lives =
    let p = (legal-lined lines legal).all id x (attached_session-open c (after lines) (id, x) at) in
    subst (λ (n : ℕ). NoneAfter (lapses_session id) n lines) (own_line-place lines c id x k a at own p) (p.alive lives)
