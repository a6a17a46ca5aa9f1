-- A session has the password that its connection offered.
use Rattle.std.proofs.Common.{◌≡◌, ℕ, ℤ, ◌+◌, ◌≤◌, Bool, true, List, [], ◌∷◌, ◌++◌, length, take, drop, take-append-drop, Option, Some, None, refl, sym, ap, ◌∙◌, subst, inl, inr}
use Rattle.std.specs.Prelude.{◌≤ℤ◌, option_map, if◌then◌else◌}
use Rattle.std.specs.List.{list_all}
use Rattle.std.specs.Ordering.{int_cmp}
use Rattle.std.specs.FinMap.{empty, get-empty}
use Rattle.std.proofs.lemmas.Bool.{and_parts, cases_Bool}
use Rattle.zx_base.proofs.Options.{some_none}
use Rattle.zk_model.specs.Limits.{max_long}
use Rattle.zk_service.specs.declared.update.UpdateKind.{UpdateKind}
use Rattle.zk_service.specs.declared.update.UpdateKind.TheVariants.{Begin, Session as NewSession, Attach, Asked, Closed, Reaped}
use Rattle.zk_service.specs.declared.fresh.Fresh.{Fresh}
use Rattle.zk_transcript.specs.declared.transcript.TranscriptLine.{TranscriptLine}
use Rattle.zk_transcript.specs.declared.transcript.TranscriptLine.TheVariants.{Update, Open, Frame, Send, Lapse, Close}
use Rattle.zk_service.specs.States.{State, Session, Commit, attached_anew, committed, lapsed_in, new_session, nothing_yet, or_nothing, session_at}
use Rattle.zk_transcript.specs.History.{after, asked_commit, change, connect, open_shown, opening, state_at, updated}
use Rattle.zk_transcript.specs.Legal.{asks_anew, is_legal_line, is_next_zxid, may_attach, may_update, offers}
use Rattle.zk_transcript.proofs.Histories.{begin_line, first_shown-push, is_still, legal-induct}
use Rattle.zk_service.proofs.SessionMaps.{EachSession, each_session-gone, each_session-put}
use Rattle.zk_legal.specs.Faults.{IsRunTo, has_event, history_fault, or_empty}
use Rattle.zk_legal.specs.Passwords.{OfferPasswords}
use Rattle.zk_legal.proofs.Fitting.{run-front, uneventful}
use Rattle.zk_legal.proofs.NoFault.{history_fault-none}

abbrev IsLong : ℤ → Session → Type 0
IsLong id x = length x.passwd ≡ 16

nobody : EachSession IsLong empty
nobody id x is = absurd (some_none (sym is ∙ get-empty int_cmp id))

lapsed-long : (s : State) (id : ℤ) → EachSession IsLong s.sessions → EachSession IsLong (lapsed_in s id (session_at id s)).sessions
lapsed-long s id long = by_session (session_at id s) refl
  where
    by_session : (o : Option Session) → session_at id s ≡ o → EachSession IsLong (lapsed_in s id o).sessions
    by_session None is = long
    by_session (Some x) is = each_session-put IsLong s.sessions id (record x { lapsed = true }) long (long id x is)

attached-long : (s : State) (z id : ℤ) (c : ℕ) → EachSession IsLong s.sessions → EachSession IsLong (attached_anew s z id c (session_at id s))
attached-long s z id c long = by_session (session_at id s) refl
  where
    by_session : (o : Option Session) → session_at id s ≡ o → EachSession IsLong (attached_anew s z id c o)
    by_session None is = long
    by_session (Some x) is = each_session-put IsLong s.sessions id (record x { connection = c; attached = z }) long (long id x is)

committed-long : (s : State) (z : ℤ) (o : Option Commit) → EachSession IsLong s.sessions → EachSession IsLong (committed s z o).sessions
committed-long s z None long = long
committed-long s z (Some x) long = long

offered-long : (before : List TranscriptLine) (s : State) (z id : ℤ) (c : ℕ) → OfferPasswords before → may_update before s z (NewSession id c) ≡ true → length (new_session (opening c before) (connect c before) c z).passwd ≡ 16
unfolding may_update
offered-long before s z id c offered may = by_opening (opening c before) refl (and_parts _ (offers id (opening c before)) (and_parts _ (asks_anew (connect c before)) (and_parts _ (may_attach before c z (connect c before)) may).0).0).1
  where
    by_opening : (o : Option Fresh) → opening c before ≡ o → offers id o ≡ true → length (or_nothing [] (option_map (λ (f : Fresh). f.passwd) o)) ≡ 16
    by_opening None is offer = absurd (cc)
    by_opening (Some o) is offer = offered c o is

updated-long : (before : List TranscriptLine) (s : State) (z : ℤ) (kind : UpdateKind) → OfferPasswords before → EachSession IsLong s.sessions → may_update before s z kind ≡ true → EachSession IsLong (updated before s z kind).sessions
unfolding updated
updated-long before s z (Begin now) offered long may = nobody
updated-long before s z (NewSession id c) offered long may = each_session-put IsLong s.sessions id (new_session (opening c before) (connect c before) c z) long (offered-long before s z id c offered may)
updated-long before s z (Attach id c) offered long may = attached-long s z id c long
updated-long before s z (Asked c i now) offered long may = committed-long s z (asked_commit before s z c i now) long
updated-long before s z (Closed id c i) offered long may = each_session-gone IsLong s.sessions id long
updated-long before s z (Reaped id) offered long may = each_session-gone IsLong s.sessions id long

change-long : (before : List TranscriptLine) (s : State) (l : TranscriptLine) → OfferPasswords before → EachSession IsLong s.sessions → is_legal_line before s l ≡ true → EachSession IsLong (change before s l).sessions
change-long before s (Update u) offered long legal = updated-long before s u.zxid u.kind offered long (and_parts (may_update before s u.zxid u.kind) (is_next_zxid s u.zxid) legal).0
change-long before s (Lapse revision id) offered long legal = lapsed-long s id long
change-long before s (Open c p id pw layout) offered long legal = long
change-long before s (Frame c i z bytes) offered long legal = long
change-long before s (Send c bytes) offered long legal = long
change-long before s (Close c end) offered long legal = long

offered-front : (before more : List TranscriptLine) → OfferPasswords (before ++ more) → OfferPasswords before
offered-front before more offered c o is = offered c o (first_shown-push (open_shown c) before more o is)

abbrev AreLong : List TranscriptLine → State → Type 0
AreLong lines s = OfferPasswords lines → EachSession IsLong s.sessions

long-first : (before : List TranscriptLine) (z : ℤ) (now : ℕ) → list_all is_still before ≡ true → z ≤ℤ max_long → AreLong (before ++ begin_line z now ∷ []) (updated before nothing_yet z (Begin now))
unfolding updated
long-first before z now still most offered = nobody

long-next : (before : List TranscriptLine) (s : State) (l : TranscriptLine) → AreLong before s → 1 ≤ s.updates → is_legal_line before s l ≡ true → AreLong (before ++ l ∷ []) (change before s l)
long-next before s l was some legal offered = let earlier = offered-front before (l ∷ []) offered in change-long before s l earlier (was earlier) legal

after-long : (before : List TranscriptLine) → OfferPasswords before → IsRunTo before (after before) → EachSession IsLong (after before).sessions
unfolding history_fault after
after-long before offered run = elim (cases_Bool (has_event before)) [
  | inl event ↦
      let faultless : history_fault before ≡ None = ap (or_empty before) run.faultless ∙ ap (λ (holds : Bool). if holds then None else Some (length before + 1)) event in
      legal-induct AreLong long-first long-next before (history_fault-none before faultless) offered
  | inr still ↦ subst (λ (s : State). EachSession IsLong s.sessions) (sym (uneventful [] nothing_yet before still)) nobody
]

-- a session that is open at a moment of a transcript
pub open-password : (lines : List TranscriptLine) (moment : ℕ) (id : ℤ) (x : Session) → history_fault lines ≡ None → OfferPasswords lines → session_at id (state_at lines moment) ≡ Some x → length x.passwd ≡ 16
open-password lines moment id x none offered is =
    let before = take moment lines in
    let split : lines ≡ before ++ drop moment lines = sym (take-append-drop moment lines) in
    after-long before (offered-front before (drop moment lines) (subst OfferPasswords split offered)) (run-front lines before (drop moment lines) none split) id x is
