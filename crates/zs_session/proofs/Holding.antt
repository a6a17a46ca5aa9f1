-- The phase that a step leads to: what a connect knows there, and what it waits for.
use Rattle.std.proofs.Common.{◌≡◌, ℤ, pos, Bool, true, false, Option, Some, None, List, refl, sym, ap, ◌∙◌, subst, inl, inr}
use Rattle.std.specs.Prelude.{MatchBool, int_lt, ◌≤ℤ◌}
use Rattle.std.specs.Ordering.{int_eq}
use Rattle.std.proofs.lemmas.Bool.Decides.{Decides-int_eq}
use Rattle.ev_types.specs.declared.answer.ActAns.{ActAns}
use Rattle.ev_types.specs.declared.answer.Answer.{Answer}
use Rattle.ev_types.specs.declared.answer.Answer.TheVariants as answer
use Rattle.zx_base.proofs.Options.{some_none}
use Rattle.zn_layout.specs.declared.record.LeaseRec.{LeaseRec}
use Rattle.zn_view.specs.Seen.{View, head_of, head_zxid}
use Rattle.zs_session.specs.declared.connect.Connect.{Connect}
use Rattle.zs_session.specs.declared.connect.ConnectStep.{ConnectStep}
use Rattle.zs_session.specs.declared.connect.ConnectStep.TheVariants as steps
use Rattle.zs_session.specs.declared.connect.Phase.{Phase}
use Rattle.zs_session.specs.declared.connect.Phase.TheVariants.{Unasked, Looking, Granting, Creating, Keeping, LookingAgain, Attaching, Over}
use Rattle.zs_session.specs.Answering.{OfTxn, OfAlive, viewed}
use Rattle.zs_session.specs.Connecting.{ConnectAnswers, Attached, Created, ConnectEnds, IsConnectHeld, IsConnectPhase, IsResumable, IsConnectWaiting, Kept, ConnectLookedAgain, ConnectLooksFirst, ConnectMoves, Resumes, Waits, asked_by_connect, asked_in_phase, is_taken}
use Rattle.zs_session.specs.Sessions.{attach_wants, first_wants, session_wants}

either : (b : Bool) (P Q R : Type 0) → MatchBool b P Q → (b ≡ true → P → R) → (Q → R) → R
either true P Q R h f g = f refl h
either false P Q R h f g = g h

of_txn : (a : Answer) (P : ℤ → Bool → List ActAns → Type 0) (R : Type 0) → OfTxn a P → ((z : ℤ) (b : Bool) (parts : List ActAns) → P z b parts → R) → R
of_txn (answer.Txn z b parts) P R h f = f z b parts h
of_txn (answer.Range z found) P R h f = absurd h
of_txn (answer.Granted z id ttl) P R h f = absurd h
of_txn (answer.Alive z id ttl) P R h f = absurd h

of_alive : (a : Answer) (P : ℤ → Type 0) (R : Type 0) → OfAlive a P → ((ttl : ℤ) → P ttl → R) → R
of_alive (answer.Txn z b parts) P R h f = absurd h
of_alive (answer.Range z found) P R h f = absurd h
of_alive (answer.Granted z id ttl) P R h f = absurd h
of_alive (answer.Alive z id ttl) P R h f = f ttl h

-- a session that is attached has a number from 1 on
abbrev pub IsRealStep : ConnectStep → Type 0
IsRealStep (steps.Attached response who timeout number zxid) = pos 1 ≤ℤ who.session
IsRealStep _ = Unit {0}

-- ---- a step waits for an answer, or ends

module _ (c : Connect) (phase : Phase) (step : ConnectStep) where
  -- what holds where the next phase asks something, whose answer is waited for
  abbrev OnWait : Type 0 → Type 0
  OnWait R = (next : Phase) → IsConnectPhase c.request next → (asked_in_phase c next ≡ None → ⊥) → Waits c next phase step → R

  abbrev OnEnd : Type 0 → Type 0
  OnEnd R = (end : ConnectStep) → asked_by_connect end ≡ None → IsRealStep end → ConnectEnds end phase step → R

  module _ (R : Type 0) (wait : OnWait R) (end : OnEnd R) where
    resumes : (v : View) (next : ℤ → LeaseRec → Phase) → ((seen : ℤ) (life : LeaseRec) → IsResumable c.request life → IsConnectPhase c.request (next seen life))
        → ((seen : ℤ) (life : LeaseRec) → asked_in_phase c (next seen life) ≡ None → ⊥) → Resumes c v next phase step → R
    resumes v next f asks (inl h) = end steps.Unknown refl tt h.1
    resumes v next f asks (inr (seen, life, mine, w)) = wait (next seen life) (f seen life (record { session = mine.session; within = ((mine.saw).value).0; passwd = mine.passwd })) (asks seen life) w

    looks-first : (v : View) → ConnectLooksFirst c v phase step → R
    looks-first v h =
        let head = head_zxid (head_of v) in
        either (int_lt head c.request.last_zxid) (ConnectEnds (steps.Ahead c.request.last_zxid head) phase step) (MatchBool (int_eq c.request.session (pos 0)) (Waits c Granting phase step) (Resumes c v Keeping phase step)) R h
        (λ _. end (steps.Ahead c.request.last_zxid head) refl tt)
        (λ k. either (int_eq c.request.session (pos 0)) (Waits c Granting phase step) (Resumes c v Keeping phase step) R k
        (λ e. wait Granting ((Decides-int_eq c.request.session (pos 0)).0 e) some_none)
        (resumes v Keeping (λ seen life r. r) (λ seen life. some_none)))

    created : c.request.session ≡ pos 0 → pos 1 ≤ℤ c.fresh.id → (z : ℤ) (b : Bool) (parts : List ActAns) → Created c z b parts phase step → R
    created anew real z true parts h = end _ refl real h
    created anew real z false parts h =
        either (is_taken c.fresh.id (viewed z (session_wants c.fresh.id) parts)) (ConnectEnds (steps.Taken z) phase step) (Waits c Creating phase step) R h.1 (λ _. end (steps.Taken z) refl tt) (wait Creating anew some_none)

    kept : (seen : ℤ) (life : LeaseRec) (ttl : ℤ) → IsResumable c.request life → Kept c seen life ttl phase step → R
    kept seen life ttl r h =
        either (int_eq ttl (pos 0)) (Waits c LookingAgain phase step) (Waits c (Attaching seen life) phase step) R h (λ _. wait LookingAgain r.session some_none) (wait (Attaching seen life) r some_none)

    looked-again : (z : ℤ) (parts : List ActAns) → ConnectLookedAgain c z parts phase step → R
    looked-again z parts h = resumes (viewed z (attach_wants c.request.session) parts) Attaching (λ seen life r. r) (λ seen life. some_none) h.1

    attached : (life : LeaseRec) (z : ℤ) (b : Bool) (parts : List ActAns) → pos 1 ≤ℤ c.request.session → Attached c life z b parts phase step → R
    attached life z true parts real h = end _ refl real h
    attached life z false parts real h = looked-again z parts h

    answered : (p : Phase) (a : Answer) → pos 1 ≤ℤ c.fresh.id → IsConnectPhase c.request p → ConnectAnswers c p a phase step → R
    answered Unasked a real k h = absurd h
    answered Looking a real k h = of_txn a _ R h (λ z b parts f. looks-first (viewed z (first_wants c.request) parts) f.1)
    answered Granting a real k h = wait Creating k some_none h
    answered Creating a real k h = of_txn a _ R h (λ z b parts f. created k real z b parts f)
    answered (Keeping seen life) a real k h = of_alive a _ R h (λ ttl f. kept seen life ttl k f)
    answered LookingAgain a real k h = of_txn a _ R h (λ z b parts f. looked-again z parts f)
    answered (Attaching seen life) a real k h = of_txn a _ R h (λ z b parts f. attached life z b parts k.session f)
    answered Over a real k h = absurd h

    moved : (a : Option Answer) → IsConnectHeld c → ConnectMoves c a phase step → R
    moved None k h = wait Looking tt some_none h
    moved (Some a) k h = answered c.phase a k.fresh k.phase h

  -- ---- what it knows then

  pub step-held : (a : Option Answer) → IsConnectHeld c → ConnectMoves c a phase step → IsConnectHeld (record { request = c.request; fresh = c.fresh; phase = phase })
  step-held a k h = record {
    fresh = k.fresh;
    phase = moved (IsConnectPhase c.request phase) (λ next known asks w. subst (IsConnectPhase c.request) (sym w.0) known) (λ end none real e. subst (IsConnectPhase c.request) (sym e.0) tt) a k h;
  }

  step-real-end : (end : ConnectStep) → asked_by_connect end ≡ None → IsRealStep end → ConnectEnds end phase step → IsRealStep step
  step-real-end end none real e = subst IsRealStep (sym e.1) real

  asks-real : (s : ConnectStep) → (asked_by_connect s ≡ None → ⊥) → IsRealStep s
  asks-real (steps.Ask q) asks = tt
  asks-real (steps.Attached response who timeout number zxid) asks = absurd (asks refl)
  asks-real (steps.Ahead client head) asks = tt
  asks-real steps.Unknown asks = tt
  asks-real (steps.Taken z) asks = tt

  pub step-real : (a : Option Answer) → IsConnectHeld c → ConnectMoves c a phase step → IsRealStep step
  step-real a k h = moved (IsRealStep step) (λ next known asks w. asks-real step (λ none. asks (sym w.1 ∙ none))) step-real-end a k h

  -- ---- what it waits for

  abbrev new : Connect
  new = record { request = c.request; fresh = c.fresh; phase = phase }

  waits : (next : Phase) → (asked_in_phase c next ≡ None → ⊥) → Waits c next phase step → IsConnectWaiting step new
  waits next asks w = record { asked = w.1 ∙ ap (asked_in_phase c) (sym w.0); ends = λ none. absurd (asks (sym w.1 ∙ none)) }

  ended : (end : ConnectStep) → asked_by_connect end ≡ None → IsRealStep end → ConnectEnds end phase step → IsConnectWaiting step new
  ended end none real e = record { asked = ap asked_by_connect e.1 ∙ none ∙ ap (asked_in_phase c) (sym e.0); ends = λ _. e.0 }

  pub step-waits : (a : Option Answer) → IsConnectHeld c → ConnectMoves c a phase step → IsConnectWaiting step new
  step-waits a k h = moved (IsConnectWaiting step new) (λ next known. waits next) ended a k h
