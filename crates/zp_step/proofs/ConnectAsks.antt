-- What a step of a connect asks is what its next phase has out.
use Rattle.std.proofs.Common.{◌≡◌, ℤ, pos, Bool, true, false, Option, Some, None, List, refl, sym, ap, ◌∙◌, inl, inr}
use Rattle.std.specs.Prelude.{MatchBool, int_lt}
use Rattle.std.specs.Ordering.{int_eq}
use Rattle.ev_types.specs.declared.answer.ActAns.{ActAns}
use Rattle.ev_types.specs.declared.answer.Answer.{Answer}
use Rattle.zn_layout.specs.declared.record.LeaseRec.{LeaseRec}
use Rattle.zn_view.specs.Seen.{View, head_of, head_zxid}
use Rattle.zs_session.specs.declared.connect.Connect.{Connect}
use Rattle.zs_session.specs.declared.connect.ConnectStep.{ConnectStep}
use Rattle.zs_session.specs.declared.connect.ConnectStep.TheVariants as steps
use Rattle.zs_session.specs.declared.connect.Phase.{Phase}
use Rattle.zs_session.specs.declared.connect.Phase.TheVariants.{Unasked, Looking, Granting, Creating, Keeping, LookingAgain, Attaching, Over}
use Rattle.zs_session.specs.Answering.{viewed}
use Rattle.zs_session.specs.Connecting.{ConnectAnswers, Attached, Created, ConnectEnds, Kept, ConnectLookedAgain, ConnectLooksFirst, ConnectMoves, Resumes, ConnectSteps, Waits, asked_by_connect, asked_in_phase, is_taken}
use Rattle.zs_session.specs.Sessions.{attach_wants, first_wants, session_wants}
use Rattle.zp_step.proofs.Cases.{of_alive, of_txn}
use Rattle.zx_base.proofs.Booleans.{either}

module _ (c : Connect) (phase : Phase) (step : ConnectStep) where
  abbrev AsksAs : Type 0
  AsksAs = asked_by_connect step ≡ asked_in_phase c phase

  waits : (next : Phase) → Waits c next phase step → AsksAs
  waits next w = w.1 ∙ ap (asked_in_phase c) (sym w.0)

  ends : (end : ConnectStep) → asked_by_connect end ≡ None → ConnectEnds end phase step → AsksAs
  ends end none e = ap asked_by_connect e.1 ∙ none ∙ ap (asked_in_phase c) (sym e.0)

  resumes : (v : View) (next : ℤ → LeaseRec → Phase) → Resumes c v next phase step → AsksAs
  resumes v next (inl h) = ends steps.Unknown refl h.1
  resumes v next (inr (seen, life, mine, w)) = waits (next seen life) w

  looks-first : (v : View) → ConnectLooksFirst c v phase step → AsksAs
  looks-first v h =
      let head = head_zxid (head_of v) in
      either (int_lt head c.request.last_zxid) (ConnectEnds (steps.Ahead c.request.last_zxid head) phase step) (MatchBool (int_eq c.request.session (pos 0)) (Waits c Granting phase step) (Resumes c v Keeping phase step)) AsksAs h
      (ends (steps.Ahead c.request.last_zxid head) refl)
      (λ k. either (int_eq c.request.session (pos 0)) (Waits c Granting phase step) (Resumes c v Keeping phase step) AsksAs k (waits Granting) (resumes v Keeping))

  created : (z : ℤ) (b : Bool) (parts : List ActAns) → Created c z b parts phase step → AsksAs
  created z true parts h = ends _ refl h
  created z false parts h =
      either (is_taken c.fresh.id (viewed z (session_wants c.fresh.id) parts)) (ConnectEnds (steps.Taken z) phase step) (Waits c Creating phase step) AsksAs h.1 (ends (steps.Taken z) refl) (waits Creating)

  kept : (seen : ℤ) (life : LeaseRec) (ttl : ℤ) → Kept c seen life ttl phase step → AsksAs
  kept seen life ttl h = either (int_eq ttl (pos 0)) (Waits c LookingAgain phase step) (Waits c (Attaching seen life) phase step) AsksAs h (waits LookingAgain) (waits (Attaching seen life))

  looked-again : (z : ℤ) (parts : List ActAns) → ConnectLookedAgain c z parts phase step → AsksAs
  looked-again z parts h = resumes (viewed z (attach_wants c.request.session) parts) Attaching h.1

  attached : (life : LeaseRec) (z : ℤ) (b : Bool) (parts : List ActAns) → Attached c life z b parts phase step → AsksAs
  attached life z true parts h = ends _ refl h
  attached life z false parts h = looked-again z parts h

  answered : (p : Phase) (a : Answer) → ConnectAnswers c p a phase step → AsksAs
  answered Unasked a h = absurd h
  answered Looking a h = of_txn a _ AsksAs h (λ z b parts f. looks-first (viewed z (first_wants c.request) parts) f.1)
  answered Granting a h = waits Creating h
  answered Creating a h = of_txn a _ AsksAs h (λ z b parts f. created z b parts f)
  answered (Keeping seen life) a h = of_alive a _ AsksAs h (λ ttl f. kept seen life ttl f)
  answered LookingAgain a h = of_txn a _ AsksAs h (λ z b parts f. looked-again z parts f)
  answered (Attaching seen life) a h = of_txn a _ AsksAs h (λ z b parts f. attached life z b parts f)
  answered Over a h = absurd h

  moved : (a : Option Answer) → ConnectMoves c a phase step → AsksAs
  moved None h = waits Looking h
  moved (Some a) h = answered c.phase a h

-- the request and the fresh number stay, so the ask of a phase does
pub same-ask : (c : Connect) (a b p : Phase) → asked_in_phase (record { request = c.request; fresh = c.fresh; phase = a }) p ≡ asked_in_phase (record { request = c.request; fresh = c.fresh; phase = b }) p
same-ask c a b Unasked = refl
same-ask c a b Looking = refl
same-ask c a b Granting = refl
same-ask c a b Creating = refl
same-ask c a b (Keeping seen life) = refl
same-ask c a b LookingAgain = refl
same-ask c a b (Attaching seen life) = refl
same-ask c a b Over = refl

pub connect-asks : (c : Connect) (a : Option Answer) (step : ConnectStep) (new : Connect) → ConnectSteps c a step new → asked_by_connect step ≡ asked_in_phase new new.phase
connect-asks c a step new h =
    moved c new.phase step a h.moves ∙ same-ask c c.phase new.phase new.phase ∙ ap (λ (d : Connect). asked_in_phase d new.phase) (sym h.same)
