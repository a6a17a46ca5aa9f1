-- A step of a connect shows no number below 0.
use Rattle.std.proofs.Common.{◌≡◌, ℤ, pos, Bool, true, false, List, refl, sym, ◌∙◌, subst, inl, inr, arith}
use Rattle.std.proofs.lemmas.Int.{ints}
use Rattle.std.specs.Ordering.{int_eq}
use Rattle.std.specs.Prelude.{MatchBool, None, Option, Some, int_lt}
use Rattle.ev_types.specs.declared.answer.ActAns.{ActAns}
use Rattle.ev_types.specs.declared.answer.Answer.TheVariants as answer
use Rattle.ev_types.specs.declared.answer.Answer.{Answer}
use Rattle.ev_types.specs.declared.ask.Ask.{Ask}
use Rattle.zn_layout.specs.declared.record.LeaseRec.{LeaseRec}
use Rattle.zn_view.specs.Seen.{View, head_of, head_zxid}
use Rattle.zs_session.specs.Answering.{viewed}
use Rattle.zs_session.specs.Connecting.{ConnectAnswers, Attached as AttachedBy, Created, ConnectEnds, ConnectLookedAgain, ConnectLooksFirst, Resumes, ConnectSteps, Waits, asked_by_connect, asked_in_phase, attached, is_taken, timeout_in}
use Rattle.zs_session.specs.Sessions.{attach_wants, first_wants, session_wants}
use Rattle.zs_session.specs.declared.connect.Connect.{Connect}
use Rattle.zs_session.specs.declared.connect.ConnectStep.TheVariants as steps
use Rattle.zs_session.specs.declared.connect.ConnectStep.{ConnectStep}
use Rattle.zs_session.specs.declared.connect.Phase.TheVariants.{Attaching, Creating, Granting, Keeping, Looking, LookingAgain, Over, Unasked}
use Rattle.zs_session.specs.declared.connect.Phase.{Phase}
use Rattle.zx_base.proofs.Options.{none_some}
use Rattle.zp_step.proofs.Cases.{of_alive}
use Rattle.zp_verdict_laws.proofs.Shown.{IsNaturalView, number-natural, view-zxid, viewed-natural}
use Rattle.zp_verdict_laws.proofs.Stored.{AreNaturalParts, IsNatural, IsNaturalAnswer}
use Rattle.zx_base.proofs.Booleans.{either}

-- the zxid and the number of an attachment, both zxids of a client that is ahead, or the revision at which a number is taken
abbrev pub IsNaturalStep : ConnectStep → Type 0
IsNaturalStep (steps.Ask q) = Unit {0}
IsNaturalStep (steps.Attached response who timeout number zxid) = IsNatural who.mine × IsNatural number
IsNaturalStep (steps.Ahead client head) = IsNatural client × IsNatural head
IsNaturalStep steps.Unknown = Unit {0}
IsNaturalStep (steps.Taken revision) = IsNatural revision

above : (head client : ℤ) → IsNatural head → int_lt head client ≡ true → IsNatural client
above head client n less = grind (arith, ints, n, less)

-- what asks something shows no number
asks-natural : (step : ConnectStep) (o : Option Ask) (q : Ask) → o ≡ Some q → asked_by_connect step ≡ o → IsNaturalStep step
asks-natural (steps.Ask a) o q is e = tt
asks-natural (steps.Attached response who timeout number zxid) o q is e = absurd (none_some (e ∙ is))
asks-natural (steps.Ahead client head) o q is e = absurd (none_some (e ∙ is))
asks-natural steps.Unknown o q is e = tt
asks-natural (steps.Taken revision) o q is e = absurd (none_some (e ∙ is))

module _ (x : Connect) (phase : Phase) (step : ConnectStep) where
  waits-natural : (next : Phase) (q : Ask) → asked_in_phase x next ≡ Some q → Waits x next phase step → IsNaturalStep step
  waits-natural next q is w = asks-natural step (asked_in_phase x next) q is w.1

  ends-natural : (end : ConnectStep) → IsNaturalStep end → ConnectEnds end phase step → IsNaturalStep step
  ends-natural end n e = subst IsNaturalStep (sym e.1) n

  resumes-natural : (v : View) (next : ℤ → LeaseRec → Phase) (asked : (seen : ℤ) (life : LeaseRec) → (q : Ask) × (asked_in_phase x (next seen life) ≡ Some q)) → Resumes x v next phase step → IsNaturalStep step
  resumes-natural v next asked (inl e) = ends-natural steps.Unknown tt e.1
  resumes-natural v next asked (inr (seen, life, saw, w)) = (let q = asked seen life in waits-natural (next seen life) q.0 q.1 w)

  keeping-asks : (seen : ℤ) (life : LeaseRec) → (q : Ask) × (asked_in_phase x (Keeping seen life) ≡ Some q)
  keeping-asks seen life = (_, refl)

  attaching-asks : (seen : ℤ) (life : LeaseRec) → (q : Ask) × (asked_in_phase x (Attaching seen life) ≡ Some q)
  attaching-asks seen life = (_, refl)

  looks-natural : (v : View) → IsNaturalView v → ConnectLooksFirst x v phase step → IsNaturalStep step
  looks-natural v n h = go (int_lt (head_zxid (head_of v)) x.request.last_zxid) refl h
    where
      go : (b : Bool) → int_lt (head_zxid (head_of v)) x.request.last_zxid ≡ b → MatchBool b (ConnectEnds (steps.Ahead x.request.last_zxid (head_zxid (head_of v))) phase step)
          (MatchBool (int_eq x.request.session (pos 0)) (Waits x Granting phase step) (Resumes x v Keeping phase step)) → IsNaturalStep step
      go true e f = ends-natural (steps.Ahead x.request.last_zxid (head_zxid (head_of v))) (above (head_zxid (head_of v)) x.request.last_zxid (view-zxid v n) e, view-zxid v n) f
      go false e f = either (int_eq x.request.session (pos 0)) (Waits x Granting phase step) (Resumes x v Keeping phase step) (IsNaturalStep step) f (waits-natural Granting _ refl) (resumes-natural v Keeping keeping-asks)

  created-natural : (z : ℤ) (b : Bool) (parts : List ActAns) → IsNatural z → AreNaturalParts parts → Created x z b parts phase step → IsNaturalStep step
  created-natural z true parts n all e = ends-natural (attached x.request x.fresh.id (timeout_in x) x.fresh.passwd z parts) (n, number-natural parts all) e
  created-natural z false parts n all (records, h) =
      either (is_taken x.fresh.id (viewed z (session_wants x.fresh.id) parts)) (ConnectEnds (steps.Taken z) phase step) (Waits x Creating phase step) (IsNaturalStep step) h (ends-natural (steps.Taken z) n) (waits-natural Creating _ refl)

  again-natural : (z : ℤ) (parts : List ActAns) → ConnectLookedAgain x z parts phase step → IsNaturalStep step
  again-natural z parts (records, h) = resumes-natural (viewed z (attach_wants x.request.session) parts) Attaching attaching-asks h

  attached-natural : (life : LeaseRec) (z : ℤ) (b : Bool) (parts : List ActAns) → IsNatural z → AreNaturalParts parts → AttachedBy x life z b parts phase step → IsNaturalStep step
  attached-natural life z true parts n all e = ends-natural (attached x.request x.request.session life.timeout life.passwd z parts) (n, number-natural parts all) e
  attached-natural life z false parts n all h = again-natural z parts h

  answers-natural : (p : Phase) (a : Answer) → IsNaturalAnswer a → ConnectAnswers x p a phase step → IsNaturalStep step
  answers-natural Unasked a n h = absurd h
  answers-natural Looking (answer.Txn z b parts) n h = looks-natural (viewed z (first_wants x.request) parts) (viewed-natural z (first_wants x.request) parts n.0 n.1) h.1
  answers-natural Looking (answer.Range z found) n h = absurd h
  answers-natural Looking (answer.Granted z id ttl) n h = absurd h
  answers-natural Looking (answer.Alive z id ttl) n h = absurd h
  answers-natural Granting a n h = waits-natural Creating _ refl h
  answers-natural Creating (answer.Txn z b parts) n h = created-natural z b parts n.0 n.1 h
  answers-natural Creating (answer.Range z found) n h = absurd h
  answers-natural Creating (answer.Granted z id ttl) n h = absurd h
  answers-natural Creating (answer.Alive z id ttl) n h = absurd h
  answers-natural (Keeping seen life) a n h = of_alive a _ (IsNaturalStep step) h (λ ttl g.
      either (int_eq ttl (pos 0)) (Waits x LookingAgain phase step) (Waits x (Attaching seen life) phase step) (IsNaturalStep step) g (waits-natural LookingAgain _ refl) (waits-natural (Attaching seen life) _ refl))
  answers-natural LookingAgain (answer.Txn z b parts) n h = again-natural z parts h
  answers-natural LookingAgain (answer.Range z found) n h = absurd h
  answers-natural LookingAgain (answer.Granted z id ttl) n h = absurd h
  answers-natural LookingAgain (answer.Alive z id ttl) n h = absurd h
  answers-natural (Attaching seen life) (answer.Txn z b parts) n h = attached-natural life z b parts n.0 n.1 h
  answers-natural (Attaching seen life) (answer.Range z found) n h = absurd h
  answers-natural (Attaching seen life) (answer.Granted z id ttl) n h = absurd h
  answers-natural (Attaching seen life) (answer.Alive z id ttl) n h = absurd h
  answers-natural Over a n h = absurd h

pub connects-natural : (x new : Connect) (a : Option Answer) (step : ConnectStep) → ((b : Answer) → a ≡ Some b → IsNaturalAnswer b) → ConnectSteps x a step new → IsNaturalStep step
connects-natural x new None step n s = waits-natural x new.phase step Looking _ refl s.moves
connects-natural x new (Some a) step n s = answers-natural x new.phase step x.phase a (n a refl) s.moves
