-- What a look leads to, by the wants that were read and the view that was made.
use Rattle.std.proofs.Common.{◌≡◌, sym, ap, ◌∙◌, subst, ℤ, Bool, List}
use Rattle.std.specs.Prelude.{Result, IfOk}
use Rattle.ev_types.specs.declared.answer.ActAns.{ActAns}
use Rattle.ev_types.specs.declared.answer.Answer.{Answer}
use Rattle.ev_types.specs.declared.answer.Answer.TheVariants as answer
use Rattle.zn_view.specs.declared.want.Want.{Want}
use Rattle.zn_view.specs.Adding.{AreRecords}
use Rattle.zn_view.specs.Seen.{View}
use Rattle.zs_session.specs.declared.connect.Connect.{Connect}
use Rattle.zs_session.specs.declared.connect.ConnectStep.{ConnectStep}
use Rattle.zs_session.specs.declared.connect.Phase.{Phase}
use Rattle.zs_session.specs.declared.connect.Phase.TheVariants.{Attaching}
use Rattle.zs_session.specs.declared.fault.StepFault.{StepFault}
use Rattle.zs_session.specs.declared.moves.Move.{Move}
use Rattle.zs_session.specs.Answering.{viewed, OfTxn}
use Rattle.zs_session.specs.Connecting.{ConnectLooksFirst, ConnectLooked, ConnectLookedAgain, Resumes}
use Rattle.zs_session.specs.Sessions.{first_wants, attach_wants}

module _ (c : Connect) (z : ℤ) (parts : List ActAns) (ws : List Want) (v : View) (phase : Phase) (step : ConnectStep) (records : AreRecords ws parts) (is : v ≡ viewed z ws parts) where
  pub looked-first : ws ≡ first_wants c.request → ConnectLooksFirst c v phase step → ConnectLooked c z parts phase step
  looked-first e looks =
      (subst (λ (l : List Want). AreRecords l parts) e records, subst (λ (w : View). ConnectLooksFirst c w phase step) (is ∙ ap (λ (l : List Want). viewed z l parts) e) looks)

  pub looked-again : ws ≡ attach_wants c.request.session → Resumes c v Attaching phase step → ConnectLookedAgain c z parts phase step
  looked-again e looks =
      (subst (λ (l : List Want). AreRecords l parts) e records, subst (λ (w : View). Resumes c w Attaching phase step) (is ∙ ap (λ (l : List Want). viewed z l parts) e) looks)

-- ---- by the answer

pub of_txn : (P : ℤ → Bool → List ActAns → Move → Type 0) (a : Answer) (z : ℤ) (b : Bool) (parts : List ActAns) (r : Result Move StepFault)
    → a ≡ answer.Txn z b parts → IfOk r (P z b parts) → IfOk r (λ m. OfTxn a (λ w d ps. P w d ps m))
of_txn P a z b parts r e h = subst (λ (x : Answer). IfOk r (λ m. OfTxn x (λ w d ps. P w d ps m))) (sym e) h
