-- What a reap waits for after a step.
use Rattle.std.proofs.Common.{◌++◌, ℤ, pos, Bool, true, false, List, Option, Some, None, refl, sym, subst, inl, inr}
use Rattle.std.specs.Prelude.{◌⊎◌, int_lt, MatchBool}
use Rattle.ev_types.specs.declared.answer.ActAns.{ActAns}
use Rattle.ev_types.specs.declared.answer.Answer.{Answer}
use Rattle.ev_types.specs.declared.answer.Answer.TheVariants as answer
use Rattle.ev_types.specs.declared.ask.Ask.{Ask}
use Rattle.zn_view.specs.declared.want.Want.{Want}
use Rattle.zn_view.specs.Adding.{AreRecords}
use Rattle.zn_view.specs.Asks.{reading, transaction}
use Rattle.zn_view.specs.Seen.{View}
use Rattle.zs_close.specs.declared.reap.Reaping.{Reaping}
use Rattle.zs_close.specs.declared.reap.Reaping.TheVariants.{Planned, Kept, Gone, TooMany}
use Rattle.zs_session.specs.Answering.{viewed}
use Rattle.zs_reap.specs.declared.reap.Phase.{Phase}
use Rattle.zs_reap.specs.declared.reap.Phase.TheVariants.{Unasked, Looking, Counting, Removing, Over}
use Rattle.zs_reap.specs.declared.reap.Reap.{Reap}
use Rattle.zs_reap.specs.declared.reap.ReapStep.{ReapStep}
use Rattle.zs_reap.specs.declared.reap.ReapStep.TheVariants as steps
use Rattle.zs_reap.specs.Steps.{Answered, Asks, ReaperDecides, ReaperEnds, ReaperFollows, IsAsked, IsReaperCounted, IsReaperTested, IsTxn, IsReaperWaiting, ReaperLookedAgain, ReaperMoves, reaper_wants}

module _ (phase : Phase) (step : ReapStep) where
  asked : (next : Phase) (q : Ask) → IsAsked next → IsTxn q → Asks next q phase step → IsReaperWaiting step phase
  asked next q asks txn a = subst (λ (x : ReapStep). IsReaperWaiting x phase) (sym a.1) (subst IsAsked (sym a.0) asks, txn)

  ended : (end : ReapStep) → IsReaperWaiting end Over → ReaperEnds end phase step → IsReaperWaiting step phase
  ended end over e = subst (λ (x : ReapStep). IsReaperWaiting x phase) (sym e.1) (subst (IsReaperWaiting end) (sym e.0) over)

  followed : (v : View) (r : Reaping) → ReaperFollows v r phase step → IsReaperWaiting step phase
  followed v (Planned p) h = asked (Removing p.again) (transaction p) tt tt h
  followed v Kept h = ended (steps.Kept v.revision) refl h
  followed v Gone h = ended (steps.Gone v.revision) refl h
  followed v TooMany h = absurd h

  looked-again : (id : ℤ) (ws : List Want) (z : ℤ) (parts : List ActAns) → ReaperLookedAgain id ws z parts phase step → IsReaperWaiting step phase
  looked-again id ws z parts (t, inl h) = followed (viewed z ws parts) h.reaping h.follows
  looked-again id ws z parts (t, inr h) = asked Looking (reading (pos 0) (reaper_wants id)) tt tt h.asks

  looked : (id : ℤ) (z : ℤ) (parts : List ActAns) (below : Bool)
      → MatchBool below (AreRecords (reaper_wants id) parts × ReaperEnds (steps.Gone z) phase step) (IsReaperTested id (reaper_wants id) z parts × (ReaperDecides id (viewed z (reaper_wants id) parts) phase step ⊎ IsReaperCounted id (viewed z (reaper_wants id) parts) phase step))
      → IsReaperWaiting step phase
  looked id z parts true h = ended (steps.Gone z) refl h.1
  looked id z parts false (t, inl h) = followed (viewed z (reaper_wants id) parts) h.reaping h.follows
  looked id z parts false (t, inr h) =
      let r = (viewed z (reaper_wants id) parts).revision in
      asked (Counting r (reaper_wants id ++ h.wants)) (reading r (reaper_wants id ++ h.wants)) tt tt h.asks

  answered : (id : ℤ) (p : Phase) (z : ℤ) (b : Bool) (parts : List ActAns) → Answered id p z b parts phase step → IsReaperWaiting step phase
  answered id Unasked z b parts h = absurd h
  answered id Looking z b parts h = looked id z parts (int_lt id (pos 1)) h
  answered id (Counting first ws) z b parts h = looked-again id ws first parts h
  answered id (Removing again) z true parts h = ended (steps.Reaped z) refl h
  answered id (Removing again) z false parts h = looked-again id again z parts h
  answered id Over z b parts h = absurd h

  pub step-waits : (r : Reap) (a : Option Answer) → ReaperMoves r a phase step → IsReaperWaiting step phase
  step-waits r None h = asked Looking (reading (pos 0) (reaper_wants r.session)) tt tt h
  step-waits r (Some (answer.Txn z b parts)) h = answered r.session r.phase z b parts h
  step-waits r (Some (answer.Range z found)) h = absurd h
  step-waits r (Some (answer.Granted z id ttl)) h = absurd h
  step-waits r (Some (answer.Alive z id ttl)) h = absurd h
