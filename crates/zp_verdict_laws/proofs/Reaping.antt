-- A step of a reaper shows no number below 0.
use Rattle.std.proofs.Common.{◌≡◌, ◌++◌, ℤ, pos, Bool, true, false, List, refl, sym, subst, inl, inr}
use Rattle.std.specs.Prelude.{MatchBool, None, Option, Some, int_lt, ◌⊎◌}
use Rattle.ev_types.specs.declared.answer.ActAns.{ActAns}
use Rattle.ev_types.specs.declared.answer.Answer.TheVariants as answer
use Rattle.ev_types.specs.declared.answer.Answer.{Answer}
use Rattle.ev_types.specs.declared.ask.Ask.{Ask}
use Rattle.zn_view.specs.Adding.{AreRecords}
use Rattle.zn_view.specs.Asks.{reading, transaction}
use Rattle.zn_view.specs.declared.want.Want.{Want}
use Rattle.zs_close.specs.declared.reap.Reaping.TheVariants.{Gone, Kept, Planned, TooMany}
use Rattle.zs_close.specs.declared.reap.Reaping.{Reaping}
use Rattle.zs_reap.specs.Steps.{Answered as ReapAnswered, Asks, ReaperDecides, ReaperEnds as ReapEnds, ReaperFollows, IsReaperCounted, IsReaperTested, ReaperLookedAgain as ReapLookedAgain, ReaperSteps as ReapSteps, reaper_wants as first_looked}
use Rattle.zs_reap.specs.declared.reap.Phase.TheVariants as reaping
use Rattle.zs_reap.specs.declared.reap.Phase.{Phase as ReapPhase}
use Rattle.zs_reap.specs.declared.reap.Reap.{Reap}
use Rattle.zs_reap.specs.declared.reap.ReapStep.TheVariants as reaped
use Rattle.zs_reap.specs.declared.reap.ReapStep.{ReapStep}
use Rattle.zs_session.specs.Answering.{viewed}
use Rattle.zp_verdict_laws.proofs.Shown.{IsNaturalView, viewed-natural}
use Rattle.zp_verdict_laws.proofs.Stored.{AreNaturalParts, IsNatural, IsNaturalAnswer}
use Rattle.zn_view.specs.Seen.{View}

abbrev pub IsNaturalPhase : ReapPhase → Type 0
IsNaturalPhase reaping.Unasked = Unit {0}
IsNaturalPhase reaping.Looking = Unit {0}
IsNaturalPhase (reaping.Counting revision wants) = IsNatural revision
IsNaturalPhase (reaping.Removing again) = Unit {0}
IsNaturalPhase reaping.Over = Unit {0}

abbrev pub IsNaturalReap : ReapStep → Type 0
IsNaturalReap (reaped.Ask q) = Unit {0}
IsNaturalReap (reaped.Reaped z) = IsNatural z
IsNaturalReap (reaped.Kept z) = IsNatural z
IsNaturalReap (reaped.Gone z) = IsNatural z

pub record NaturallyReaps (phase : ReapPhase) (step : ReapStep) : Type 0 where
  pub phase_is : IsNaturalPhase phase
  pub step_is : IsNaturalReap step

module _ (phase : ReapPhase) (step : ReapStep) where
  reap-asks : (next : ReapPhase) (q : Ask) → IsNaturalPhase next → Asks next q phase step → NaturallyReaps phase step
  reap-asks next q n a = record { phase_is = subst IsNaturalPhase (sym a.0) n; step_is = subst IsNaturalReap (sym a.1) tt }

  reap-ends : (end : ReapStep) → IsNaturalReap end → ReapEnds end phase step → NaturallyReaps phase step
  reap-ends end n e = record { phase_is = subst IsNaturalPhase (sym e.0) tt; step_is = subst IsNaturalReap (sym e.1) n }

  reap-follows : (v : View) (r : Reaping) → IsNaturalView v → ReaperFollows v r phase step → NaturallyReaps phase step
  reap-follows v (Planned p) n h = reap-asks (reaping.Removing p.again) (transaction p) tt h
  reap-follows v Kept n h = reap-ends (reaped.Kept v.revision) n.revision h
  reap-follows v Gone n h = reap-ends (reaped.Gone v.revision) n.revision h
  reap-follows v TooMany n h = absurd h

  reap-again : (id : ℤ) (ws : List Want) (z : ℤ) (parts : List ActAns) → IsNatural z → AreNaturalParts parts → ReapLookedAgain id ws z parts phase step → NaturallyReaps phase step
  reap-again id ws z parts n all (t, inl h) = reap-follows (viewed z ws parts) h.reaping (viewed-natural z ws parts n all) h.follows
  reap-again id ws z parts n all (t, inr h) = reap-asks reaping.Looking (reading (pos 0) (first_looked id)) tt h.asks

  reap-looked : (id z : ℤ) (parts : List ActAns) (below : Bool) → IsNatural z → AreNaturalParts parts
      → MatchBool below (AreRecords (first_looked id) parts × ReapEnds (reaped.Gone z) phase step) (IsReaperTested id (first_looked id) z parts × (ReaperDecides id (viewed z (first_looked id) parts) phase step ⊎ IsReaperCounted id (viewed z (first_looked id) parts) phase step))
      → NaturallyReaps phase step
  reap-looked id z parts true n all h = reap-ends (reaped.Gone z) n h.1
  reap-looked id z parts false n all (t, inl h) = reap-follows (viewed z (first_looked id) parts) h.reaping (viewed-natural z (first_looked id) parts n all) h.follows
  reap-looked id z parts false n all (t, inr h) =
      let v = viewed z (first_looked id) parts in
      reap-asks (reaping.Counting v.revision (first_looked id ++ h.wants)) (reading v.revision (first_looked id ++ h.wants)) (viewed-natural z (first_looked id) parts n all).revision h.asks

  reap-answered : (id : ℤ) (p : ReapPhase) (z : ℤ) (b : Bool) (parts : List ActAns) → IsNaturalPhase p → IsNatural z → AreNaturalParts parts → ReapAnswered id p z b parts phase step → NaturallyReaps phase step
  reap-answered id reaping.Unasked z b parts k n all h = absurd h
  reap-answered id reaping.Looking z b parts k n all h = reap-looked id z parts (int_lt id (pos 1)) n all h
  reap-answered id (reaping.Counting first ws) z b parts k n all h = reap-again id ws first parts k all h
  reap-answered id (reaping.Removing again) z true parts k n all h = reap-ends (reaped.Reaped z) n h
  reap-answered id (reaping.Removing again) z false parts k n all h = reap-again id again z parts n all h
  reap-answered id reaping.Over z b parts k n all h = absurd h

pub reaps-natural : (r new : Reap) (a : Option Answer) (step : ReapStep) → ((b : Answer) → a ≡ Some b → IsNaturalAnswer b) → IsNaturalPhase r.phase → ReapSteps r a step new → NaturallyReaps new.phase step
reaps-natural r new None step n k s = reap-asks new.phase step reaping.Looking (reading (pos 0) (first_looked r.session)) tt s.moves
reaps-natural r new (Some (answer.Txn z b parts)) step n k s = (let m = n (answer.Txn z b parts) refl in reap-answered new.phase step r.session r.phase z b parts k m.0 m.1 s.moves)
reaps-natural r new (Some (answer.Range z found)) step n k s = absurd s.moves
reaps-natural r new (Some (answer.Granted z id ttl)) step n k s = absurd s.moves
reaps-natural r new (Some (answer.Alive z id ttl)) step n k s = absurd s.moves
