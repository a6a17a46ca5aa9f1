-- What an attached connection holds is true of the store: its session has few nodes. And a plan on the present would be carried out.
use Rattle.std.proofs.Common.{◌≡◌, ℕ, List, [], ◌∷◌, refl, sym, ap, ◌∙◌, Bool, true, false, ℤ, pos, inl, inr}
use Rattle.std.specs.Prelude.{All, Option, ◌≤ℤ◌, if◌then◌else◌, nat_abs}
use Rattle.std.specs.FinMap.{get}
use Rattle.std.specs.List.{list_all}
use Rattle.std.proofs.lemmas.Bool.{and_from}
use Rattle.std.proofs.lemmas.Bool.Decides.{Decides-int_eq}
use Rattle.std.proofs.lemmas.List.Elements.{All-head, All-tail}
use Rattle.ev_types.specs.Ranges.{Keys}
use Rattle.ev_types.specs.Store.{Store, holds, mod_of, present, store_at, succeeds}
use Rattle.ev_types.specs.declared.ask.Guard.{Guard}
use Rattle.zk_service.specs.States.{IsSound, State}
use Rattle.zk_transcript.specs.History.{state_at}
use Rattle.zk_transcript.specs.declared.transcript.TranscriptLine.{TranscriptLine}
use Rattle.zn_layout.specs.Keys.{HeadKey, SessionKey, key_bytes}
use Rattle.zn_layout.specs.StandsFor.{StandsFor}
use Rattle.zn_view.proofs.Narrowing.{asked-found}
use Rattle.zn_view.specs.Asks.{IsAskedPlan, guards_of, plan_txn}
use Rattle.zn_view.specs.Seen.{View, seen_in}
use Rattle.zn_view.specs.Views.{Agrees}
use Rattle.zn_view.specs.declared.plan.Plan.{Plan}
use Rattle.zn_view.specs.declared.plan.Who.{Who}
use Rattle.zn_view.specs.declared.snapshot.SeenKey.{SeenKey}
use Rattle.zs_close.proofs.EndPlans.{agrees-for, nodes-few}
use Rattle.zs_reap.specs.Steps.{AreFewOwned}
use Rattle.zx_base.proofs.Options.{none_some}
use Rattle.zx_base.specs.Maps.{same}
use Rattle.zp_laws.proofs.Attached.{moored}
use Rattle.zp_laws.proofs.Deciding.{attached-then}
use Rattle.zp_laws.specs.Standing.{IsNoView, Knows}
use Rattle.zp_step.specs.Stages.{Core, Stage, Unconnected, Connecting, Ready, KeepingAlive, Checking, Reading, Committing, Waiting, Shut}
use Rattle.zp_script.specs.declared.flight.Flight.{Flight}
use Rattle.zp_world_laws.specs.Connections.{IsServingConn}
use Rattle.zp_world_laws.specs.Serving.{StoreServes}
use Rattle.zp_settle_laws.proofs.Coming.{IsTruthful, TruthIn}

-- ---- a session's nodes

pub few-of : (v : View) (id : ℤ) (m : Keys) (s : State) → pos 1 ≤ℤ id → IsSound s → StandsFor m s → Agrees v m → AreFewOwned id v
few-of v id m s real sound stands agrees = λ kv r saw nodes. nodes-few v id real m s stands r.paths (agrees-for v id r.paths m agrees) r refl kv saw nodes sound

unseen-few : (v : View) (id : ℤ) → IsNoView v → AreFewOwned id v
unseen-few v id none = λ kv r saw nodes. absurd (none_some (sym (ap (seen_in (key_bytes (SessionKey (nat_abs id)))) none.1) ∙ saw))

-- ---- guards

abbrev FoundIn : Keys → SeenKey → Type 0
FoundIn m x = get m x.key ≡ x.found

-- guards on what was found hold
pub found-holds : (m : Keys) (xs : List SeenKey) → All (FoundIn m) xs → list_all (holds m) (guards_of xs) ≡ true
found-holds m [] all = refl
found-holds m (x ∷ xs) all = go (same x.key (key_bytes HeadKey)) (found-holds m xs (All-tail (FoundIn m) x xs all))
  where
    g : Guard
    g = record { key = x.key; mod_revision = mod_of x.found }

    go : (b : Bool) → list_all (holds m) (guards_of xs) ≡ true → list_all (holds m) (if b then guards_of xs else g ∷ guards_of xs) ≡ true
    go true rest = rest
    go false rest = and_from (holds m g) (list_all (holds m) (guards_of xs)) ((Decides-int_eq (mod_of (get m x.key)) (mod_of x.found)).1 (ap mod_of (All-head (FoundIn m) x xs all))) rest

-- a plan on a view of the present would be carried out
pub planned-now : (s : Store) (who : Who) (v : View) (p : Plan) → IsAskedPlan who v p → Agrees v (present s) → succeeds s (plan_txn p) ≡ true
planned-now s who v p asked agrees = ap (list_all (holds (present s))) asked.guards ∙ found-holds (present s) asked.keys (asked-found who v p (present s) asked agrees)

-- ---- an attached connection

module _ (s : Store) (lines : List TranscriptLine) (c : ℕ) (core : Core) (flight : Option Flight) (serves : StoreServes s lines) (k : IsServingConn s lines c core flight) where
  truth-in : (st : Stage) → Knows s lines c core k.walker k.looked st → TruthIn s core.who st
  truth-in (Reading xid r v ws) (tree, inl none) = unseen-few v core.who.session none
  truth-in (Reading xid r v ws) (tree, inr view) =
      few-of v core.who.session (store_at s view.number) (state_at lines k.looked) k.least (moored lines c core.who k.looked (attached-then lines c core k.walker k.looked serves.legal k.least (k.stands).matches view.moment)).sound view.stands view.agrees
  truth-in (Committing xid r v p time) h = tt
  truth-in (Unconnected fresh) h = tt
  truth-in (Connecting x) h = tt
  truth-in Ready h = tt
  truth-in (KeepingAlive f) h = tt
  truth-in (Checking f) h = tt
  truth-in (Waiting p) h = tt
  truth-in Shut h = tt

  pub serving-true : IsTruthful s core
  serving-true = truth-in core.stage (k.stands).knows
