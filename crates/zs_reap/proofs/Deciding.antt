-- What a look leads to.
use Rattle.std.proofs.Common.{◌≡◌, ◌≤◌, ℤ, pos, Bool, true, false, length, List, [], ◌∷◌, Some, None, refl, sym, ap, ◌∙◌, subst, arith}
use Rattle.std.specs.Prelude.{◌≤ℤ◌, ◌⊎◌, int_lt, Result, Ok, Err, IfOk, MatchBool, nat_abs}
use Rattle.std.proofs.lemmas.Int.{ints}
use Rattle.ev_types.specs.declared.answer.ActAns.{ActAns}
use Rattle.ev_types.specs.declared.answer.Kv.{Kv}
use Rattle.zk_model.specs.declared.request.Request.TheVariants as req
use Rattle.zk_model.specs.Limits.{max_owned}
use Rattle.zk_model.specs.Watches.{no_watches}
use Rattle.zk_service.specs.Answers.{plain_request}
use Rattle.zk_service.specs.States.{State, IsSound}
use Rattle.zx_base.specs.declared.memory.Memory.{Memory as Refused}
use Rattle.zx_base.proofs.Options.{some_is}
use Rattle.zn_layout.specs.declared.record.SessionRec.{SessionRec}
use Rattle.zn_layout.specs.Keys.{SessionKey}
use Rattle.zn_layout.proofs.ListRecords.{session_value-injective}
use Rattle.zn_view.specs.declared.plan.Plan.{Plan}
use Rattle.zn_view.specs.declared.plan.Who.{Who}
use Rattle.zn_view.specs.declared.want.Want.{Want}
use Rattle.zn_view.specs.declared.want.Want.TheVariants as want
use Rattle.zn_view.specs.Adding.{AreRecords}
use Rattle.zn_view.specs.Asks.{transaction, with_part, with_parts}
use Rattle.zn_view.specs.Lookups.{sees, IsNodesIn}
use Rattle.zn_view.specs.Needs.{AreNeeds, IsWhole}
use Rattle.zn_view.specs.Seen.{View}
use Rattle.zn_view.specs.Views.{IsOf}
use Rattle.zs_close.specs.declared.reap.Reaping.{Reaping}
use Rattle.zs_close.specs.declared.reap.Reaping.TheVariants.{Planned}
use Rattle.zn_view.specs.Deciding.{IsTaken}
use Rattle.zs_close.specs.Reaping.{lives, IfReaped, IsReadyToReap, IsReap, IsReapDecision, IsReapPlan, whose}
use Rattle.zs_session.specs.Answering.{viewed}
use Rattle.zs_reap.specs.declared.moves.Move.{Move}
use Rattle.zs_reap.specs.declared.reap.Phase.{Phase}
use Rattle.zs_reap.specs.declared.reap.Phase.TheVariants.{Removing}
use Rattle.zs_reap.specs.declared.reap.ReapStep.{ReapStep}
use Rattle.zs_reap.specs.declared.reap.ReapStep.TheVariants as steps
use Rattle.zs_reap.specs.Steps.{AreFewOwned, Asks, ReaperDecides, ReaperEnds, ReaperFollows, IsReaperCounted, IsReaperPhase, IsLookedAt, IsReaperTested, LacksSome, ReaperLooked, ReaperLooksFirst}

-- ---- a view of which nothing is lacking

plain : plain_request no_watches req.Close ≡ None
unfolding plain_request
plain = refl

no_wants : (ws : List Want) → length ws ≡ 0 → ws ≡ []
no_wants [] e = refl
no_wants (w ∷ ws) e = absurd (omega (arith, e))

pub nothing-whole : (who : Who) (v : View) (ws : List Want) → AreNeeds req.Close who v ws → length ws ≡ 0 → IsWhole req.Close who v
nothing-whole who v ws needs none _ w reads lacks = needs.enough (no_wants ws none) plain w reads lacks

-- ---- a view of which something is lacking

-- the view saw no record of the session's life, since something is lacking
has_lapsed : (id : ℤ) (v : View) (ws : List Want) → (lives id v ≡ true → ws ≡ []) → (length ws ≡ 0 → ⊥) → lives id v ≡ false
has_lapsed id v ws kept some = go (lives id v) refl
  where
    go : (b : Bool) → lives id v ≡ b → b ≡ false
    go true e = absurd (some (ap (λ (l : List Want). length l) (kept e)))
    go false e = refl

pub lacks-some : (id : ℤ) (v : View) (ws : List Want) → (lives id v ≡ true → ws ≡ []) → (lives id v ≡ false → AreNeeds req.Close (whose id) v ws) → (length ws ≡ 0 → ⊥) → LacksSome id v ws
lacks-some id v ws kept needs some =
    let lapsed = has_lapsed id v ws kept some in
    record { lapsed = lapsed; needs = needs lapsed; some = λ e. some (ap (λ (l : List Want). length l) e) }

pub looked-at : (id r : ℤ) (ws : List Want) (parts : List ActAns) (v : View) (phase : Phase) (step : ReapStep) (lacking : List Want) → v ≡ viewed r ws parts
    → LacksSome id v lacking → ReaperLooksFirst id phase step → IsLookedAt id (viewed r ws parts) phase step
looked-at id r ws parts v phase step lacking is lacks asks =
    subst (λ (w : View). IsLookedAt id w phase step) is (record { wants = lacking; lacking = lacks; asks = asks })

-- ---- after the first look

not-below : (id : ℤ) → pos 1 ≤ℤ id → int_lt id (pos 1) ≡ false
not-below id real = go (int_lt id (pos 1)) refl
  where
    go : (b : Bool) → int_lt id (pos 1) ≡ b → b ≡ false
    go true e = absurd (grind (arith, ints, e, real))
    go false e = refl

pub looked-there : (id r : ℤ) (ws : List Want) (parts : List ActAns) (phase : Phase) (step : ReapStep) → pos 1 ≤ℤ id → IsReaperTested id ws r parts × (ReaperDecides id (viewed r ws parts) phase step ⊎ IsReaperCounted id (viewed r ws parts) phase step) → ReaperLooked id ws r parts phase step
looked-there id r ws parts phase step real h =
    subst (λ b. MatchBool b (AreRecords ws parts × ReaperEnds (steps.Gone r) phase step) (IsReaperTested id ws r parts × (ReaperDecides id (viewed r ws parts) phase step ⊎ IsReaperCounted id (viewed r ws parts) phase step))) (sym (not-below id real)) h

-- ---- a view saw one list of nodes

pub few-seen : (id : ℤ) (v : View) (kv : Kv) (r : SessionRec) → sees v (SessionKey (nat_abs id)) ≡ Some (Some kv) → IsNodesIn kv r → length r.paths ≤ max_owned r.layout → AreFewOwned id v
few-seen id v kv r saw nodes few other q also are =
    let one : other ≡ kv = some_is (some_is (sym also ∙ saw)) in
    let same : q ≡ r = session_value-injective q r are.0 nodes.0 (sym are.1 ∙ ap (λ (x : Kv). x.value) one ∙ nodes.1) in
    subst (λ (k : SessionRec). length k.paths ≤ max_owned k.layout) (sym same) few

-- ---- a plan is asked

abbrev AsksPlan : Plan → Move → Type 0
AsksPlan p m = Asks (Removing p.again) (transaction p) m.phase m.step

pub planned-decides : (id : ℤ) (v : View) (r : Reaping) (p : Plan) → r ≡ Planned p → (result : Result Move Refused) → IsReadyToReap id v → IsReap id v r → IsReapDecision id v r → IfReaped (IsReapPlan id v) r
    → IfReaped (λ q. (s : State) → IsSound s → IsOf v s → IsTaken q) r → IfOk result (AsksPlan p) → IfOk result (λ m. ReaperDecides id v m.phase m.step)
planned-decides id v r p is (Err e) ready seen worth plan taken asks = tt
planned-decides id v r p is (Ok m) ready seen worth plan taken asks = record {
  ready = ready;
  reaping = r;
  seen = seen;
  worth = worth;
  plan = plan;
  taken = taken;
  follows = subst (λ (x : Reaping). ReaperFollows v x m.phase m.step) (sym is) asks;
}

pub planned-held : (id : ℤ) → pos 1 ≤ℤ id → (p : Plan) (result : Result Move Refused) → IfOk result (AsksPlan p) → IfOk result (λ m. IsReaperPhase id m.phase)
planned-held id real p (Err e) asks = tt
planned-held id real p (Ok m) asks = subst (IsReaperPhase id) (sym asks.0) real

-- ---- the revision of a view

parts-revision : (v : View) (ws : List Want) (parts : List ActAns) → (with_parts v ws parts).revision ≡ v.revision
parts-revision v [] parts = refl
parts-revision v (w ∷ ws) [] = refl
parts-revision v (want.Key k ∷ ws) (a ∷ more) = parts-revision (with_part v (want.Key k) a) ws more
parts-revision v (want.Children p ∷ ws) (a ∷ more) = parts-revision (with_part v (want.Children p) a) ws more
