-- How a session that has lapsed is ended (Programmer's Guide, "Ephemeral Nodes": a session's nodes go when it ends): what a
-- reaper asks in each phase, and what it does at the answer.
use Rattle.std.specs.Prelude.{◌≡◌, ◌≤◌, ◌<◌, ◌⊎◌, ℤ, pos, nat_abs, ◌≤ℤ◌, int_lt, Bool, true, false, List, [], ◌∷◌, ◌++◌, map, length, Option, Some, None, if◌then◌else◌, MatchBool}
use Rattle.ev_types.specs.declared.answer.ActAns.{ActAns}
use Rattle.ev_types.specs.declared.answer.Answer.{Answer}
use Rattle.ev_types.specs.declared.answer.Answer.TheVariants as answer
use Rattle.ev_types.specs.declared.answer.Kv.{Kv}
use Rattle.ev_types.specs.declared.ask.Ask.{Ask}
use Rattle.ev_types.specs.declared.ask.Ask.TheVariants as ask
use Rattle.zk_model.specs.declared.request.Request.TheVariants as req
use Rattle.zk_model.specs.Limits.{max_owned}
use Rattle.zk_service.specs.States.{State, IsSound}
use Rattle.zx_base.specs.Maps.{Bytes}
use Rattle.zn_layout.specs.declared.record.SessionRec.{SessionRec}
use Rattle.zn_layout.specs.Keys.{SessionKey}
use Rattle.zn_view.specs.declared.want.Want.{Want}
use Rattle.zn_view.specs.Adding.{AreRecords, IsFirstDamaged}
use Rattle.zn_view.specs.Asks.{head_want, reading, transaction}
use Rattle.zn_view.specs.Lookups.{sees, IsNodesIn}
use Rattle.zn_view.specs.Needs.{AreNeeds, key_want}
use Rattle.zn_view.specs.Seen.{View, IsCountNumber}
use Rattle.zn_view.specs.Views.{IsOf}
use Rattle.zs_close.specs.declared.reap.Reaping.{Reaping}
use Rattle.zs_close.specs.declared.reap.Reaping.TheVariants.{Planned, Kept, Gone, TooMany}
use Rattle.zn_view.specs.Deciding.{IsTaken}
use Rattle.zs_close.specs.Reaping.{lives, IfReaped, IsReadyToReap, IsReap, IsReapDecision, IsReapPlan, whose}
use Rattle.zs_close.specs.Wanting.{own_keys}
use Rattle.zs_session.specs.declared.fault.StepFault.{StepFault}
use Rattle.zs_session.specs.declared.fault.StepFault.TheVariants.{Damaged, Memory}
use Rattle.zs_session.specs.Answering.{IsTxnAnswer, OfTxn, viewed}
use Rattle.zs_reap.specs.declared.reap.Phase.{Phase}
use Rattle.zs_reap.specs.declared.reap.Phase.TheVariants.{Unasked, Looking, Counting, Removing, Over}
use Rattle.zs_reap.specs.declared.reap.Reap.{Reap}
use Rattle.zs_reap.specs.declared.reap.ReapStep.{ReapStep}
use Rattle.zs_reap.specs.declared.reap.ReapStep.TheVariants as steps

-- ---- what is looked up

-- first the head, the record of the session's life, and the list of its nodes; a number below 1 is no session's, and the head alone
-- is looked up
abbrev pub reaper_wants : ℤ → List Want
reaper_wants id = if int_lt id (pos 1) then head_want ∷ [] else map key_want (own_keys id)

-- ---- what a reaper knows

-- the revision of the first look is one that an etcd can have, and only a number of at least 1 comes past that look
abbrev pub IsReaperPhase : ℤ → Phase → Type 0
IsReaperPhase id Unasked = Unit {0}
IsReaperPhase id Looking = Unit {0}
IsReaperPhase id (Counting revision wants) = (pos 1 ≤ℤ id) × IsCountNumber revision
IsReaperPhase id (Removing again) = pos 1 ≤ℤ id
IsReaperPhase id Over = Unit {0}

abbrev pub IsReaperHeld : Reap → Type 0
IsReaperHeld r = IsReaperPhase r.session r.phase

-- ---- the answers that it takes

-- a transaction was asked last
abbrev pub IsAsked : Phase → Type 0
IsAsked Unasked = ⊥
IsAsked Looking = Unit {0}
IsAsked (Counting revision wants) = Unit {0}
IsAsked (Removing again) = Unit {0}
IsAsked Over = ⊥

-- the answer of a transaction, with numbers in an etcd's range
abbrev pub IsOfTxn : Answer → Type 0
IsOfTxn (answer.Txn revision succeeded parts) = IsTxnAnswer revision parts
IsOfTxn _ = ⊥

-- the first step has no answer; each later one has one to the transaction that was asked last, and after the end there is no step
abbrev pub MayStepReaper : Reap → Option Answer → Type 0
MayStepReaper r None = r.phase ≡ Unasked
MayStepReaper r (Some a) = IsAsked r.phase × IsOfTxn a

-- ---- what a step answers

abbrev pub Asks : Phase → Ask → Phase → ReapStep → Type 0
Asks next q phase step = (phase ≡ next) × (step ≡ steps.Ask q)

abbrev pub ReaperEnds : ReapStep → Phase → ReapStep → Type 0
ReaperEnds end phase step = (phase ≡ Over) × (step ≡ end)

-- the first look, at the present
abbrev pub ReaperLooksFirst : ℤ → Phase → ReapStep → Type 0
ReaperLooksFirst id phase step = Asks Looking (reading (pos 0) (reaper_wants id)) phase step

-- the list of the session's nodes that a view saw, if it saw one, has no more than a session may own
abbrev pub AreFewOwned : ℤ → View → Type 0
AreFewOwned id v = (kv : Kv) (r : SessionRec) → sees v (SessionKey (nat_abs id)) ≡ Some (Some kv) → IsNodesIn kv r → length r.paths ≤ max_owned r.layout

-- by the decision: the transaction of its plan is asked, or the end is told at the view's revision; it is never `TooMany`
abbrev pub ReaperFollows : View → Reaping → Phase → ReapStep → Type 0
ReaperFollows v (Planned p) phase step = Asks (Removing p.again) (transaction p) phase step
ReaperFollows v Kept phase step = ReaperEnds (steps.Kept v.revision) phase step
ReaperFollows v Gone phase step = ReaperEnds (steps.Gone v.revision) phase step
ReaperFollows v TooMany phase step = ⊥

-- The view decides: it saw the record of the session's life, or it lacks nothing that the end of the session reads. The session is
-- kept exactly where that record is there, and gone exactly where neither it nor the list of the session's nodes is (`IsReap`). A
-- plan ends it with all its nodes, and where the view is of a sound state an etcd takes it.
pub record ReaperDecides (id : ℤ) (v : View) (phase : Phase) (step : ReapStep) : Type 0 where
  pub ready : IsReadyToReap id v
  pub reaping : Reaping
  pub seen : IsReap id v reaping
  pub worth : IsReapDecision id v reaping
  pub plan : IfReaped (IsReapPlan id v) reaping
  pub taken : IfReaped (λ p. (s : State) → IsSound s → IsOf v s → IsTaken p) reaping
  pub follows : ReaperFollows v reaping phase step

-- the view did not see the record of the session's life, and these are what it still lacks for the end of the session: there are
-- some
pub record LacksSome (id : ℤ) (v : View) (ws : List Want) : Type 0 where
  pub lapsed : lives id v ≡ false
  pub needs : AreNeeds req.Close (whose id) v ws
  pub some : ws ≡ [] → ⊥

-- what the view lacks, the counts of the nodes' parents, is read at the view's revision, after the keys of the first look
pub record IsReaperCounted (id : ℤ) (v : View) (phase : Phase) (step : ReapStep) : Type 0 where
  pub wants : List Want
  pub lacking : LacksSome id v wants
  pub asks : Asks (Counting v.revision (reaper_wants id ++ wants)) (reading v.revision (reaper_wants id ++ wants)) phase step

-- the session had other nodes since, and so the view lacks something: the session is looked at anew
pub record IsLookedAt (id : ℤ) (v : View) (phase : Phase) (step : ReapStep) : Type 0 where
  pub wants : List Want
  pub lacking : LacksSome id v wants
  pub asks : ReaperLooksFirst id phase step

-- ---- at each answer

-- all that was read under these keys is records, and the session's nodes are few
pub record IsReaperTested (id : ℤ) (ws : List Want) (revision : ℤ) (parts : List ActAns) : Type 0 where
  pub records : AreRecords ws parts
  pub few : AreFewOwned id (viewed revision ws parts)

-- after the first look: a number below 1 is gone; of another the view decides, or the counts are read
abbrev pub ReaperLooked : ℤ → List Want → ℤ → List ActAns → Phase → ReapStep → Type 0
ReaperLooked id ws revision parts phase step =
    MatchBool (int_lt id (pos 1)) (AreRecords ws parts × ReaperEnds (steps.Gone revision) phase step)
    (IsReaperTested id ws revision parts × (ReaperDecides id (viewed revision ws parts) phase step ⊎ IsReaperCounted id (viewed revision ws parts) phase step))

-- after a later look: the view decides, or the session is looked at anew
abbrev pub ReaperLookedAgain : ℤ → List Want → ℤ → List ActAns → Phase → ReapStep → Type 0
ReaperLookedAgain id ws revision parts phase step =
    IsReaperTested id ws revision parts × (ReaperDecides id (viewed revision ws parts) phase step ⊎ IsLookedAt id (viewed revision ws parts) phase step)

-- The answer of a transaction, by the phase. The counts were read at the revision of the first look; what is read again where a
-- guard fails is as it was at the answer's revision.
abbrev pub Answered : ℤ → Phase → ℤ → Bool → List ActAns → Phase → ReapStep → Type 0
Answered id Unasked revision succeeded parts phase step = ⊥
Answered id Looking revision succeeded parts phase step = ReaperLooked id (reaper_wants id) revision parts phase step
Answered id (Counting first wants) revision succeeded parts phase step = ReaperLookedAgain id wants first parts phase step
Answered id (Removing again) revision true parts phase step = ReaperEnds (steps.Reaped revision) phase step
Answered id (Removing again) revision false parts phase step = ReaperLookedAgain id again revision parts phase step
Answered id Over revision succeeded parts phase step = ⊥

abbrev pub ReaperMoves : Reap → Option Answer → Phase → ReapStep → Type 0
ReaperMoves r None phase step = ReaperLooksFirst r.session phase step
ReaperMoves r (Some a) phase step = OfTxn a (λ revision succeeded parts. Answered r.session r.phase revision succeeded parts phase step)

-- one step: from a reap, by an answer, to what the step says and to the next reap
pub record ReaperSteps (r : Reap) (a : Option Answer) (step : ReapStep) (new : Reap) : Type 0 where
  pub same : new.session ≡ r.session
  pub moves : ReaperMoves r a new.phase step

-- the ask is a transaction
abbrev pub IsTxn : Ask → Type 0
IsTxn (ask.Txn t) = Unit {0}
IsTxn _ = ⊥

-- what a reap waits for after a step: the answer of a transaction; after a step that asked nothing it is over
abbrev pub IsReaperWaiting : ReapStep → Phase → Type 0
IsReaperWaiting (steps.Ask q) phase = IsAsked phase × IsTxn q
IsReaperWaiting _ phase = phase ≡ Over

-- ---- what may be damaged

-- the list of the session's nodes that a view saw has more than a session may own: its key and value are given
pub record IsCrowded (id : ℤ) (v : View) (key value : Bytes) : Type 0 where
  pub kv : Kv
  pub listed : SessionRec
  pub saw : sees v (SessionKey (nat_abs id)) ≡ Some (Some kv)
  pub nodes : IsNodesIn kv listed
  pub many : max_owned listed.layout < length listed.paths
  pub key_is : key ≡ kv.key
  pub value_is : value ≡ kv.value

abbrev pub IsCrowdedFault : ℤ → View → StepFault → Type 0
IsCrowdedFault id v (Damaged key value) = IsCrowded id v key value
IsCrowdedFault id v Memory = Unit {0}

-- the first of what was read that is no record; or, where all are, the list of too many nodes; or memory was refused
abbrev pub IsReadFault : ℤ → List Want → ℤ → List ActAns → StepFault → Type 0
IsReadFault id ws revision parts (Damaged key value) = IsFirstDamaged ws parts key value ⊎ (AreRecords ws parts × IsCrowded id (viewed revision ws parts) key value)
IsReadFault id ws revision parts Memory = Unit {0}

abbrev pub IsMemory : StepFault → Type 0
IsMemory fault = fault ≡ Memory

-- the fault of a step at an answer, by the phase: of what the answer shows, if it shows something
abbrev pub IsFaultOfReaper : ℤ → Phase → ℤ → Bool → List ActAns → StepFault → Type 0
IsFaultOfReaper id Looking revision succeeded parts fault = IsReadFault id (reaper_wants id) revision parts fault
IsFaultOfReaper id (Counting first wants) revision succeeded parts fault = IsReadFault id wants first parts fault
IsFaultOfReaper id (Removing again) revision false parts fault = IsReadFault id again revision parts fault
IsFaultOfReaper id _ revision succeeded parts fault = IsMemory fault

abbrev pub IsReapFault : Reap → Option Answer → StepFault → Type 0
IsReapFault r None fault = IsMemory fault
IsReapFault r (Some (answer.Txn revision succeeded parts)) fault = IsFaultOfReaper r.session r.phase revision succeeded parts fault
IsReapFault r (Some _) fault = IsMemory fault
