-- How many asks of a connection are still to be carried out, while nobody else acts: in each stage, and after each answer.
use Rattle.std.proofs.Common.{◌≡◌, ℕ, ◌+◌, ◌≤◌, List, length, Bool, true, false, ℤ}
use Rattle.std.specs.Prelude.{◌⊎◌}
use Rattle.ev_types.specs.Store.{Store, present, revision, succeeds}
use Rattle.ev_types.specs.declared.answer.ActAns.{ActAns}
use Rattle.ev_types.specs.declared.answer.Answer.{Answer}
use Rattle.ev_types.specs.declared.answer.Answer.TheVariants as answer
use Rattle.zk_model.specs.declared.request.Request.{Request}
use Rattle.zn_view.specs.Asks.{plan_txn}
use Rattle.zn_view.specs.Seen.{View}
use Rattle.zn_view.specs.Views.{Agrees}
use Rattle.zn_view.specs.declared.plan.Plan.{Plan}
use Rattle.zn_view.specs.declared.plan.Who.{Who}
use Rattle.zn_view.specs.declared.want.Want.{Want}
use Rattle.zs_reap.specs.Steps.{AreFewOwned}
use Rattle.zs_session.specs.Answering.{viewed}
use Rattle.zs_session.specs.Connecting.{ConnectSteps}
use Rattle.zs_session.specs.Sessions.{attach_txn}
use Rattle.zs_session.specs.declared.connect.Connect.{Connect}
use Rattle.zs_session.specs.declared.connect.ConnectStep.{ConnectStep}
use Rattle.zs_session.specs.declared.connect.Phase.{Phase}
use Rattle.zs_session.specs.declared.connect.Phase.TheVariants.{Attaching, Creating, Granting, Keeping, Looking, LookingAgain, Over, Unasked}
use Rattle.zp_step.specs.Stages.{Core, Stage, Unconnected, Connecting, Ready, KeepingAlive, Checking, Reading, Committing, Waiting, Shut}
use Rattle.zp_laws.specs.Standing.{IsNoView}
use Rattle.zp_settle_laws.specs.Looks.{asks_of, asks_of_all, looks}
use Rattle.zp_settle_laws.proofs.Places.{Ends, IsFewFor, SawParent, view_on}
use Rattle.std.specs.Prelude.{Some}

-- ---- a request

-- the view is of the present
pub record IsNow (s : Store) (v : View) : Type 0 where
  pub same : v.revision ≡ revision s
  pub agrees : Agrees v (present s)

-- the view is of the present, or it will be, since it has no round yet
abbrev pub IsAskedNow : Store → View → Type 0
IsAskedNow s v = IsNoView v ⊎ IsNow s v

-- a plan on the present is carried out, and one on an earlier view may fail: then the request is looked up anew, and planned again
abbrev pub again_for : Bool → Request → ℕ
again_for true r = 0
again_for false r = looks r + 1

abbrev pub EndsIf : Request → Who → ℕ → View → Type 0
EndsIf r who n v = IsFewFor r who.session v → Ends r who n v

-- so many asks are enough: n on a view of the present, and on an earlier one also those of a request that is looked up anew
abbrev pub AreEnough : Type 0 → ℕ → Request → ℕ → Type 0
AreEnough Now n r k = (Now × (n ≤ k)) ⊎ (n + again_for false r ≤ k)

-- A round is out: after it come at most n more, and the plan; and there is an ask to spare until the parent of a sequence node was
-- looked up, since a guess may be of that parent's record.
pub record ReadsOut (s : Store) (who : Who) (r : Request) (v : View) (ws : List Want) (k : ℕ) : Type 0 where
  pub rounds : ℕ
  pub ends : (z : ℤ) (parts : List ActAns) → length ws ≤ length parts → EndsIf r who rounds (view_on v z ws parts)
  pub most : AreEnough (IsAskedNow s v) (rounds + 2) r k
  pub spare : SawParent r v ⊎ AreEnough (IsAskedNow s v) (rounds + 3) r k

-- the view is looked at
pub record LooksOn (s : Store) (who : Who) (r : Request) (v : View) (k : ℕ) : Type 0 where
  pub rounds : ℕ
  pub ends : EndsIf r who rounds v
  pub most : AreEnough (IsNow s v) (rounds + 1) r k
  pub spare : SawParent r v ⊎ AreEnough (IsNow s v) (rounds + 2) r k

-- Where a guard of the plan does not hold now, what is read again is all that the request reads, but for so much: so it is after a
-- guess, which was wrong then.
abbrev pub ReadsAll : Store → Who → Request → ℕ → Plan → Type 0
ReadsAll s who r n p = (z : ℤ) (parts : List ActAns) → length p.again ≤ length parts → Agrees (viewed z p.again parts) (present s) → Ends r who n (viewed z p.again parts) × SawParent r (viewed z p.again parts)

-- a plan is out
abbrev pub CommitsOut : Store → Who → Request → Plan → ℕ → Type 0
CommitsOut s who r p k = (1 + again_for (succeeds s (plan_txn p)) r ≤ k) ⊎ ((n : ℕ) × (n + 2 ≤ k) × ReadsAll s who r n p)

-- ---- a connect

-- an attachment on an earlier look may fail once
abbrev pub attach_again : Bool → ℕ
attach_again true = 0
attach_again false = 1

-- of the session of this number
abbrev pub ConnectOut : Store → ℤ → Phase → ℕ → Type 0
ConnectOut s id Unasked k = Unit {0}
ConnectOut s id Looking k = 4 ≤ k
ConnectOut s id Granting k = 2 ≤ k
ConnectOut s id Creating k = 1 ≤ k
ConnectOut s id (Keeping seen life) k = 3 ≤ k
ConnectOut s id LookingAgain k = 2 ≤ k
ConnectOut s id (Attaching seen life) k = 1 + attach_again (succeeds s (attach_txn id seen life)) ≤ k
ConnectOut s id Over k = Unit {0}

-- whatever the answer leads to
abbrev pub ConnectAfter : Store → Connect → Answer → ℕ → Type 0
ConnectAfter s x a k = (step : ConnectStep) (new : Connect) → ConnectSteps x (Some a) step new → ConnectOut s new.request.session new.phase k

-- ---- each stage: what it has out, and what it asks before it is ready

abbrev pub AsksOut : Store → Who → Stage → ℕ → Type 0
AsksOut s who (Unconnected fresh) k = Unit {0}
AsksOut s who (Connecting x) k = ConnectOut s x.request.session x.phase k
AsksOut s who Ready k = Unit {0}
AsksOut s who (KeepingAlive frame) k = asks_of frame ≤ k
AsksOut s who (Checking frame) k = asks_of frame ≤ k + 1
AsksOut s who (Reading xid r v ws) k = ReadsOut s who r v ws k
AsksOut s who (Committing xid r v p time) k = CommitsOut s who r p k
AsksOut s who (Waiting p) k = Unit {0}
AsksOut s who Shut k = Unit {0}

-- what was out was answered so
abbrev pub CommitAfter : Store → Who → Request → View → Bool → ℕ → Type 0
CommitAfter s who r v true k = Unit {0}
CommitAfter s who r v false k = LooksOn s who r v k

abbrev pub AsksAfter : Store → Who → Stage → Answer → ℕ → Type 0
AsksAfter s who (Connecting x) a k = ConnectAfter s x a k
AsksAfter s who (KeepingAlive frame) a k = asks_of frame ≤ k + 1
AsksAfter s who (Checking frame) a k = asks_of frame ≤ k + 2
AsksAfter s who (Reading xid r v ws) (answer.Txn z b parts) k = LooksOn s who r (view_on v z ws parts) k
AsksAfter s who (Committing xid r v p time) (answer.Txn z b parts) k = CommitAfter s who r (viewed z p.again parts) b k
AsksAfter s who _ a k = Unit {0}

-- ---- a connection between two steps

-- at most so many asks, those of the frames that wait with it
pub record Remains (s : Store) (c : Core) (n : ℕ) : Type 0 where
  pub asks : ℕ
  pub out : AsksOut s c.who c.stage asks
  pub most : asks + asks_of_all c.waiting ≤ n

-- after this answer at most so many asks, those of the frames that wait with it
pub record RemainsAfter (s : Store) (c : Core) (a : Answer) (n : ℕ) : Type 0 where
  pub asks : ℕ
  pub after : AsksAfter s c.who c.stage a asks
  pub most : asks + asks_of_all c.waiting ≤ n

-- what it holds is true of the store: a session has few nodes
abbrev pub TruthIn : Store → Who → Stage → Type 0
TruthIn s who (Reading xid r v ws) = AreFewOwned who.session v
TruthIn s who _ = Unit {0}

abbrev pub IsTruthful : Store → Core → Type 0
IsTruthful s c = TruthIn s c.who c.stage
