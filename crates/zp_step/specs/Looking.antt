-- What is asked and decided on a view. A request asks in rounds, all at one revision, for what is still lacking; when nothing
-- is, it is decided. Where a sequence node's create lacks the record of its node alone, it is planned as if that were absent.
use Rattle.std.specs.Prelude.{◌≡◌, ◌≢◌, ℕ, ℤ, ◌⊎◌, Bool, true, false, List, [], ◌∷◌, take, Option, Some, None}
use Rattle.ev_types.specs.declared.answer.ActAns.{ActAns}
use Rattle.zk_model.specs.Codes.{session_expired, session_moved}
use Rattle.zk_model.specs.Single.{is_sequential}
use Rattle.zk_model.specs.Watches.{no_watches}
use Rattle.zk_model.specs.declared.reply.Reply.{Reply}
use Rattle.zk_model.specs.declared.reply.Reply.TheVariants as reply
use Rattle.zk_model.specs.declared.request.Request.{Request}
use Rattle.zk_model.specs.declared.request.Request.TheVariants as req
use Rattle.zk_service.specs.Answers.{plain_request}
use Rattle.zk_service.specs.declared.cause.Cause.{Cause}
use Rattle.zk_service.specs.declared.cause.Cause.TheVariants as cause
use Rattle.zx_base.specs.Maps.{Bytes, same}
use Rattle.zn_reads.specs.SeenPaths.{seen_paths}
use Rattle.zn_layout.specs.Keys.{data_front}
use Rattle.zn_view.specs.Adding.{AreRecords, IsFirstDamaged, is_new}
use Rattle.zn_view.specs.Asks.{reading, transaction}
use Rattle.zn_view.specs.Deciding.{IfPlanned, IsGood, IsTaken, IsTested}
use Rattle.zn_view.specs.Laying.{with_laid}
use Rattle.zn_view.specs.Needs.{AreNeeds}
use Rattle.zn_view.specs.Seen.{View, head_of, head_number, head_zxid}
use Rattle.zn_view.specs.Views.{IsDecision, IsPlanned}
use Rattle.zn_view.specs.declared.plan.Arm.{Arm}
use Rattle.zn_view.specs.declared.plan.Decision.{Decision}
use Rattle.zn_view.specs.declared.plan.Decision.TheVariants.{Answered, Planned, Expired, Moved}
use Rattle.zn_view.specs.declared.plan.Plan.{Plan}
use Rattle.zn_view.specs.declared.plan.Who.{Who}
use Rattle.zn_view.specs.declared.want.Want.{Want}
use Rattle.zn_view.specs.declared.want.Want.TheVariants as want
use Rattle.zp_step.specs.declared.action.Action.{Action}
use Rattle.zp_step.specs.declared.action.Action.TheVariants as action
use Rattle.zp_step.specs.Stages.{Core, Pending, Reading, Committing, WatchChange, AddsWatch, SetsWatches}
use Rattle.zp_step.specs.Kept.{keeps}
use Rattle.zn_view.specs.Keeping.{IsKeepable}
use Rattle.zp_step.specs.Replies.{Is, closed_by, waits}

-- a request that only the tree answers
abbrev pub IsForTree : Request → Type 0
IsForTree r = plain_request no_watches r ≡ None

-- ---- what an answer shows

-- the first value found under one of these keys that is no record ends the connection
pub record EndsDamaged (c : Core) (ws : List Want) (parts : List ActAns) (c' : Core) (out : List Action) : Type 0 where
  pub key : Bytes
  pub value : Bytes
  pub found : IsFirstDamaged ws parts key value
  pub is : Is (closed_by c (cause.Damaged key value)) c' out

-- either a value that was found is no record, and the connection ends; or all are records, and `Next` holds
abbrev pub IfRecords : Core → List Want → List ActAns → Core → List Action → Type 0 → Type 0
IfRecords c ws parts c' out Next = EndsDamaged c ws parts c' out ⊎ (AreRecords ws parts × Next)

-- ---- a reply by a view

-- its zxid and number are those of the head at the view's revision
abbrev pub pending : View → ℤ → Reply → WatchChange → Option Cause → Pending
pending v xid r change ends = record { number = head_number (head_of v); zxid = head_zxid (head_of v); xid = xid; answer = r; change = change; ends = ends }

-- the session is closed or has lapsed, as of the view
abbrev pub expired : View → ℤ → Pending
expired v xid = pending v xid (reply.Refused session_expired) (AddsWatch None) (Some (cause.Expired v.revision))

-- the session was attached to another connection, by the update with zxid `found`
abbrev pub moved : Who → View → ℤ → ℤ → Pending
moved who v found xid = pending v xid (reply.Refused session_moved) (AddsWatch None) (Some (cause.Moved who.mine found))

-- a setWatches arms by what was seen at its paths; any other request arms at most the watch that it asks for
abbrev pub change_by : Request → View → Option Arm → WatchChange
change_by (req.SetWatches since exists datas children) v arm = SetsWatches since (seen_paths v datas exists children)
change_by _ v arm = AddsWatch arm

-- ---- the next ask, or the decision

-- the most ranges in one ask that reads
abbrev pub max_ranges : ℕ
max_ranges = 100

abbrev pub asks_for : Core → ℤ → Request → View → List Want → Core × List Action
asks_for c xid r v ws = (record c { stage = Reading xid r v ws }, action.Ask (reading v.revision ws) ∷ [])

abbrev pub decided : Core → ℤ → Request → View → ℕ → Decision → Core × List Action
decided c xid r v now (Answered answer arm) = waits c (pending v xid answer (change_by r v arm) None)
decided c xid r v now (Planned p) = (record c { stage = Committing xid r v p now }, action.Ask (transaction p) ∷ [])
decided c xid r v now Expired = waits c (expired v xid)
decided c xid r v now (Moved found) = waits c (moved c.who v found xid)

-- a plan is a good one, and what it leaves of the view may be kept; of any other decision nothing is required
abbrev pub IsBacked : Request → Who → ℕ → View → Decision → Type 0
IsBacked r who now v d = IfPlanned (λ p. IsGood r who now v p × IsKeepable r v p) d

-- ---- a view that gives no plan

-- something is lacking in it
pub record IsPoor (r : Request) (who : Who) (v : View) : Type 0 where
  pub lacking : List Want
  pub needs : AreNeeds r who v lacking
  pub some : lacking ≢ []

-- the decision on it is no plan
pub record IsNoPlan (r : Request) (who : Who) (v : View) : Type 0 where
  pub decision : Decision
  pub whole : AreNeeds r who v []
  pub tested : IsTested r who v decision
  pub right : IsDecision r who v decision
  pub unplanned : IsPlanned decision → ⊥

abbrev pub PassesOver : Request → Who → View → Type 0
PassesOver r who v = IsPoor r who v ⊎ IsNoPlan r who v

-- ---- a guess that a node is absent

-- it is the key of a node's record
abbrev pub is_node_key : Bytes → Bool
is_node_key key = same (take 5 key) data_front

-- a create or create2 of a sequence node; a multi is none, whatever its parts are
abbrev pub makes_sequence : Request → Bool
makes_sequence (req.Create p d a f) = is_sequential f
makes_sequence (req.Create2 p d a f) = is_sequential f
makes_sequence _ = false

-- The record of a node may be guessed absent where it is all that a sequence node's create lacks: no round is asked for it alone,
-- since nobody has made a node of the next number, but by its name.
pub record MayGuess (r : Request) (v : View) (key : Bytes) : Type 0 where
  pub sequence : makes_sequence r ≡ true
  pub begun : is_new v ≡ false
  pub record_of_node : is_node_key key ≡ true

-- the view with a key that is guessed absent; a create looks up no lists
abbrev pub guessed : View → Bytes → View
guessed v key = with_laid (record v { lists = [] }) (record { key = key; found = None })

-- ---- what a view leads to

-- something is still lacking, and is asked for, at most `max_ranges` of it at once; a guess of it gives no plan
pub record AsksOn (c : Core) (xid : ℤ) (r : Request) (v : View) (c' : Core) (out : List Action) : Type 0 where
  pub lacking : List Want
  pub needs : AreNeeds r c.who v lacking
  pub some : lacking ≢ []
  pub unguessed : (key : Bytes) → lacking ≡ want.Key key ∷ [] → MayGuess r v key → PassesOver r c.who (guessed v key)
  pub is : Is (asks_for c xid r v (take max_ranges lacking)) c' out

-- One record alone is lacking, and the decision on the view with the guess that it is absent is a plan, which is asked. Its guards
-- say that the record is absent, and where they don't hold it is read. An etcd takes the plan, though the view may be of no state. On
-- a guess nothing is answered.
pub record PlansOnGuess (c : Core) (xid : ℤ) (r : Request) (v : View) (now : ℕ) (c' : Core) (out : List Action) : Type 0 where
  pub key : Bytes
  pub needs : AreNeeds r c.who v (want.Key key ∷ [])
  pub may : MayGuess r v key
  pub plan : Plan
  pub whole : AreNeeds r c.who (guessed v key) []
  pub tested : IsTested r c.who (guessed v key) (Planned plan)
  pub right : IsDecision r c.who (guessed v key) (Planned plan)
  pub backed : IsBacked r c.who now (guessed v key) (Planned plan)
  pub taken : IsTaken plan
  pub is : Is (decided c xid r (guessed v key) now (Planned plan)) c' out

-- nothing is lacking: the view is kept, and the decision is the service's in each sound state that the view is of
pub record Decides (c : Core) (xid : ℤ) (r : Request) (v : View) (now : ℕ) (c' : Core) (out : List Action) : Type 0 where
  pub decision : Decision
  pub whole : AreNeeds r c.who v []
  pub tested : IsTested r c.who v decision
  pub right : IsDecision r c.who v decision
  pub backed : IsBacked r c.who now v decision
  pub is : Is (decided (keeps c r v) xid r v now decision) c' out

abbrev pub Looks : Core → ℤ → Request → View → ℕ → Core → List Action → Type 0
Looks c xid r v now c' out = AsksOn c xid r v c' out ⊎ PlansOnGuess c xid r v now c' out ⊎ Decides c xid r v now c' out
