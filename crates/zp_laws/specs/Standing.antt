-- What is true of an attached core between two steps: it stands at a walker of its connection, and what its stage holds is
-- true of the store and of the transcript.
use Rattle.std.specs.Prelude.{◌≡◌, ℕ, pos, ◌+◌, ◌≤◌, ◌<◌, ◌⊎◌, Bool, true, false, not, ◌||◌, List, [], length, take, Some, None, is_some, All, slice_get}
use Rattle.std.specs.FinMap.{get}
use Rattle.std.specs.List.{list_all}
use Rattle.std.specs.Ordering.{int_eq}
use Rattle.ev_types.specs.Ranges.{Keys}
use Rattle.ev_types.specs.Store.{Store, store_at}
use Rattle.zk_jute.specs.Requests.{read_request}
use Rattle.zk_model.specs.Watches.{Watches}
use Rattle.zk_model.specs.declared.request.Request.{Request}
use Rattle.zk_service.specs.Answers.{xid_of}
use Rattle.zk_transcript.specs.History.{state_at}
use Rattle.zk_transcript.specs.Legal.{attach_of, index_shown, is_below_place}
use Rattle.zk_transcript.specs.Walks.{Walker, after_update, is_not_overtaken, own_update, placed_frame, told_as_of}
use Rattle.zk_transcript.specs.declared.transcript.TranscriptLine.{TranscriptLine}
use Rattle.zk_transcript.specs.declared.transcript.TranscriptLine.TheVariants.{Update}
use Rattle.zk_service.specs.declared.update.UpdateRec.{UpdateRec}
use Rattle.zx_base.specs.Maps.{Bytes}
use Rattle.zn_layout.specs.StandsFor.{StandsFor}
use Rattle.zn_view.specs.Deciding.{IsGood, IsTaken}
use Rattle.zn_view.specs.Seen.{View}
use Rattle.zn_view.specs.Views.{Agrees, WasPut}
use Rattle.zn_view.specs.declared.plan.Plan.{Plan}
use Rattle.zn_view.specs.declared.plan.Who.{Who}
use Rattle.zn_view.specs.declared.snapshot.SeenKey.{SeenKey}
use Rattle.zp_step.specs.Looking.{IsForTree, is_node_key, makes_sequence}
use Rattle.zp_step.specs.Replies.{is_due}
use Rattle.zn_view.specs.Keeping.{IsKeepable}
use Rattle.zp_step.specs.Stages.{Core, KeptViews, Pending, Stage, Unconnected, Connecting, Ready, Checking, Reading, Committing, Waiting, seen_by, waits_from}
use Rattle.zp_laws.specs.Frames.{AreFrames, IsAtWork, IsFrameAt}

-- ---- a moment as of which the next request of a walk may be answered

-- It is within the lines, not before the moment of the last reply, and after the last update told and the line of the
-- attachment. It may be before the line of the frame that is answered: such a reply is lawful, but it is not fresh.
pub record IsMoment (lines : List TranscriptLine) (conn : ℕ) (who : Who) (w : Walker) (looked : ℕ) : Type 0 where
  pub past : looked ≤ length lines
  pub later : w.moment ≤ looked
  pub told : w.since ≤ looked
  pub place : ℕ
  pub attached : attach_of conn lines ≡ Some (place, record { zxid = who.mine; session = who.session })
  pub since : place < looked

-- ---- fresh moments

-- the moment is past the line of frame i, if that frame has come
abbrev pub IsPastFrame : List TranscriptLine → ℕ → ℕ → ℕ → Type 0
IsPastFrame lines conn i looked = (place : ℕ) (bytes : List ℕ) → placed_frame conn i lines ≡ Some (place, bytes) → place < looked

-- Whether something was seen for the frame at work: the stage holds a view of it, or its reply, or the ask that is out in the
-- stage shows the tree and is `answered`.
abbrev pub has_looked : Bool → Stage → Bool
has_looked answered (Checking bytes) = answered
has_looked answered (Reading xid r v ws) = answered || not (int_eq v.revision (pos 0))
has_looked answered (Committing xid r v p time) = answered
has_looked answered (Waiting p) = true
has_looked answered _ = false

-- what was seen for the frame at work, if anything was, was seen after its line
abbrev pub IsFreshLook : List TranscriptLine → ℕ → Bool → Core → ℕ → Type 0
IsFreshLook lines conn answered c looked = has_looked answered c.stage ≡ true → IsPastFrame lines conn c.next looked

-- ---- what a stage holds

-- nothing was seen yet
abbrev pub IsNoView : View → Type 0
IsNoView v = (v.revision ≡ pos 0) × (v.keys ≡ []) × (v.lists ≡ [])

-- the view is of a revision whose keys stand for the state at this moment
pub record IsViewAt (store : Store) (lines : List TranscriptLine) (conn : ℕ) (who : Who) (w : Walker) (v : View) (looked : ℕ) : Type 0 where
  pub number : ℕ
  pub revision : v.revision ≡ pos number
  pub begun : 1 ≤ number
  pub known : number ≤ length store.revisions
  pub agrees : Agrees v (store_at store number)
  pub stands : StandsFor (store_at store number) (state_at lines looked)
  pub moment : IsMoment lines conn who w looked

-- the view is of a revision of the store, whenever it was read
pub record IsViewOf (store : Store) (v : View) : Type 0 where
  pub number : ℕ
  pub revision : v.revision ≡ pos number
  pub known : number ≤ length store.revisions
  pub agrees : Agrees v (store_at store number)
  pub put : All WasPut v.keys

-- each view that is kept is of a revision of the store
abbrev pub AreViewsOf : Store → KeptViews → Type 0
AreViewsOf store xs = All (λ (x : Bytes × View). IsViewOf store x.1) xs

-- What the view says of each key is so in these keys, but of one, a node's record, it says that it is absent: so it was guessed for
-- the create of a sequence node. An etcd takes the plan, though the view may be of no state.
pub record IsGuessOf (request : Request) (v : View) (p : Plan) (m : Keys) : Type 0 where
  pub sequence : makes_sequence request ≡ true
  pub key : Bytes
  pub record_of_node : is_node_key key ≡ true
  pub keys : All (λ (x : SeenKey). (get m x.key ≡ x.found) ⊎ ((x.key ≡ key) × (x.found ≡ None))) v.keys
  pub taken : IsTaken p

-- the view that a plan was made on agrees with these keys, or holds a guess
abbrev pub IsMadeOf : Request → View → Plan → Keys → Type 0
IsMadeOf request v p m = Agrees v m ⊎ IsGuessOf request v p m

-- the plan is a good one, made on a view of a revision of the store
pub record IsBoundPlan (store : Store) (who : Who) (request : Request) (v : View) (p : Plan) (time : ℕ) : Type 0 where
  pub number : ℕ
  pub revision : v.revision ≡ pos number
  pub known : number ≤ length store.revisions
  pub made_of : IsMadeOf request v p (store_at store number)
  pub put : All WasPut v.keys
  pub good : IsGood request who time v p
  pub keepable : IsKeepable request v p

-- a reply that waits is the service's as of the moment, whatever is armed
pub record IsReply (lines : List TranscriptLine) (conn : ℕ) (who : Who) (w : Walker) (p : Pending) (looked : ℕ) : Type 0 where
  pub moment : IsMoment lines conn who w looked
  pub bytes : List ℕ
  pub frame : IsFrameAt lines conn w.next bytes
  pub xid : xid_of (read_request bytes) ≡ p.xid
  pub zxid : (state_at lines looked).zxid ≡ p.zxid
  pub number : pos (state_at lines looked).updates ≡ p.number
  pub told : (ws : Watches) → told_as_of (take looked lines) conn who.session (read_request bytes) ws (own_update conn w.next lines)
      ≡ Some (is_some p.ends, record { reply = p.answer; notices = (seen_by p.change ws).notices; watches = (seen_by p.change ws).watches })

-- neither request i nor a later one was carried out
abbrev pub is_ahead : List TranscriptLine → ℕ → ℕ → Bool
is_ahead lines conn i = list_all (λ l. is_below_place i (index_shown conn l)) lines

abbrev pub Knows : Store → List TranscriptLine → ℕ → Core → Walker → ℕ → Stage → Type 0
Knows store lines conn c w looked (Reading xid r v ws) = IsForTree r × (IsNoView v ⊎ IsViewAt store lines conn c.who w v looked)
Knows store lines conn c w looked (Committing xid r v p time) = IsForTree r × IsBoundPlan store c.who r v p time
Knows store lines conn c w looked (Waiting p) = IsReply lines conn c.who w p looked × (is_due c p ≡ false)
Knows store lines conn c w looked (Unconnected fresh) = ⊥
Knows store lines conn c w looked (Connecting connect) = ⊥
Knows store lines conn c w looked Ready = is_ahead lines conn c.next ≡ true
Knows store lines conn c w looked _ = Unit {0}

-- ---- the core and its walker

-- the zxid and the cursor are those of one update
pub record IsAt (lines : List TranscriptLine) (c : Core) : Type 0 where
  pub line : ℕ
  pub update : UpdateRec
  pub shown : slice_get lines line ≡ Some (Update update)
  pub zxid : c.zxid ≡ update.zxid
  pub cursor : c.cursor ≡ pos (state_at lines (line + 1)).updates

-- the walker has come as far as the core
pub record Matches (lines : List TranscriptLine) (c : Core) (w : Walker) : Type 0 where
  pub zxid : w.zxid ≡ c.zxid
  pub since : w.since ≡ after_update c.zxid lines
  pub watches : w.watches ≡ c.watches
  pub next : w.next ≡ c.next
  pub over : w.over ≡ false
  pub at : IsAt lines c

-- an open, attached core; `looked` is the moment of what its stage holds
pub record Stands (store : Store) (lines : List TranscriptLine) (conn : ℕ) (c : Core) (w : Walker) (looked : ℕ) : Type 0 where
  pub matches : Matches lines c w
  pub work : IsAtWork lines conn c.next c.stage
  pub waiting : AreFrames lines conn (waits_from c.stage c.next) c.waiting
  -- no request after the next one was carried out
  pub turn : is_not_overtaken lines conn c.next ≡ true
  pub views : AreViewsOf store c.views
  pub knows : Knows store lines conn c w looked c.stage

-- of a closed core nothing is said
abbrev pub StandsOpen : Bool → Store → List TranscriptLine → ℕ → Core → Walker → ℕ → Type 0
StandsOpen true store lines conn c w looked = Stands store lines conn c w looked
StandsOpen false store lines conn c w looked = Unit {0}
