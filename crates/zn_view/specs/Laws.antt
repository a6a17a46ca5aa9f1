-- What the laws of views say.
use Rattle.std.specs.Prelude.{◌≡◌, ℤ, pos, nat_abs, ◌+ℤ◌, true, List, Option, Some, None, ℕ, ◌≤◌, ◌≤ℤ◌, ◌<ℤ◌, Bool, false, length, All, Contains, IsTrue}
use Rattle.std.specs.FinMap.{get}
use Rattle.std.specs.List.{list_all}
use Rattle.std.specs.Ordering.{int_eq}
use Rattle.ev_types.specs.declared.answer.ActAns.{ActAns}
use Rattle.ev_types.specs.declared.answer.Kv.{Kv}
use Rattle.ev_types.specs.Ranges.{Keys}
use Rattle.ev_types.specs.Store.{Store, acts_applied, holds, present, revision, last_revision, store_at}
use Rattle.zk_service.specs.States.{Session, State, IsSound, limit_of, session_at}
use Rattle.zn_layout.specs.Keys.{HeadKey, LeaseKey, key_bytes}
use Rattle.ev_types.specs.declared.answer.Answer.TheVariants as answer
use Rattle.ev_types.specs.Denials.{carry}
use Rattle.ev_types.specs.declared.ask.Act.{Act}
use Rattle.ev_types.specs.declared.ask.Guard.{Guard}
use Rattle.zk_model.specs.declared.node.Trigger.{Trigger}
use Rattle.zk_model.specs.declared.reply.Reply.{Reply}
use Rattle.zk_model.specs.declared.request.Request.{Request}
use Rattle.zk_model.specs.Paths.{is_path}
use Rattle.zk_model.specs.Watches.{no_watches}
use Rattle.zk_model.specs.Znodes.{children}
use Rattle.zk_service.specs.Answers.{Told, plain_request, tree_reply}
use Rattle.zx_base.specs.Maps.{Bytes}
use Rattle.zn_layout.specs.Changes.{KeyChange, last, update_acts}
use Rattle.zn_layout.specs.Records.{IsHeadRec}
use Rattle.zn_layout.specs.Listing.{HasValidPaths}
use Rattle.zn_layout.specs.StandsFor.{StandsFor}
use Rattle.zn_view.specs.declared.plan.Plan.{Plan}
use Rattle.zn_view.specs.declared.plan.Who.{Who}
use Rattle.zn_view.specs.declared.want.Want.{Want}
use Rattle.zn_view.specs.Asks.{kept_under, last_part, with_parts, again_of, guards_of, narrowed, picked, reading, transaction, IsAskedPlan, ShowsHead}
use Rattle.zn_view.specs.Seen.{View, seen, empty_view, head_number, head_of, head_zxid, listed}
use Rattle.zn_view.specs.Views.{Agrees, AreAsSeen, IsByTree, IsDecision, IsMade, IsPlan, IsUnchanged, MayCommit, WasPut, live}
use Rattle.zn_view.specs.declared.plan.Decision.{Decision}
use Rattle.zn_view.specs.declared.plan.Decision.TheVariants.{Answered, Expired, Moved}
use Rattle.zn_view.specs.declared.snapshot.SeenKey.{SeenKey}
use Rattle.zn_view.specs.Keeping.{AreGuardedAsSeen, IsAfter, IsNew, PutsNewKeys, after_view, guarded_seen}
use Rattle.zn_view.specs.Needs.{IsLacking}

-- nothing changed, and the view with the parts agrees with the keys
pub record IsShown (s new : Store) (v : View) (ws : List Want) (parts : List ActAns) (m : Keys) : Type 0 where
  pub same : new ≡ s
  pub agrees : Agrees (with_parts v ws parts) m

-- the guards held, the answer's revision is the new store's, the keys are those after the plan's operations, and the last part
-- shows the head
pub record IsCarriedOut (s new : Store) (p : Plan) (r : ℤ) (parts : List ActAns) : Type 0 where
  pub holds : list_all (holds (present s)) p.guards ≡ true
  pub revision_is : r ≡ revision new
  pub keys : present new ≡ acts_applied (revision s +ℤ pos 1) (present s) p.success
  pub head : kept_under (key_bytes HeadKey) (last_part parts) ≡ get (present new) (key_bytes HeadKey)

-- ---- a session by the record of its life

-- it is live exactly where the record is there, and attached at the record's revision
abbrev pub LivesAs : Option Kv → Option Session → Type 0
LivesAs None o = o ≡ None
LivesAs (Some kv) o = (x : Session) × (o ≡ Some x) × (x.attached ≡ kv.mod_revision)

-- what a view saw of the life of its session
abbrev pub life_seen : View → Who → Option (Option Kv)
life_seen v who = seen v (key_bytes (LeaseKey (nat_abs who.session)))

-- ---- rounds and plans that are answered

-- After its first round a view agrees with the present keys. A reading changes nothing.
abbrev pub FirstRoundAgrees : Type 0
FirstRoundAgrees = (s new : Store) (ws : List Want) (r : ℤ) (b : Bool) (parts : List ActAns)
    → carry s (reading (pos 0) ws) ≡ Some (new, answer.Txn r b parts)
    → (r ≡ revision new) × IsShown s new (record empty_view { revision = r }) ws parts (present s)

-- After each further round a view agrees with the keys of its first round's revision. A reading changes nothing.
abbrev pub LaterRoundAgrees : Type 0
LaterRoundAgrees = (s new : Store) (v : View) (n : ℕ) (ws : List Want) (r : ℤ) (b : Bool) (parts : List ActAns) → v.revision ≡ pos n
    → 1 ≤ n → Agrees v (store_at s n) → carry s (reading v.revision ws) ≡ Some (new, answer.Txn r b parts)
    → IsShown s new v ws parts (store_at s n)

-- a plan of which a guard does not hold changes nothing, and shows the present
abbrev pub FailedPlanIsAnswered : Type 0
FailedPlanIsAnswered = (s new : Store) (p : Plan) (r : ℤ) (parts : List ActAns)
    → carry s (transaction p) ≡ Some (new, answer.Txn r false parts)
    → (r ≡ revision new) × IsShown s new (record empty_view { revision = r }) p.again parts (present s)

-- a plan whose guards hold makes its changes at the next revision, and shows the head that it left
abbrev pub PlanIsCarriedOut : Type 0
PlanIsCarriedOut = (s new : Store) (p : Plan) (r : ℤ) (parts : List ActAns) → ShowsHead p.success
    → carry s (transaction p) ≡ Some (new, answer.Txn r true parts) → IsCarriedOut s new p r parts

-- ---- what a view shows

-- a view that takes further parts sees what it saw before
abbrev pub SeenStaysSeen : Type 0
SeenStaysSeen = (v : View) (ws : List Want) (parts : List ActAns) (k : Bytes) (o : Option Kv) → seen v k ≡ Some o
    → seen (with_parts v ws parts) k ≡ Some o

-- a view that takes further parts lists what it listed before
abbrev pub ListedStaysListed : Type 0
ListedStaysListed = (v : View) (ws : List Want) (parts : List ActAns) (p : Bytes) (ps : List Bytes) → listed v p ≡ Some ps
    → listed (with_parts v ws parts) p ≡ Some ps

-- a view that takes a part for each want lacks nothing that was wanted
abbrev pub WhatWasWantedIsSeen : Type 0
WhatWasWantedIsSeen = (v : View) (ws : List Want) (parts : List ActAns) (w : Want) → length ws ≤ length parts → Contains ws w
    → IsLacking (with_parts v ws parts) w → ⊥

-- what a view lists of a node are the paths of its children in the state that the view is of, in the order of their bytes, where
-- the tree has valid paths alone
abbrev pub ChildrenAreListed : Type 0
ChildrenAreListed = (v : View) (m : Keys) (s : State) (p : Bytes) (ps : List Bytes) → StandsFor m s → IsSound s → HasValidPaths s.tree
    → IsTrue (is_path p) → Agrees v m → listed v p ≡ Some ps → ps ≡ children s.tree p

-- the head that a view saw tells the zxid and the number of the last update of the state that the view is of
abbrev pub TheLastUpdateIsTold : Type 0
TheLastUpdateIsTold = (v : View) (m : Keys) (s : State) → StandsFor m s → Agrees v m → (seen v (key_bytes HeadKey) ≡ None → ⊥)
    → (head_zxid (head_of v) ≡ s.zxid) × (head_number (head_of v) ≡ pos s.updates)

-- ---- what a plan guards

-- each key that a view saw has what was seen, in keys that the view agrees with
abbrev pub AgreedKeysAreAsSeen : Type 0
AgreedKeysAreAsSeen = (v : View) (m : Keys) → Agrees v m → AreAsSeen v m

-- each key that a view saw, but for the head, has what was seen, in keys in which a plan that guards all of them may commit
abbrev pub GuardedKeysAreAsSeen : Type 0
GuardedKeysAreAsSeen = (p : Plan) (v : View) (m : Keys) → p.guards ≡ guards_of v.keys → MayCommit p v m → AreAsSeen v m

-- the guards of a plan on all that a view saw hold wherever no key that the view saw has changed, but for the head
abbrev pub GuardsHoldUnchanged : Type 0
GuardsHoldUnchanged = (p : Plan) (v : View) (m : Keys) → p.guards ≡ guards_of v.keys → IsUnchanged v m → list_all (holds m) p.guards ≡ true

-- a view with some of its keys alone shows these as the whole view does
abbrev pub SomeKeysAreShown : Type 0
SomeKeysAreShown = (v : View) (ks : List Bytes) (k : Bytes) → Contains ks k → seen (narrowed v ks) k ≡ seen v k

-- a view with some of its keys alone agrees with all that the whole view agrees with
abbrev pub SomeKeysAgree : Type 0
SomeKeysAgree = (v : View) (ks : List Bytes) (m : Keys) → Agrees v m → Agrees (narrowed v ks) m

-- a plan that guards some keys of a view alone is worth on the whole view what it is worth on them
abbrev pub SomeKeysAreEnough : Type 0
SomeKeysAreEnough = (r : Request) (who : Who) (now : ℕ) (v : View) (ks : List Bytes) (p : Plan) (finish : ℤ → Reply)
    → p.guards ≡ guards_of (picked v ks) → IsPlan r who now (narrowed v ks) p finish → IsPlan r who now v p finish

-- in keys that the view agrees with, each key that a plan guards has what was found
abbrev pub GuardedKeysWereFound : Type 0
GuardedKeysWereFound = (who : Who) (v : View) (p : Plan) (m : Keys) → (asked : IsAskedPlan who v p) → Agrees v m
    → All (λ (x : SeenKey). get m x.key ≡ x.found) asked.keys

-- ---- plans

-- a plan that guards all that its view saw carries its update out where its changes are those of the update in each sound state
-- whose keys have what the view saw
abbrev pub APlanCommits : Type 0
APlanCommits = (r : Request) (who : Who) (now : ℕ) (v : View) (p : Plan) (finish : ℤ → Reply) (cs : List KeyChange)
    → p.guards ≡ guards_of v.keys → p.success ≡ update_acts cs p.triggers → IsHeadRec p.triggers → last cs HeadKey ≡ None
    → ((m : Keys) (s : State) (z : ℤ) → IsSound s → StandsFor m s → AreAsSeen v m → s.zxid <ℤ z → z ≤ℤ last_revision
    → IsMade r who now finish cs p.triggers s z) → IsPlan r who now v p finish

-- a plan that guards all that its view saw, reads it again, and has an update's operations may be asked of an etcd where the view
-- saw that the session is attached here
abbrev pub PlanMayBeAsked : Type 0
PlanMayBeAsked = (who : Who) (v : View) (p : Plan) (cs : List KeyChange) (ts : List Trigger) (kv : Kv) → p.guards ≡ guards_of v.keys
    → p.again ≡ again_of v.keys → p.success ≡ update_acts cs ts → life_seen v who ≡ Some (Some kv) → kv.mod_revision ≡ who.mine
    → IsAskedPlan who v p

-- what a view of a state saw was put at revision 1 or later
abbrev pub SeenKeysWerePut : Type 0
SeenKeysWerePut = (v : View) (m : Keys) (s : State) → StandsFor m s → Agrees v m → All WasPut v.keys

-- ---- decisions

-- the form of a request decides before the session
abbrev pub FormDecidesFirst : Type 0
FormDecidesFirst = (r : Request) (who : Who) (v : View) (t : Told) → plain_request no_watches r ≡ Some t
    → IsDecision r who v (Answered t.reply None)

-- a session has expired where the record of its life is not there
abbrev pub SessionHasExpired : Type 0
SessionHasExpired = (r : Request) (who : Who) (v : View) → pos 1 ≤ℤ who.session → plain_request no_watches r ≡ None
    → life_seen v who ≡ Some None → IsDecision r who v Expired

-- a session has moved where the record of its life was put at another revision than `who.mine`
abbrev pub SessionHasMoved : Type 0
SessionHasMoved = (r : Request) (who : Who) (v : View) (kv : Kv) → pos 1 ≤ℤ who.session → plain_request no_watches r ≡ None
    → life_seen v who ≡ Some (Some kv) → int_eq kv.mod_revision who.mine ≡ false → IsDecision r who v (Moved kv.mod_revision)

-- the tree decides where neither the form nor the session does
abbrev pub TreeDecidesLast : Type 0
TreeDecidesLast = (r : Request) (who : Who) (v : View) (d : Decision) (kv : Kv) → pos 1 ≤ℤ who.session → plain_request no_watches r ≡ None
    → life_seen v who ≡ Some (Some kv) → int_eq kv.mod_revision who.mine ≡ true
    → ((m : Keys) (s : State) (x : Session) → IsSound s → HasValidPaths s.tree → StandsFor m s → Agrees v m
    → live (session_at who.session s) ≡ Some x
    → IsByTree r d (tree_reply s.tree (limit_of x) who.session no_watches r)) → IsDecision r who v d

-- ---- what an update leaves of a view

-- what the operations of an update leave of a view is the view after them
abbrev pub UpdateLeavesAView : Type 0
UpdateLeavesAView = (v : View) (guards : List Guard) (acts : List Act) (z : ℤ) (head : Kv) (x : View)
    → IsAfter v guards acts z head (Some x) → x ≡ after_view v guards acts z head

-- the view after an update's operations agrees with the keys that they leave, where the guarded keys had what the view saw and
-- each key that is put and not guarded was absent, but for the head
abbrev pub ViewAfterAgrees : Type 0
ViewAfterAgrees = (v : View) (guards : List Guard) (acts : List Act) (z : ℤ) (head : Kv) (m : Keys) → AreGuardedAsSeen v guards m
    → All (IsNew (guarded_seen v guards) m) acts → get (acts_applied z m acts) (key_bytes HeadKey) ≡ Some head
    → Agrees (after_view v guards acts z head) (acts_applied z m acts)

-- what a plan leaves of its view, carried out where it may commit, agrees with the keys that it leaves
abbrev pub ViewAfterAPlanAgrees : Type 0
ViewAfterAPlanAgrees = (v : View) (p : Plan) (ks : List Bytes) (m : Keys) (s : State) (z : ℤ) (head : Kv)
    → p.guards ≡ guards_of (picked v ks) → PutsNewKeys v p → IsSound s → StandsFor m s → MayCommit p v m
    → get (acts_applied z m p.success) (key_bytes HeadKey) ≡ Some head
    → Agrees (after_view v p.guards p.success z head) (acts_applied z m p.success)
