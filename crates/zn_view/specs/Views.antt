-- Which views are of which states; what each request looks up; and what a decision and a plan are worth.
use Rattle.std.specs.Prelude.{◌≡◌, ℕ, ℤ, pos, nat_abs, ◌≤ℤ◌, ◌<ℤ◌, Bool, true, false, List, [], ◌∷◌, ◌++◌, map, filter, drop, Option, Some, None, All, IfSome, IsTrue, is_some, if◌then◌else◌, MatchBool}
use Rattle.std.specs.FinMap.{get, keys, retain_keys}
use Rattle.std.specs.List.{list_all, flat_map}
use Rattle.std.specs.Ordering.{int_eq}
use Rattle.ev_types.specs.declared.answer.Kv.{Kv}
use Rattle.ev_types.specs.declared.ask.Guard.{Guard}
use Rattle.ev_types.specs.Ranges.{Keys, is_within}
use Rattle.ev_types.specs.Sizes.{IsSendable}
use Rattle.ev_types.specs.Store.{holds, acts_applied, last_revision}
use Rattle.zk_model.specs.declared.node.Trigger.{Trigger}
use Rattle.zk_model.specs.declared.reply.Body.TheVariants as body
use Rattle.zk_model.specs.declared.reply.Reply.{Reply}
use Rattle.zk_model.specs.declared.reply.Reply.TheVariants as reply
use Rattle.zk_model.specs.declared.request.Part.{Part}
use Rattle.zk_model.specs.declared.request.Part.TheVariants as part
use Rattle.zk_model.specs.declared.request.Request.{Request}
use Rattle.zk_model.specs.declared.request.Request.TheVariants as req
use Rattle.zk_model.specs.Paths.{is_path, parent}
use Rattle.zk_model.specs.Single.{form_refusal, is_ephemeral, is_sequential, named}
use Rattle.zk_model.specs.Watches.{Watches, no_watches, arm_data, arm_children}
use Rattle.zk_service.specs.Answers.{Told, owned_limit_in, plain_request, tree_reply}
use Rattle.zk_service.specs.States.{State, Session, Commit, IsSound, commit, committed, limit_of, session_at, session_ended}
use Rattle.zx_base.specs.Maps.{Bytes}
use Rattle.zn_layout.specs.Changes.{KeyChange}
use Rattle.zn_layout.specs.Fits.{ChangesFit}
use Rattle.zn_layout.specs.Keys.{Key, HeadKey, DataKey, CountsKey, SessionKey, key_bytes}
use Rattle.zn_layout.specs.Listing.{HasValidPaths}
use Rattle.zn_layout.specs.StandsFor.{StandsFor}
use Rattle.zn_view.specs.declared.plan.Arm.{Arm}
use Rattle.zn_view.specs.declared.plan.Decision.{Decision}
use Rattle.zn_view.specs.declared.plan.Decision.TheVariants.{Answered, Planned, Expired, Moved}
use Rattle.zn_view.specs.declared.plan.Plan.{Plan}
use Rattle.zn_view.specs.declared.plan.Who.{Who}
use Rattle.zn_view.specs.declared.snapshot.SeenKey.{SeenKey}
use Rattle.zn_view.specs.declared.snapshot.SeenChildren.{SeenChildren}
use Rattle.zn_view.specs.Asks.{children_start, children_until, plan_txn}
use Rattle.zn_view.specs.Seen.{View, seen}

-- ---- a view of a state

-- the paths of the data keys in the range of a node's children, in the order of their bytes
unfoldable pub children_kept : Keys → Bytes → List Bytes
children_kept m p = map (drop 9) (keys (retain_keys m (is_within (children_start p) (children_until p))))

-- what the view saw under each key, and listed of each node's children, is so in these keys
pub record Agrees (v : View) (m : Keys) : Type 0 where
  pub keys : All (λ (x : SeenKey). get m x.key ≡ x.found) v.keys
  pub lists : All (λ (x : SeenChildren). x.paths ≡ children_kept m x.path) v.lists

-- a view is of a state: it agrees with keys that stand for it
abbrev pub IsOf : View → State → Type 0
IsOf v s = (m : Keys) × StandsFor m s × Agrees v m

-- each key that the view saw, but for the head, has what was seen
abbrev pub AreAsSeen : View → Keys → Type 0
AreAsSeen v m = (k : Bytes) (o : Option Kv) → (k ≡ key_bytes HeadKey → ⊥) → seen v k ≡ Some o → get m k ≡ o

-- what each entry of the view says of a key, but for the head, is so in these keys
abbrev pub IsUnchanged : View → Keys → Type 0
IsUnchanged v m = All (λ (x : SeenKey). (x.key ≡ key_bytes HeadKey → ⊥) → get m x.key ≡ x.found) v.keys

-- ---- what each request looks up, beside the head and the record of the session's life

abbrev pub about_path : Bytes → List Key
about_path p = DataKey p ∷ CountsKey p ∷ []

abbrev pub about_parent : Option Bytes → List Key
about_parent None = []
about_parent (Some q) = about_path q

abbrev pub counts_of_parent : Option Bytes → List Key
counts_of_parent None = []
counts_of_parent (Some q) = CountsKey q ∷ []

abbrev pub own_nodes : ℤ → ℤ → List Key
own_nodes flags id = if is_ephemeral flags then SessionKey (nat_abs id) ∷ [] else []

-- a sequential create's own key follows from its parent's counts
abbrev pub own_data : ℤ → Bytes → List Key
own_data flags p = if is_sequential flags then [] else DataKey p ∷ []

-- a path that isn't valid has no keys
abbrev pub valid : List Bytes → List Bytes
valid ps = filter is_path ps

-- the keys that follow from a part of a multi: those that it would read as a request of its own
abbrev pub part_keys : ℤ → Part → List Key
part_keys id (part.Create p d a f) = about_parent (parent (named f p)) ++ own_data f p ++ own_nodes f id
part_keys id (part.Delete p v) = about_path p ++ counts_of_parent (parent p)
part_keys id (part.SetData p d v) = about_path p
part_keys id (part.Check p v) = DataKey p ∷ []

-- a part whose form is refused reads nothing
abbrev pub part_reads : ℤ → Part → List Key
part_reads id p = if is_some (form_refusal p) then [] else part_keys id p

-- The keys that follow from the request alone; a multi reads what its parts read.
unfoldable pub reads : Request → ℤ → List Key
reads (req.Create p d a f) id = about_parent (parent (named f p)) ++ own_data f p ++ own_nodes f id
reads (req.Create2 p d a f) id = about_parent (parent (named f p)) ++ own_data f p ++ own_nodes f id
reads (req.Delete p v) id = about_path p ++ counts_of_parent (parent p)
reads (req.SetData p d v) id = about_path p
reads (req.Exists p w) id = about_path p
reads (req.GetData p w) id = about_path p
reads (req.GetAcl p) id = about_path p
reads (req.GetChildren p w) id = about_path p
reads (req.GetChildren2 p w) id = about_path p
reads (req.Check p v) id = DataKey p ∷ []
reads (req.SetWatches since exists datas children) id = map DataKey (valid datas) ++ map DataKey (valid exists) ++ flat_map about_path (valid children)
reads req.Close id = SessionKey (nat_abs id) ∷ []
reads (req.Sync p) id = []
reads req.Ping id = []
reads (req.Auth kind scheme auth) id = []
reads (req.CheckWatches p kind) id = []
reads (req.RemoveWatches p kind) id = []
reads (req.Multi parts) id = flat_map (part_reads id) parts

-- ---- what a decision is worth

abbrev pub armed_by : Option Arm → Watches → Watches
armed_by None w = w
armed_by (Some a) w = if a.child then arm_children w a.path else arm_data w a.path

abbrev pub rearms : Request → Bool
rearms (req.SetWatches since exists datas children) = true
rearms _ = false

-- the decision is to answer with this reply and to arm what it arms. A setWatches may arm much, and its decision arms nothing
abbrev pub IsToldBy : Request → Told → Decision → Type 0
IsToldBy r t d = (arm : Option Arm) × (d ≡ Answered t.reply arm) × (rearms r ≡ false → t.watches ≡ armed_by arm no_watches) × (rearms r ≡ true → arm ≡ None)

abbrev pub IsPlanned : Decision → Type 0
IsPlanned d = (p : Plan) × (d ≡ Planned p)

-- by the tree: a reply, or a plan where the request is an update that isn't refused
abbrev pub IsByTree : Request → Decision → Option Told → Type 0
IsByTree r d (Some t) = IsToldBy r t d
IsByTree r d None = IsPlanned d

-- an open session that hasn't lapsed
abbrev pub live : Option Session → Option Session
live None = None
live (Some x) = if x.lapsed then None else Some x

-- the session is tested before the tree
abbrev pub IsBySession : State → Who → Request → Decision → Option Session → Type 0
IsBySession s who r d None = d ≡ Expired
IsBySession s who r d (Some x) =
    MatchBool (int_eq x.attached who.mine) (IsByTree r d (tree_reply s.tree (limit_of x) who.session no_watches r)) (d ≡ Moved x.attached)

-- the request's form is tested before the session
abbrev pub IsByForm : State → Who → Request → Decision → Option Told → Type 0
IsByForm s who r d (Some t) = d ≡ Answered t.reply None
IsByForm s who r d None = IsBySession s who r d (live (session_at who.session s))

-- a decision on a view is the service's in each sound state with valid paths that the view is of. Were the paths not valid, the
-- four digits of a depth would not tell a node's children apart from deeper nodes
abbrev pub IsDecision : Request → Who → View → Decision → Type 0
IsDecision r who v d = (s : State) → IsSound s → HasValidPaths s.tree → IsOf v s → IsByForm s who r d (plain_request no_watches r)

-- ---- what a plan is worth

-- what was found was put at revision 1 or later
abbrev pub WasPut : SeenKey → Type 0
WasPut x = IfSome x.found (λ kv. pos 1 ≤ℤ kv.mod_revision)

-- the guards hold in these keys, each guarded key that is there is as the view saw it, and all that the view saw was put at
-- revision 1 or later
pub record MayCommit (p : Plan) (v : View) (m : Keys) : Type 0 where
  pub holds : IsTrue (list_all (holds m) p.guards)
  pub same : All (λ (g : Guard). (kv : Kv) → get m g.key ≡ Some kv → seen v g.key ≡ Some (Some kv)) p.guards
  pub put : All WasPut v.keys

-- how many nodes a session may own
abbrev pub limit_at : ℤ → State → ℕ
limit_at id s = owned_limit_in (session_at id s)

-- what an update of a session does at a zxid and a time in milliseconds, and what it answers
abbrev pub done_by : State → ℤ → ℤ → Request → ℕ → Option Commit
done_by s z session req.Close now = Some (record { response = body.Empty; tree = (session_ended s z session).tree; triggers = (session_ended s z session).triggers })
done_by s z session r now = commit s.tree (limit_at session s) session r z now

-- the state after it
abbrev pub state_after : State → ℤ → ℤ → Request → ℕ → State
state_after s z session req.Close now = session_ended s z session
state_after s z session r now = committed s z (commit s.tree (limit_at session s) session r z now)

-- the update is done, shows these triggers and earns this reply
pub record IsDone (s : State) (z session : ℤ) (r : Request) (now : ℕ) (ts : List Trigger) (answer : Reply) : Type 0 where
  pub made : Commit
  pub commits : done_by s z session r now ≡ Some made
  pub triggers : ts ≡ made.triggers
  pub answers : answer ≡ reply.Good made.response

-- Carried out at a later zxid, where it may commit, the plan makes of keys that stand for a sound state keys that stand for the
-- state after the update. Its triggers are the update's, and so is the reply that `finish` gives for the zxid.
pub record IsPlan (r : Request) (who : Who) (now : ℕ) (v : View) (p : Plan) (finish : ℤ → Reply) : Type 0 where
  pub carries : (m : Keys) (s : State) (z : ℤ) → IsSound s → StandsFor m s → MayCommit p v m → s.zxid <ℤ z → z ≤ℤ last_revision
      → StandsFor (acts_applied z m p.success) (state_after s z who.session r now)
  pub answers : (m : Keys) (s : State) (z : ℤ) → IsSound s → StandsFor m s → MayCommit p v m → s.zxid <ℤ z → z ≤ℤ last_revision
      → IsDone s z who.session r now p.triggers (finish z)

-- the plan is within what one transaction of an etcd may have
abbrev pub IsSmallPlan : Plan → Type 0
IsSmallPlan p = IsSendable (plan_txn p)

-- ---- what is to be shown of a request that is an update

-- the update is done, and the changes of keys lead from the state to the one after it
pub record IsMade (r : Request) (who : Who) (now : ℕ) (finish : ℤ → Reply) (cs : List KeyChange) (ts : List Trigger) (s : State) (z : ℤ) : Type 0 where
  pub is_done : IsDone s z who.session r now ts (finish z)
  pub fits : ChangesFit z cs s (state_after s z who.session r now)
