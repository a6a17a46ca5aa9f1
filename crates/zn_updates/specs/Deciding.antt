-- What a decision on an update is worth, and the plan that a choice makes.
use Rattle.std.specs.Prelude.{◌≡◌, ℕ, ℤ, nat_abs, pos, map, Bool, true, List, [], if◌then◌else◌, Option, Some, None}
use Rattle.ev_types.specs.declared.answer.Kv.{Kv}
use Rattle.zk_model.specs.declared.reply.PartResult.{PartResult}
use Rattle.zk_model.specs.declared.reply.Reply.TheVariants as reply
use Rattle.zk_model.specs.declared.request.Request.{Request}
use Rattle.zk_model.specs.declared.request.Request.TheVariants as req
use Rattle.zk_model.specs.declared.node.Trigger.{Trigger}
use Rattle.zk_model.specs.Watches.{no_watches}
use Rattle.zk_service.specs.Answers.{plain_request, tree_reply}
use Rattle.zk_service.specs.States.{State, Session, IsSound, limit_of, response_of, session_at}
use Rattle.zn_layout.specs.declared.record.SessionRec.{SessionRec}
use Rattle.zn_layout.specs.Changes.{KeyChange, update_acts}
use Rattle.zn_layout.specs.Keys.{Key, DataKey, CountsKey, SessionKey, LeaseKey, key_bytes}
use Rattle.zn_view.specs.declared.plan.Decision.{Decision}
use Rattle.zn_view.specs.declared.plan.Decision.TheVariants.{Answered, Planned}
use Rattle.zn_view.specs.declared.plan.Plan.{Plan}
use Rattle.zn_view.specs.declared.plan.Who.{Who}
use Rattle.zn_view.specs.Asks.{again_of, guards_of, narrowed, IsAskedPlan, WritesOnce}
use Rattle.zn_view.specs.Deciding.{IsTaken}
use Rattle.zn_view.specs.Keeping.{IsKeepable}
use Rattle.zn_view.specs.Needs.{GuardsReads, finished}
use Rattle.zn_view.specs.Seen.{View, seen}
use Rattle.zn_view.specs.Views.{IsByTree, IsOf, IsPlan}
use Rattle.zn_view.specs.Lookups.{HasSeen, sees}
use Rattle.zk_model.specs.Codes.{no_node, node_exists}
use Rattle.zk_model.specs.Paths.{sequence_path}
use Rattle.zx_base.specs.Maps.{Bytes}
use Rattle.zn_updates.specs.declared.chosen.Chosen.{Chosen}
use Rattle.zn_updates.specs.declared.chosen.Chosen.TheVariants.{Refused, Made}
use Rattle.zn_updates.specs.declared.seen.SeenData.{SeenData}
use Rattle.zn_updates.specs.declared.seen.SeenCounts.{SeenCounts}
use Rattle.zn_updates.specs.Choices.{Choice, Refuse, Make, set_data_choice, delete_choice, create_choice}
use Rattle.zn_updates.specs.KeysRead.{set_data_keys, delete_keys, create_keys}
use Rattle.zn_updates.specs.Making.{IsDataSeen, IsCountsSeen, IsNodesSeen, has_found}

-- the view saw the record of the session's life, last put at the revision at which this connection was attached
abbrev pub IsAttached : Who → View → Type 0
IsAttached who v = (kv : Kv) × (seen v (key_bytes (LeaseKey (nat_abs who.session))) ≡ Some (Some kv)) × (kv.mod_revision ≡ who.mine)

-- ---- the decision of a choice, on the view of the keys that the request looks up

-- the view with these keys alone
abbrev pub on_keys : View → List Key → View
on_keys v ks = narrowed v (map key_bytes ks)

-- the plan of an update: it guards what this view saw, but for the head, and reads it again where a guard fails
abbrev pub plan_of : View → List KeyChange → List Trigger → PartResult → Plan
plan_of v cs ts draft = record {
  guards = guards_of v.keys;
  success = update_acts cs ts;
  again = again_of v.keys;
  draft = reply.Good (response_of draft);
  triggers = ts;
}

abbrev pub decision_of : View → Choice → Decision
decision_of v (Refuse code) = Answered (reply.Refused code) None
decision_of v (Make cs ts draft) = Planned (plan_of v cs ts draft)

-- ---- what it is worth

-- A request that its form does not decide is decided by the tree, in each sound state that the view is of and in which the session
-- is open.
abbrev pub IsBySound : Request → Who → View → Decision → Type 0
IsBySound r who v d = plain_request no_watches r ≡ None → (s : State) → IsSound s → IsOf v s → (x : Session) → session_at who.session s ≡ Some x
    → IsByTree r d (tree_reply s.tree (limit_of x) who.session no_watches r)

-- where the plan of an update is small: of a create on any view, of any other update on a view of a sound state
abbrev pub IsBounded : Request → View → Type 0
IsBounded (req.Create p d a f) v = Unit {0}
IsBounded (req.Create2 p d a f) v = Unit {0}
IsBounded r v = (s : State) × IsSound s × IsOf v s

-- Where the connection is attached, the plan carries the update out and may be asked. Attached or not, it guards what the request
-- reads and writes each key once; an etcd takes it, of a create on any view and of any other update on a view of a sound state; and
-- what it leaves of the view may be kept for the next request of its path.
pub record IsGuarded (r : Request) (who : Who) (now : ℕ) (v : View) (p : Plan) : Type 0 where
  pub commits : IsAttached who v → IsPlan r who now v p (λ z. finished z p.draft) × IsAskedPlan who v p
  pub reads : GuardsReads r who v p
  pub writes : WritesOnce p
  pub taken : IsBounded r v → IsTaken p
  pub keepable : IsKeepable r v p

-- an etcd takes the plan of a create, whatever view it was made on; of other updates nothing is said
abbrev pub IsTakenIfCreate : Request → Plan → Type 0
IsTakenIfCreate (req.Create p d a f) plan = IsTaken plan
IsTakenIfCreate (req.Create2 p d a f) plan = IsTaken plan
IsTakenIfCreate _ plan = Unit {0}

-- ---- what the code chose on

-- this holds of what watches see, if it is an update
abbrev pub IfMakes : (List Trigger → Type 0) → Choice → Type 0
IfMakes P (Refuse code) = Unit {0}
IfMakes P (Make cs ts draft) = P ts

abbrev pub IfMade : (List Trigger → Type 0) → Chosen → Type 0
IfMade P (Refused code) = Unit {0}
IfMade P (Made u) = P u.triggers

-- the decision of a setData's choice on the records that the view saw
abbrev pub IsSetData : View → Bytes → Bytes → ℤ → ℕ → ℤ → Decision → Type 0
IsSetData v p content version now session d =
    (x : Option SeenData) × (c : Option SeenCounts) × IsDataSeen (sees v (DataKey p)) x × IsCountsSeen x (sees v (CountsKey p)) c
    × (d ≡ decision_of (on_keys v (set_data_keys p session)) (set_data_choice p content version now x c))

-- where the node has an owner, the list of the owner's nodes was looked up
abbrev pub IsOwnerLookedUp : View → Option SeenData → Type 0
IsOwnerLookedUp v None = Unit {0}
IsOwnerLookedUp v (Some x) = (x.owner ≡ pos 0 → ⊥) → HasSeen v (SessionKey (nat_abs x.owner))

-- where the node has an owner, this is the record of the owner's nodes as the view saw it
abbrev pub AreOwnerNodes : View → Option SeenData → Option SessionRec → Type 0
AreOwnerNodes v None nodes = Unit {0}
AreOwnerNodes v (Some x) nodes = (x.owner ≡ pos 0 → ⊥) → IsNodesSeen (sees v (SessionKey (nat_abs x.owner))) nodes

-- the node's record as the view saw it, none where it was not looked up
abbrev pub IsDataFound : Option (Option Kv) → Option SeenData → Type 0
IsDataFound None x = x ≡ None
IsDataFound (Some o) x = IsDataSeen (Some o) x

-- the owner of a node, 0 where it has none or is not there
abbrev pub owner_seen : Option SeenData → ℤ
owner_seen None = pos 0
owner_seen (Some x) = x.owner

-- the decision of a delete: of p below q, or of a path without a parent, at which there is no node but the root
abbrev pub IsDelete : View → Bytes → ℤ → ℤ → Option Bytes → Decision → Type 0
IsDelete v p version session None d = d ≡ decision_of v (Refuse no_node)
IsDelete v p version session (Some q) d =
    (x : Option SeenData) × (c : Option SeenCounts) × (a : Option SeenCounts) × (nodes : Option SessionRec)
    × IsDataSeen (sees v (DataKey p)) x × IsCountsSeen x (sees v (CountsKey p)) c × IsCountsSeen None (sees v (CountsKey q)) a × AreOwnerNodes v x nodes
    × (d ≡ decision_of (on_keys v (delete_keys p (Some q) session (owner_seen x))) (delete_choice p q version x c a nodes))

-- the creates that a node counts, 0 where it is not there
abbrev pub creates_in : Option SeenCounts → ℕ
creates_in None = 0
creates_in (Some c) = nat_abs c.counts.creates

-- the creates that a node counts, none where it is not there
abbrev pub creates_seen : Option SeenCounts → Option ℕ
creates_seen None = None
creates_seen (Some c) = Some (nat_abs c.counts.creates)

-- the path that the new node gets: a sequence node's ends in the creates of its parent
abbrev pub path_for : Bool → Bytes → Option SeenCounts → Bytes
path_for sequential path c = if sequential then sequence_path path (creates_in c) else path

-- for an ephemeral node, this is the record of the session's nodes as the view saw it
abbrev pub AreOwnNodes : View → Bool → ℤ → Option SessionRec → Type 0
AreOwnNodes v ephemeral session nodes = ephemeral ≡ true → IsNodesSeen (sees v (SessionKey (nat_abs session))) nodes

-- the decision of a create below q
abbrev pub IsCreateBelow : View → Bytes → Bytes → ℕ → Bool → Bool → ℤ → Bytes → Decision → Type 0
IsCreateBelow v path content now sequential ephemeral session q d =
    (x : Option SeenData) × (c : Option SeenCounts) × (nodes : Option SessionRec)
    × IsDataSeen (sees v (DataKey q)) x × IsCountsSeen x (sees v (CountsKey q)) c × AreOwnNodes v ephemeral session nodes
    × (d ≡ decision_of (on_keys v (create_keys sequential ephemeral path (Some q) session (creates_seen c)))
    (create_choice (path_for sequential path c) q content now ephemeral session x c
    (has_found (sees v (DataKey (path_for sequential path c)))) nodes))

-- the decision of a create: below a parent, or of the root, which is there
abbrev pub IsCreate : View → Bytes → Bytes → ℕ → Bool → Bool → ℤ → Option Bytes → Decision → Type 0
IsCreate v path content now sequential ephemeral session None d = d ≡ decision_of v (Refuse node_exists)
IsCreate v path content now sequential ephemeral session (Some q) d = IsCreateBelow v path content now sequential ephemeral session q d

-- the data of a create, a create2 or a setData; other requests have none
abbrev pub content_in : Request → Bytes
content_in (req.Create p d a f) = d
content_in (req.Create2 p d a f) = d
content_in (req.SetData p d v) = d
content_in _ = []

-- the record and the counts of a new node's parent were looked up, if it has one
abbrev pub IsUpLookedUp : View → Option Bytes → Type 0
IsUpLookedUp v None = Unit {0}
IsUpLookedUp v (Some q) = HasSeen v (DataKey q) × HasSeen v (CountsKey q)
