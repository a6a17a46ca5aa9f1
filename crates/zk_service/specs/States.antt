-- The state of the service, what an update makes of it, and when it is sound (Programmer's Guide, "ZooKeeper Sessions",
-- "Data Model").
use Rattle.std.specs.Prelude.{◌≡◌, ℕ, ℤ, pos, ◌+◌, ◌≤◌, ◌≤ℤ◌, Bool, true, false, List, [], ◌∷◌, length, fold, flat_map, Option, Some, None, option_map, if◌then◌else◌, ◌==◌, IsTrue}
use Rattle.std.specs.Int.{int_max, int_min}
use Rattle.std.specs.Ordering.{int_cmp}
use Rattle.zk_model.specs.declared.node.Node.{Node}
use Rattle.zk_model.specs.declared.node.Stat.{Stat}
use Rattle.zk_model.specs.declared.reply.Body.{Body}
use Rattle.zk_model.specs.declared.reply.Body.TheVariants as body
use Rattle.zk_model.specs.declared.reply.PartResult.{PartResult}
use Rattle.zk_model.specs.declared.reply.PartResult.TheVariants as result
use Rattle.zk_model.specs.declared.request.Request.{Request}
use Rattle.zk_model.specs.declared.request.Request.TheVariants as req
use Rattle.zk_model.specs.declared.request.Part.TheVariants as part
use Rattle.zk_model.specs.declared.node.Trigger.{Trigger}
use Rattle.zk_model.specs.declared.connect.ConnectRequest.{ConnectRequest}
use Rattle.zk_model.specs.declared.layout.Layout.{Layout}
use Rattle.zk_model.specs.declared.layout.Layout.TheVariants.{Two}
use Rattle.zk_service.specs.declared.fresh.Fresh.{Fresh}
use Rattle.std.specs.FinMap.{FinMap, get, insert, remove, empty, entries}
use Rattle.zx_base.specs.Maps.{Bytes}
use Rattle.zk_model.specs.Paths.{root, parent, is_path}
use Rattle.zk_model.specs.Znodes.{Tree, owned, num_children, new_node, stat, root_alone}
use Rattle.zk_model.specs.Single.{single, Outcome, Refused, Done, is_ephemeral, removed, removal}
use Rattle.zk_model.specs.Multi.{several, Several, Denied, Codes, All as AllDone}
use Rattle.zk_model.specs.Limits.{max_creates, max_frame, max_long, max_owned, max_timeout, max_version, min_timeout}

-- ---- the state

pub record Session : Type 0 where
  pub passwd : List ℕ
  pub timeout : ℤ
  -- how its nodes are kept, and so how many it may own
  pub layout : Layout
  -- the connection that it is attached to, and the zxid of that attachment
  pub connection : ℕ
  pub attached : ℤ
  pub lapsed : Bool

-- the open sessions, by their numbers
abbrev pub Sessions : Type 0
Sessions = FinMap int_cmp Session

pub record State : Type 0 where
  pub tree : Tree
  -- the zxid of the last update, how many updates there were, and what watches see of the last
  pub zxid : ℤ
  pub updates : ℕ
  pub triggers : List Trigger
  pub sessions : Sessions

abbrev pub nothing_yet : State
nothing_yet = record { tree = empty; zxid = pos 0; updates = 0; triggers = []; sessions = empty }

-- the state after the first update of a new store, which makes the root at this time, in milliseconds
abbrev pub first_state : ℕ → State
first_state now = record { tree = root_alone (pos 2) now; zxid = pos 2; updates = 1; triggers = []; sessions = empty }

abbrev pub session_at : ℤ → State → Option Session
session_at id s = get s.sessions id

abbrev pub is_attached_to : ℕ → ℤ × Session → Bool
is_attached_to c e = c == e.1.connection

abbrev pub attached_in : ℕ → List (ℤ × Session) → Option (ℤ × Session)
attached_in c [] = None
attached_in c (e ∷ es) = if is_attached_to c e then Some e else attached_in c es

-- the session that is attached to a connection, for which the connection acts: the first such, in the order of numbers
abbrev pub attached_session : ℕ → State → Option (ℤ × Session)
attached_session c s = attached_in c (entries s.sessions)

abbrev pub session_of : ℕ → State → Option ℤ
session_of c s = option_map (λ (e : ℤ × Session). e.0) (attached_session c s)

-- ---- what an update does

pub record Commit : Type 0 where
  pub response : Body
  pub tree : Tree
  pub triggers : List Trigger

abbrev pub response_of : PartResult → Body
response_of (result.Created p) = body.Path p
response_of result.Deleted = body.Empty
response_of (result.Set s) = body.Stat s
response_of result.Checked = body.Empty
response_of (result.Code c) = body.Empty

abbrev pub commit_single : Outcome → Option Commit
commit_single (Refused code) = None
commit_single (Done r t g) = Some (record { response = response_of r; tree = t; triggers = g })

-- the Stat of the node that a create makes, which has no children
abbrev pub made_stat : ℤ → List ℕ → ℤ → ℤ → ℕ → Stat
made_stat flags content session zxid now = stat (new_node content (if is_ephemeral flags then session else pos 0) zxid now) 0

-- the body of a path with a Stat beside it; any other body stays as it is
abbrev pub body_with_stat : Stat → Body → Body
body_with_stat s (body.Path p) = body.PathStat p s
body_with_stat s b = b

-- a create2 is answered the path and the Stat of the new node
abbrev pub commit_with_stat : Stat → Outcome → Option Commit
commit_with_stat s (Refused code) = None
commit_with_stat s (Done r t g) = Some (record { response = body_with_stat s (response_of r); tree = t; triggers = g })

abbrev pub commit_several : Several → Option Commit
commit_several (Denied code) = None
commit_several (Codes row) = None
commit_several (AllDone rs t g) = Some (record { response = body.Parts rs; tree = t; triggers = g })

-- what a create, create2, delete, setData or multi does where it is not refused; any other request does nothing
unfoldable pub commit : Tree → ℕ → ℤ → Request → ℤ → ℕ → Option Commit
commit t limit session (req.Create p d a f) zxid now = commit_single (single t limit session (part.Create p d a f) zxid now)
commit t limit session (req.Create2 p d a f) zxid now = commit_with_stat (made_stat f d session zxid now) (single t limit session (part.Create p d a f) zxid now)
commit t limit session (req.Delete p v) zxid now = commit_single (single t limit session (part.Delete p v) zxid now)
commit t limit session (req.SetData p d v) zxid now = commit_single (single t limit session (part.SetData p d v) zxid now)
commit t limit session (req.Multi parts) zxid now = commit_several (several t limit session parts zxid now)
commit t limit session _ zxid now = None

abbrev pub advanced : State → ℤ → Tree → List Trigger → Sessions → State
advanced s zxid t triggers sessions = record { tree = t; zxid = zxid; updates = s.updates + 1; triggers = triggers; sessions = sessions }

-- a requested timeout, brought into the service's range
abbrev pub granted_timeout : ℤ → ℤ
granted_timeout asked = int_min max_timeout (int_max min_timeout asked)

abbrev pub or_nothing : {A : Type 0} → A → Option A → A
or_nothing x None = x
or_nothing x (Some y) = y

-- the session that begins with what its connection offers
abbrev pub new_session : Option Fresh → Option ConnectRequest → ℕ → ℤ → Session
new_session opened asked c zxid = record {
  passwd = or_nothing [] (option_map (λ (f : Fresh). f.passwd) opened);
  timeout = granted_timeout (or_nothing (pos 0) (option_map (λ (r : ConnectRequest). r.timeout) asked));
  layout = or_nothing Two (option_map (λ (f : Fresh). f.layout) opened);
  connection = c;
  attached = zxid;
  lapsed = false;
}

abbrev pub with_session : State → ℤ → Session → Sessions
with_session s id x = insert s.sessions id x

abbrev pub attached_anew : State → ℤ → ℤ → ℕ → Option Session → Sessions
attached_anew s zxid id c None = s.sessions
attached_anew s zxid id c (Some x) = with_session s id (record x { connection = c; attached = zxid })

abbrev pub committed : State → ℤ → Option Commit → State
committed s zxid None = s
committed s zxid (Some x) = advanced s zxid x.tree x.triggers s.sessions

-- the tree after these nodes are removed one by one, at one zxid
abbrev pub removed_all : Tree → List (List ℕ) → ℤ → Tree
removed_all t ps zxid = fold (λ u p. removed u p zxid) t ps

abbrev pub session_ended : State → ℤ → ℤ → State
session_ended s zxid id =
    let ps = owned s.tree id in
    advanced s zxid (removed_all s.tree ps zxid) (flat_map removal ps) (remove s.sessions id)

-- how many ephemeral nodes a session may own
abbrev pub limit_of : Session → ℕ
limit_of x = max_owned x.layout

abbrev pub lapsed_in : State → ℤ → Option Session → State
lapsed_in s id None = s
lapsed_in s id (Some x) = record s { sessions = with_session s id (record x { lapsed = true }) }

-- ---- sound states: the state after each legal history is one

-- a node is there, and is no ephemeral node
pub record HasPlain (t : Tree) (p : Bytes) : Type 0 where
  pub node : Node
  pub there : get t p ≡ Some node
  pub plain : node.owner ≡ pos 0

pub record HasParent (t : Tree) (p : Bytes) : Type 0 where
  pub path : Bytes
  pub is : parent p ≡ Some path
  pub has : HasPlain t path

-- a node has counted at least as many creates as it has children, and no more than it may count
pub record IsCounted (n : Node) (children : ℕ) : Type 0 where
  pub counted : pos children ≤ℤ n.creates
  pub most : n.creates ≤ℤ max_creates

-- a tree under these open sessions
pub record IsSoundTree (sessions : Sessions) (t : Tree) : Type 0 where
  pub rooted : HasPlain t root
  pub parents : (p : Bytes) (n : Node) → get t p ≡ Some n → (p ≡ root → ⊥) → HasParent t p
  pub counted : (p : Bytes) (n : Node) → get t p ≡ Some n → IsCounted n (num_children t p)
  pub numbered : (id : ℤ) (x : Session) → get sessions id ≡ Some x → pos 1 ≤ℤ id
  pub owners : (p : Bytes) (n : Node) → get t p ≡ Some n → (n.owner ≡ pos 0 → ⊥) → (x : Session) × (get sessions n.owner ≡ Some x)
  pub limited : (id : ℤ) (x : Session) → get sessions id ≡ Some x → length (owned t id) ≤ limit_of x
  pub small : (p : Bytes) (n : Node) → get t p ≡ Some n → length n.content ≤ max_frame

abbrev pub IsSound : State → Type 0
IsSound s = IsSoundTree s.sessions s.tree

-- ---- the ranges of a state's numbers, which a stored layout needs besides: those of the state after each legal history

-- a zxid not below the first update's and not above the last one's
pub record IsPast (first last zxid : ℤ) : Type 0 where
  pub least : first ≤ℤ zxid
  pub most : zxid ≤ℤ last

pub record IsBoundedNode (first last : ℤ) (p : Bytes) (n : Node) : Type 0 where
  pub valid : IsTrue (is_path p)
  pub made : IsPast first last n.czxid
  pub changed : IsPast first last n.mzxid
  pub children_changed : IsPast first last n.pzxid
  pub made_at : pos 0 ≤ℤ n.ctime
  pub changed_at : pos 0 ≤ℤ n.mtime
  pub version_least : pos 0 ≤ℤ n.version
  pub version_most : n.version ≤ℤ max_version
  pub owner_least : pos 0 ≤ℤ n.owner
  pub owner_most : n.owner ≤ℤ max_long

pub record IsBoundedSession (first last : ℤ) (id : ℤ) (x : Session) : Type 0 where
  pub most : id ≤ℤ max_long
  pub attached : IsPast first last x.attached
  pub timeout_least : min_timeout ≤ℤ x.timeout
  pub timeout_most : x.timeout ≤ℤ max_timeout

-- the numbers of a state are in their ranges; `first` is the zxid of the first update of its history
pub record IsBounded (first : ℤ) (s : State) : Type 0 where
  pub zxid : IsPast first max_long s.zxid
  pub nodes : (p : Bytes) (n : Node) → get s.tree p ≡ Some n → IsBoundedNode first s.zxid p n
  pub sessions : (id : ℤ) (x : Session) → get s.sessions id ≡ Some x → IsBoundedSession first s.zxid id x
