-- What the service answers to a frame (ZooKeeper API; Programmer's Guide, "ZooKeeper Watches", "ZooKeeper Sessions").
use Rattle.std.specs.Prelude.{ℕ, ℤ, pos, Bool, true, false, not, ◌&&◌, List, [], length, nat_lt, ◌==◌, if◌then◌else◌, Option, Some, None, bytes_eq, codes, ◌||◌, replicate, int_le, option_map}
use Rattle.zk_model.specs.declared.node.Node.{Node}
use Rattle.zk_model.specs.declared.reply.Body.{Body}
use Rattle.zk_model.specs.declared.reply.Body.TheVariants as body
use Rattle.zk_model.specs.declared.request.Part.TheVariants as part
use Rattle.zk_model.specs.declared.reply.Reply.{Reply}
use Rattle.zk_model.specs.declared.reply.Reply.TheVariants as reply
use Rattle.zk_model.specs.declared.request.Request.{Request}
use Rattle.zk_model.specs.declared.request.Request.TheVariants as req
use Rattle.zk_model.specs.declared.reply.Notice.{Notice}
use Rattle.zk_model.specs.Codes.{marshalling_error, unimplemented, bad_arguments, no_node, session_expired, session_moved, auth_failed, system_error, no_watcher}
use Rattle.zk_jute.specs.Requests.{Frame, NoHeader, Unreadable, Unknown, Asks}
use Rattle.zk_jute.specs.Packets.{reply_bytes}
use Rattle.std.specs.FinMap.{get}
use Rattle.zk_model.specs.Paths.{is_path}
use Rattle.zk_model.specs.Znodes.{Tree, stat_of, child_names}
use Rattle.zk_model.specs.Single.{Outcome, Refused, Done, single, form_refusal}
use Rattle.zk_model.specs.Multi.{Several, Denied, Codes, All as AllDone, several}
use Rattle.zk_model.specs.Watches.{Watches, Seen, arm_data, arm_children, set_watches, is_watcher_type, is_watched, unwatched}
use Rattle.zk_service.specs.States.{Session, limit_of, State, session_at}
use Rattle.zk_model.specs.Limits.{max_parts}
use Rattle.std.specs.Ordering.{int_eq}
use Rattle.zk_model.specs.declared.connect.ConnectRequest.{ConnectRequest}
use Rattle.zk_model.specs.declared.connect.ConnectResponse.{ConnectResponse}

-- ---- what a client is told

-- a reply, the notices that stand before it, and what is armed after it
pub record Told : Type 0 where
  pub reply : Reply
  pub notices : List Notice
  pub watches : Watches

-- a reply without notices
abbrev pub only : Watches → Reply → Told
only w r = record { reply = r; notices = []; watches = w }

abbrev pub told : Watches → Reply → Option Told
told w r = Some (only w r)

-- ---- answers that need no tree; w are the watches that are armed

abbrev pub told_refusal : Watches → Option ℤ → Option Told
told_refusal w None = None
told_refusal w (Some code) = told w (reply.Refused code)

abbrev pub told_of_path : Watches → List ℕ → Option Told
told_of_path w p = if is_path p then None else told w (reply.Refused bad_arguments)

-- The answer to a checkWatches or removeWatches. It is refused where its path or its type is not valid, and where no watch that it
-- names is armed; otherwise `rest` are the watches after it.
abbrev pub told_of_watcher : Watches → Watches → Bool → Bool → Told
told_of_watcher w rest false armed = only w (reply.Refused bad_arguments)
told_of_watcher w rest true false = only w (reply.Refused no_watcher)
told_of_watcher w rest true true = only rest (reply.Good body.Empty)

-- the form of a checkWatches or removeWatches with this path and type is valid
abbrev pub has_valid_form : List ℕ → ℤ → Bool
has_valid_form p kind = is_path p && is_watcher_type kind

-- the answer to a checkWatches, or where `removes` to a removeWatches, with this path and type
abbrev pub told_of_watches : Watches → List ℕ → ℤ → Bool → Told
told_of_watches w p kind removes = told_of_watcher w (if removes then unwatched w p kind else w) (has_valid_form p kind) (is_watched w p kind)

-- the answer to a request where the tree does not decide it
unfoldable pub plain_request : Watches → Request → Option Told
plain_request w req.Ping = told w (reply.Good body.Empty)
plain_request w (req.Auth kind scheme auth) = told w (if bytes_eq scheme (codes "digest") then reply.Good body.Empty else reply.Refused auth_failed)
plain_request w (req.Multi parts) = if nat_lt max_parts (length parts) then told w (reply.Refused bad_arguments) else None
plain_request w (req.Create p d a f) = told_refusal w (form_refusal (part.Create p d a f))
plain_request w (req.Delete p v) = told_refusal w (form_refusal (part.Delete p v))
plain_request w (req.SetData p d v) = told_refusal w (form_refusal (part.SetData p d v))
plain_request w (req.Check p v) = told_refusal w (form_refusal (part.Check p v))
plain_request w (req.Exists p watch) = told_of_path w p
plain_request w (req.GetData p watch) = told_of_path w p
plain_request w (req.GetAcl p) = told_of_path w p
plain_request w (req.GetChildren p watch) = told_of_path w p
plain_request w (req.GetChildren2 p watch) = told_of_path w p
plain_request w (req.Sync p) = told_of_path w p
plain_request w (req.SetWatches r e d c) = None
plain_request w req.Close = None
plain_request w (req.Create2 p d a f) = told_refusal w (form_refusal (part.Create p d a f))
plain_request w (req.CheckWatches p kind) = Some (told_of_watches w p kind false)
plain_request w (req.RemoveWatches p kind) = Some (told_of_watches w p kind true)

-- the frame is a checkWatches or a removeWatches, whose answer depends on what is armed
abbrev pub asks_of_watches : Frame → Bool
asks_of_watches (Asks xid (req.CheckWatches p kind)) = true
asks_of_watches (Asks xid (req.RemoveWatches p kind)) = true
asks_of_watches _ = false

-- the answer to a frame where the tree does not decide it
abbrev pub plain_reply : Watches → Frame → Option Told
plain_reply w NoHeader = None
plain_reply w (Unreadable xid place) = told w (reply.Refused marshalling_error)
plain_reply w (Unknown xid kind) = told w (reply.Refused unimplemented)
plain_reply w (Asks xid r) = plain_request w r

abbrev pub xid_of : Frame → ℤ
xid_of NoHeader = pos 0
xid_of (Unreadable xid place) = xid
xid_of (Unknown xid kind) = xid
xid_of (Asks xid r) = xid

-- the refusal of an auth, after which no request is answered
abbrev pub is_auth_refusal : Reply → Bool
is_auth_refusal (reply.Refused code) = int_eq code auth_failed
is_auth_refusal (reply.Good b) = false

-- a frame without a header is never answered
abbrev pub has_header : Frame → Bool
has_header NoHeader = false
has_header (Unreadable xid place) = true
has_header (Unknown xid kind) = true
has_header (Asks xid r) = true

-- ---- the session test

-- the refusal where the session is not open or has lapsed, or is attached to another connection than c
abbrev pub session_refusal : ℕ → Option Session → Option Reply
session_refusal c None = Some (reply.Refused session_expired)
session_refusal c (Some x) =
    if x.lapsed then Some (reply.Refused session_expired)
    else if not (c == x.connection) then Some (reply.Refused session_moved)
    else None

-- how many ephemeral nodes the session may own
abbrev pub owned_limit_in : Option Session → ℕ
owned_limit_in None = 0
owned_limit_in (Some x) = limit_of x

-- ---- reads, and refusals by the tree

abbrev pub armed_data : Bool → List ℕ → Watches → Watches
armed_data watch p w = if watch then arm_data w p else w

abbrev pub armed_children : Bool → List ℕ → Watches → Watches
armed_children watch p w = if watch then arm_children w p else w

-- the answer about a node. The watches are `armed` afterwards where the node is there, and w where it is not
abbrev pub about : Watches → Watches → Option Node → (Node → Body) → Option Told
about armed w None f = told w (reply.Refused no_node)
about armed w (Some n) f = told armed (reply.Good (f n))

-- the reply with this body has at most as many bytes as an `int` can count
abbrev pub fits_reply : Body → Bool
fits_reply b = not (nat_lt 2147483647 (length (reply_bytes (pos 0) (pos 0) (reply.Good b))))

-- the answer about a node's children, which is refused where it is too long for a frame
abbrev pub listing : Watches → Watches → Option Node → (Node → Body) → Option Told
listing armed w None f = told w (reply.Refused no_node)
listing armed w (Some n) f = if fits_reply (f n) then told armed (reply.Good (f n)) else told w (reply.Refused system_error)

-- only the refusal of an update is an answer by the tree: one that succeeds has a line of its own, and is answered by that
abbrev pub refusal_of : Watches → Outcome → Option Told
refusal_of w (Refused code) = told w (reply.Refused code)
refusal_of w (Done r t g) = None

abbrev pub checked : Watches → Outcome → Option Told
checked w (Refused code) = told w (reply.Refused code)
checked w (Done r t g) = told w (reply.Good body.Empty)

abbrev pub refusal_of_several : Watches → Several → Option Told
refusal_of_several w (Denied code) = told w (reply.Refused code)
refusal_of_several w (Codes row) = told w (reply.Good (body.Parts row))
refusal_of_several w (AllDone rs t g) = None

abbrev pub rearmed : Seen → Option Told
rearmed s = Some (record { reply = reply.Good body.Empty; notices = s.notices; watches = s.watches })

-- the answer by the tree to a session that may own at most `limit` ephemeral nodes
unfoldable pub tree_reply : Tree → ℕ → ℤ → Watches → Request → Option Told
tree_reply t limit session w (req.Exists p watch) = about (armed_data watch p w) (armed_data watch p w) (get t p) (λ n. body.Stat (stat_of t p n))
tree_reply t limit session w (req.GetData p watch) = about (armed_data watch p w) w (get t p) (λ n. body.Content n.content (stat_of t p n))
tree_reply t limit session w (req.GetAcl p) = about w w (get t p) (λ n. body.OpenAcl (stat_of t p n))
tree_reply t limit session w (req.GetChildren p watch) = listing (armed_children watch p w) w (get t p) (λ n. body.Names (child_names t p))
tree_reply t limit session w (req.GetChildren2 p watch) = listing (armed_children watch p w) w (get t p) (λ n. body.NamesStat (child_names t p) (stat_of t p n))
tree_reply t limit session w (req.Sync p) = told w (reply.Good (body.Path p))
tree_reply t limit session w (req.SetWatches since exists datas children) = rearmed (set_watches t since datas exists children w)
tree_reply t limit session w (req.Check p v) = checked w (single t limit session (part.Check p v) (pos 0) 0)
tree_reply t limit session w (req.Create p d a f) = refusal_of w (single t limit session (part.Create p d a f) (pos 0) 0)
tree_reply t limit session w (req.Delete p v) = refusal_of w (single t limit session (part.Delete p v) (pos 0) 0)
tree_reply t limit session w (req.SetData p d v) = refusal_of w (single t limit session (part.SetData p d v) (pos 0) 0)
tree_reply t limit session w (req.Multi parts) = refusal_of_several w (several t limit session parts (pos 0) 0)
tree_reply t limit session w req.Ping = None
tree_reply t limit session w (req.Auth kind scheme auth) = None
tree_reply t limit session w req.Close = None
tree_reply t limit session w (req.Create2 p d a f) = refusal_of w (single t limit session (part.Create p d a f) (pos 0) 0)
tree_reply t limit session w (req.CheckWatches p kind) = None
tree_reply t limit session w (req.RemoveWatches p kind) = None

-- ---- the answer to the connect

-- the answer has the field where the connect has it, and says that the service is not read-only
abbrev pub answered_read_only : ConnectRequest → Option Bool
answered_read_only r = option_map (λ (b : Bool). false) r.read_only

abbrev pub welcome : ConnectRequest → ℤ → Session → ConnectResponse
welcome r id x = record { timeout = x.timeout; session = id; passwd = x.passwd; read_only = answered_read_only r }

abbrev pub refusal : ConnectRequest → ConnectResponse
refusal r = record { timeout = pos 0; session = pos 0; passwd = replicate 16 0; read_only = answered_read_only r }

-- the session is not open, has lapsed, or has another password than the connect shows
abbrev pub is_other_session : ConnectRequest → Option Session → Bool
is_other_session r None = true
is_other_session r (Some x) = x.lapsed || not (bytes_eq r.passwd x.passwd)

-- the connect names a session, its client has seen no later zxid than the state's, and the session cannot be resumed
abbrev pub may_refuse : ConnectRequest → State → Bool
may_refuse r s = not (int_eq r.session (pos 0)) && int_le r.last_zxid s.zxid && is_other_session r (session_at r.session s)
