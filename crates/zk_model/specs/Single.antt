-- One request that may be part of a transaction, on a tree (Programmer's Guide, "ZNodes", "Ephemeral Nodes",
-- "Sequence Nodes", "ZooKeeper Stat Structure"; codes by `KeeperException.Code`). The order of the refusals is this project's.
use Rattle.std.specs.Prelude.{ℕ, ℤ, pos, negsuc, nat_abs, ◌+ℤ◌, Bool, true, false, not, ◌&&◌, ◌||◌, List, [], ◌∷◌, length, nat_le, if◌then◌else◌, Option, Some, None, ◌==◌}
use Rattle.std.specs.Ordering.{int_eq}
use Rattle.zk_model.specs.declared.node.Node.{Node}
use Rattle.zk_model.specs.declared.request.Part.{Part}
use Rattle.zk_model.specs.declared.request.Part.TheVariants.{Create, Delete, SetData, Check}
use Rattle.zk_model.specs.declared.reply.PartResult.{PartResult}
use Rattle.zk_model.specs.declared.reply.PartResult.TheVariants as result
use Rattle.zk_model.specs.declared.node.Trigger.{Trigger}
use Rattle.zk_model.specs.declared.node.Trigger.TheVariants as trigger
use Rattle.zk_model.specs.Codes.{system_error, bad_arguments, no_node, bad_version, no_children_for_ephemerals, node_exists, not_empty, invalid_acl}
use Rattle.std.specs.FinMap.{get, insert, remove}
use Rattle.zx_base.specs.Maps.{Bytes, same}
use Rattle.zk_model.specs.Paths.{is_path, is_sequence_prefix, sequence_path, with_one, parent, root}
use Rattle.zk_model.specs.Znodes.{Tree, owned, num_children, new_node, stat_of}
use Rattle.zk_model.specs.Limits.{max_creates, max_version}
use Rattle.zk_model.specs.Access.{is_open_acl}

-- a code, or the result, the new tree and what watches see
pub data Outcome : Type 0 where
  Refused : (code : ℤ) → Outcome
  Done : (result : PartResult) (tree : Tree) (triggers : List Trigger) → Outcome

-- the flags of a CreateMode, 0 to 3: 1 is ephemeral, 2 sequential, 3 both, 0 neither
abbrev pub is_create_mode : ℤ → Bool
is_create_mode (pos n) = nat_le n 3
is_create_mode (negsuc n) = false

abbrev pub is_ephemeral : ℤ → Bool
is_ephemeral f = int_eq f (pos 1) || int_eq f (pos 3)

abbrev pub is_sequential : ℤ → Bool
is_sequential f = int_eq f (pos 2) || int_eq f (pos 3)

-- a version of -1 matches any
abbrev pub matches : ℤ → ℤ → Bool
matches asked version = int_eq asked (negsuc 0) || int_eq asked version

-- ---- refusals that need no tree

-- a path that isn't valid is BadArguments
abbrev pub path_refusal : Bool → Option ℤ
path_refusal true = None
path_refusal false = Some bad_arguments

-- the first code, or else the second
abbrev pub or_else : Option ℤ → Option ℤ → Option ℤ
or_else (Some c) o = Some c
or_else None o = o

-- by the path; then, for a create, by its flags and its access list. The root cannot be deleted
unfoldable pub form_refusal : Part → Option ℤ
form_refusal (Create path content acl flags) =
    or_else (path_refusal (if is_sequential flags then is_sequence_prefix path else is_path path))
    (if not (is_create_mode flags) then Some bad_arguments else if not (is_open_acl acl) then Some invalid_acl else None)
form_refusal (Delete path version) = path_refusal (is_path path && not (same path root))
form_refusal (SetData path content version) = path_refusal (is_path path)
form_refusal (Check path version) = path_refusal (is_path path)

-- ---- effects, each a function of what was looked up

-- the parent after the create of a child
abbrev pub with_child : Node → ℤ → Node
with_child up zxid = record up { pzxid = zxid; creates = up.creates +ℤ pos 1 }

-- the parent after the delete of a child
abbrev pub without_child : Node → ℤ → Node
without_child up zxid = record up { pzxid = zxid }

-- the path whose parent a new node has: a sequential create's needs a digit first, as it may end with a slash
abbrev pub named : ℤ → Bytes → Bytes
named flags path = if is_sequential flags then with_one path else path

-- the path that a new node gets: a sequence node's ends in the parent's count of creates, as ten digits
abbrev pub made_path : ℤ → Bytes → Node → Bytes
made_path flags path up = if is_sequential flags then sequence_path path (nat_abs up.creates) else path

-- whether the parent can count no more creates, or the create is ephemeral and the session owns `limit` nodes or more
abbrev pub is_full : Tree → ℕ → ℤ → ℤ → Node → Bool
is_full t limit session flags up = int_eq up.creates max_creates || (is_ephemeral flags && nat_le limit (length (owned t session)))

-- a create at p under the parent `up` at q, by what is at p already
abbrev pub create_node : Tree → ℕ → ℤ → ℤ → Bytes → ℤ → ℕ → Bytes → Node → Bytes → Option Node → Outcome
create_node t limit session flags content zxid now q up p (Some old) = Refused node_exists
create_node t limit session flags content zxid now q up p None =
    if not (int_eq up.owner (pos 0)) then Refused no_children_for_ephemerals
    else (if is_full t limit session flags up then Refused system_error
    else Done (result.Created p)
    (insert (insert t q (with_child up zxid)) p (new_node content (if is_ephemeral flags then session else pos 0) zxid now))
    (trigger.Created p ∷ trigger.Children q ∷ []))

-- a create under q, by the parent that is there
abbrev pub create_under : Tree → ℕ → ℤ → ℤ → Bytes → ℤ → ℕ → Bytes → Bytes → Option Node → Outcome
create_under t limit session flags content zxid now path q None = Refused no_node
create_under t limit session flags content zxid now path q (Some up) =
    create_node t limit session flags content zxid now q up (made_path flags path up) (get t (made_path flags path up))

-- a create, by the parent's path. The root has none, and is always there
abbrev pub create_at : Tree → ℕ → ℤ → ℤ → Bytes → ℤ → ℕ → Bytes → Option Bytes → Outcome
create_at t limit session flags content zxid now path None = Refused node_exists
create_at t limit session flags content zxid now path (Some q) = create_under t limit session flags content zxid now path q (get t q)

abbrev pub create : Tree → ℕ → ℤ → ℤ → Bytes → ℤ → ℕ → Bytes → Outcome
create t limit session flags content zxid now path = create_at t limit session flags content zxid now path (parent (named flags path))

-- the tree without the node at p, which has no children, by its parent's path and the parent
abbrev pub removed_under : Tree → Bytes → ℤ → Option Bytes → Option Node → Tree
removed_under t p zxid (Some q) (Some up) = insert (remove t p) q (without_child up zxid)
removed_under t p zxid _ _ = remove t p

-- the node at a parent's path, where there is one
abbrev pub at_parent : Tree → Option Bytes → Option Node
at_parent t None = None
at_parent t (Some q) = get t q

-- the tree after the delete of the node at p
abbrev pub removed : Tree → Bytes → ℤ → Tree
removed t p zxid = removed_under t p zxid (parent p) (at_parent t (parent p))

-- what watches see of the delete of the node at p, by its parent's path
abbrev pub removal_under : Bytes → Option Bytes → List Trigger
removal_under p None = trigger.Deleted p ∷ []
removal_under p (Some q) = trigger.Deleted p ∷ trigger.Children q ∷ []

-- what watches see of the delete of the node at p
abbrev pub removal : Bytes → List Trigger
removal p = removal_under p (parent p)

-- a delete, by what is at p
abbrev pub delete : Tree → Bytes → ℤ → ℤ → Option Node → Outcome
delete t p version zxid None = Refused no_node
delete t p version zxid (Some n) =
    if not (matches version n.version) then Refused bad_version
    else (if not (num_children t p == 0) then Refused not_empty
    else Done result.Deleted (removed t p zxid) (removal p))

-- a node after its data was set
abbrev pub with_content : Node → Bytes → ℤ → ℕ → Node
with_content n content zxid now = record n { content = content; mzxid = zxid; mtime = pos now; version = n.version +ℤ pos 1 }

-- a setData, by what is at p. A version that is the greatest can rise no more
abbrev pub set_data : Tree → Bytes → Bytes → ℤ → ℤ → ℕ → Option Node → Outcome
set_data t p content version zxid now None = Refused no_node
set_data t p content version zxid now (Some n) =
    if not (matches version n.version) then Refused bad_version
    else (if int_eq n.version max_version then Refused system_error
    else Done (result.Set (stat_of t p (with_content n content zxid now))) (insert t p (with_content n content zxid now)) (trigger.Changed p ∷ []))

-- a check, by what is at its path
abbrev pub check : Tree → ℤ → Option Node → Outcome
check t version None = Refused no_node
check t version (Some n) = if not (matches version n.version) then Refused bad_version else Done result.Checked t []

-- what the tree makes of a part whose form isn't refused
unfoldable pub effect : Tree → ℕ → ℤ → Part → ℤ → ℕ → Outcome
effect t limit session (Create path content acl flags) zxid now = create t limit session flags content zxid now path
effect t limit session (Delete path version) zxid now = delete t path version zxid (get t path)
effect t limit session (SetData path content version) zxid now = set_data t path content version zxid now (get t path)
effect t limit session (Check path version) zxid now = check t version (get t path)

-- the refusal, where there is one
abbrev pub unless_refused : Option ℤ → Outcome → Outcome
unless_refused (Some code) o = Refused code
unless_refused None o = o

-- one request of a session that may own `limit` nodes, at a zxid and a time in milliseconds
unfoldable pub single : Tree → ℕ → ℤ → Part → ℤ → ℕ → Outcome
single t limit session part zxid now = unless_refused (form_refusal part) (effect t limit session part zxid now)
