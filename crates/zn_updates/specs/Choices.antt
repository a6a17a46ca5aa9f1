-- What each request comes to, as a function of the records that were seen: a refusal, or the changes of an update.
use Rattle.std.specs.Prelude.{ℕ, ℤ, pos, nat_abs, ◌+ℤ◌, Bool, true, false, not, List, [], ◌∷◌, ◌++◌, length, nat_le, Option, Some, None, if◌then◌else◌}
use Rattle.std.specs.Ordering.{int_eq}
use Rattle.zx_base.specs.Maps.{Bytes}
use Rattle.zk_model.specs.declared.node.Stat.{Stat}
use Rattle.zk_model.specs.declared.node.Trigger.{Trigger}
use Rattle.zk_model.specs.declared.node.Trigger.TheVariants.{Created, Deleted, Changed, Children}
use Rattle.zk_model.specs.declared.reply.PartResult.{PartResult}
use Rattle.zk_model.specs.declared.reply.PartResult.TheVariants as result
use Rattle.zk_model.specs.Codes.{system_error, no_node, bad_version, no_children_for_ephemerals, node_exists, not_empty}
use Rattle.zk_model.specs.Limits.{max_creates, max_owned, max_version}
use Rattle.zk_model.specs.Single.{matches}
use Rattle.zk_model.specs.Znodes.{cversion}
use Rattle.zn_layout.specs.declared.record.CountRec.{CountRec}
use Rattle.zn_layout.specs.declared.record.NodeRec.{NodeRec}
use Rattle.zn_layout.specs.declared.record.SessionRec.{SessionRec}
use Rattle.zn_layout.specs.Begin.{new_record, first_counts}
use Rattle.zn_layout.specs.Counts.{one_less, one_more}
use Rattle.zn_layout.specs.Changes.{KeyChange, put_key, delete_key}
use Rattle.zn_layout.specs.Keys.{DataKey, CountsKey, SessionKey}
use Rattle.zn_layout.specs.Records.{has_counts, node_value, counts_value, session_value}
use Rattle.zn_updates.specs.OwnedLists.{with_node, without_node}
use Rattle.zn_updates.specs.declared.seen.SeenData.{SeenData}
use Rattle.zn_updates.specs.declared.seen.SeenCounts.{SeenCounts}

-- a refusal with its code; or an update: its changes but the head's, what watches see, and the result with 0 in place of its zxid
pub data Choice : Type 0 where
  Refuse : (code : ℤ) → Choice
  Make : (changes : List KeyChange) (triggers : List Trigger) (draft : PartResult) → Choice

-- a node's record with this content
abbrev pub with_content : NodeRec → Bytes → NodeRec
with_content r content = record r { content = content }

-- puts the record of a session's nodes
abbrev pub put_owned : ℤ → SessionRec → KeyChange
put_owned id nodes = put_key (SessionKey (nat_abs id)) (session_value nodes)

-- ---- setData

-- the node's record after it, at this time
abbrev pub set_record : SeenData → Bytes → ℕ → NodeRec
set_record x content now = record { czxid = x.czxid; version = x.version +ℤ pos 1; ctime = x.ctime; mtime = pos now; owner = x.owner; content = content }

-- and its Stat, with 0 in place of the update's zxid
abbrev pub set_stat : SeenData → SeenCounts → Bytes → ℕ → Stat
set_stat x c content now = record {
  czxid = x.czxid;
  mzxid = pos 0;
  ctime = x.ctime;
  mtime = pos now;
  version = x.version +ℤ pos 1;
  cversion = cversion c.counts.creates (nat_abs c.counts.children);
  aversion = pos 0;
  ephemeral_owner = x.owner;
  data_length = pos (length content);
  num_children = c.counts.children;
  pzxid = c.pzxid;
}

abbrev pub set_changes : Bytes → SeenData → Bytes → ℕ → List KeyChange
set_changes p x content now = put_key (DataKey p) (node_value (set_record x content now)) ∷ []

-- a setData of p, by the node's record and by its counts, which its Stat shows
unfoldable pub set_data_choice : Bytes → Bytes → ℤ → ℕ → Option SeenData → Option SeenCounts → Choice
set_data_choice p content version now None counts = Refuse no_node
set_data_choice p content version now (Some x) None = Refuse no_node
set_data_choice p content version now (Some x) (Some c) =
    if not (matches version x.version) then Refuse bad_version
    else (if int_eq x.version max_version then Refuse system_error
    else Make (set_changes p x content now) (Changed p ∷ []) (result.Set (set_stat x c content now)))

-- ---- delete of p below q

-- deletes the record of a node's counts, where there is one
abbrev pub delete_counts : Bytes → Bool → List KeyChange
delete_counts p counted = if counted then delete_key (CountsKey p) ∷ [] else []

abbrev pub delete_changes : Bytes → Bytes → Bool → CountRec → List KeyChange
delete_changes p q counted above = delete_key (DataKey p) ∷ delete_counts p counted ++ put_key (CountsKey q) (counts_value (one_less above)) ∷ []

abbrev pub delete_triggers : Bytes → Bytes → List Trigger
delete_triggers p q = Deleted p ∷ Children q ∷ []

-- of a node with an owner: it goes from the owner's list; a list that is missing, as in no sound state, is a system error
abbrev pub delete_owned : Bytes → Bytes → Bool → CountRec → ℤ → Option SessionRec → Choice
delete_owned p q counted above owner None = Refuse system_error
delete_owned p q counted above owner (Some nodes) = Make (delete_changes p q counted above ++ put_owned owner (without_node p nodes) ∷ []) (delete_triggers p q) result.Deleted

-- of a node that passed the tests; counts of the parent that are missing, as in no sound state, are a system error
abbrev pub delete_here : Bytes → Bytes → SeenData → Bool → Option SeenCounts → Option SessionRec → Choice
delete_here p q x counted None nodes = Refuse system_error
delete_here p q x counted (Some above) nodes =
    if int_eq x.owner (pos 0) then Make (delete_changes p q counted above.counts) (delete_triggers p q) result.Deleted
    else delete_owned p q counted above.counts x.owner nodes

-- by the node's record and counts, its parent's counts, and the record of its owner's nodes, where it has an owner
unfoldable pub delete_choice : Bytes → Bytes → ℤ → Option SeenData → Option SeenCounts → Option SeenCounts → Option SessionRec → Choice
delete_choice p q version None counts above nodes = Refuse no_node
delete_choice p q version (Some x) None above nodes = Refuse no_node
delete_choice p q version (Some x) (Some c) above nodes =
    if not (matches version x.version) then Refuse bad_version
    else (if not (int_eq c.counts.children (pos 0)) then Refuse not_empty else delete_here p q x c.is_stored above nodes)

-- ---- create of p below q

-- puts the record of a new node's counts, where it has one
abbrev pub put_counts : Bytes → Bool → List KeyChange
put_counts p counted = if counted then put_key (CountsKey p) (counts_value first_counts) ∷ [] else []

abbrev pub changes_with : Bytes → Bytes → NodeRec → Bool → CountRec → List KeyChange
changes_with p q node counted above = put_key (DataKey p) (node_value node) ∷ put_counts p counted ++ put_key (CountsKey q) (counts_value (one_more above)) ∷ []

abbrev pub create_changes : Bytes → Bytes → Bytes → ℕ → ℤ → Bool → CountRec → List KeyChange
create_changes p q content now owner counted above = changes_with p q (new_record content now owner) counted above

abbrev pub create_triggers : Bytes → Bytes → List Trigger
create_triggers p q = Created p ∷ Children q ∷ []

-- of an ephemeral node: it joins the session's list; a list that is missing or full is a system error
abbrev pub create_owned : Bytes → Bytes → Bytes → ℕ → CountRec → ℤ → Option SessionRec → Choice
create_owned p q content now above session None = Refuse system_error
create_owned p q content now above session (Some nodes) =
    if nat_le (max_owned nodes.layout) (length nodes.paths) then Refuse system_error
    else Make (create_changes p q content now session (has_counts nodes.layout) above ++ put_owned session (with_node p nodes) ∷ []) (create_triggers p q) (result.Created p)

-- of a node that passed the tests of its path and its parent
abbrev pub create_here : Bytes → Bytes → Bytes → ℕ → CountRec → Bool → ℤ → Option SessionRec → Choice
create_here p q content now above ephemeral session nodes =
    if ephemeral then create_owned p q content now above session nodes
    else Make (create_changes p q content now (pos 0) true above) (create_triggers p q) (result.Created p)

-- by the parent's record and counts, whether the path is taken, and for an ephemeral node the record of the session's nodes
unfoldable pub create_choice : Bytes → Bytes → Bytes → ℕ → Bool → ℤ → Option SeenData → Option SeenCounts → Bool → Option SessionRec → Choice
create_choice p q content now ephemeral session None counts taken nodes = Refuse no_node
create_choice p q content now ephemeral session (Some up) None taken nodes = Refuse no_node
create_choice p q content now ephemeral session (Some up) (Some above) true nodes = Refuse node_exists
create_choice p q content now ephemeral session (Some up) (Some above) false nodes =
    if not (int_eq up.owner (pos 0)) then Refuse no_children_for_ephemerals
    else (if int_eq above.counts.creates max_creates then Refuse system_error
    else create_here p q content now above.counts ephemeral session nodes)
