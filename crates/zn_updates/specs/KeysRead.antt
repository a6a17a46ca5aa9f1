-- The keys that each request looks up.
use Rattle.std.specs.Prelude.{◌≡◌, ℕ, ℤ, pos, nat_abs, Bool, List, [], ◌∷◌, ◌++◌, Option, Some, None, map, if◌then◌else◌}
use Rattle.std.specs.Ordering.{int_eq}
use Rattle.ev_types.specs.declared.answer.Kv.{Kv}
use Rattle.zk_model.specs.Paths.{sequence_path}
use Rattle.zx_base.specs.Maps.{Bytes}
use Rattle.zn_layout.specs.declared.record.NodeRec.{NodeRec}
use Rattle.zn_layout.specs.Keys.{Key, HeadKey, DataKey, SessionKey, LeaseKey, key_bytes}
use Rattle.zn_layout.specs.Reading.{IsValueOf}
use Rattle.zn_layout.specs.Records.{node_value, IsNodeRec}
use Rattle.zn_view.specs.declared.want.Want.{Want}
use Rattle.zn_view.specs.Lacking.{lacking}
use Rattle.zn_view.specs.Needs.{IsCreatesSeen}
use Rattle.zn_view.specs.Seen.{View}
use Rattle.zn_view.specs.Views.{about_path, about_parent, counts_of_parent}

-- the keys that every request looks up: the head, and the record of the session's life
abbrev pub start_keys : ℤ → List Key
start_keys id = HeadKey ∷ LeaseKey (nat_abs id) ∷ []

-- the key of the list of an owner's nodes; an owner of 0 is none
abbrev pub owner_nodes : ℤ → List Key
owner_nodes owner = if int_eq owner (pos 0) then [] else SessionKey (nat_abs owner) ∷ []

-- the owner that a view saw of a node: 0 where the node is not there or was not looked up
abbrev pub IsOwnerSeen : Option (Option Kv) → ℤ → Type 0
IsOwnerSeen None owner = owner ≡ pos 0
IsOwnerSeen (Some None) owner = owner ≡ pos 0
IsOwnerSeen (Some (Some kv)) owner = (r : NodeRec) × IsValueOf node_value IsNodeRec kv.value r × (owner ≡ r.owner)

abbrev pub set_data_keys : Bytes → ℤ → List Key
set_data_keys p id = start_keys id ++ about_path p

-- a delete of p below q, or of p without a parent, by its owner
abbrev pub delete_keys : Bytes → Option Bytes → ℤ → ℤ → List Key
delete_keys p q id owner = start_keys id ++ ((about_path p ++ counts_of_parent q) ++ owner_nodes owner)

-- the creates that a view saw of a node's parent, none where the node has no parent or the view saw none
abbrev pub IsParentCreates : View → Option Bytes → Option ℕ → Type 0
IsParentCreates v None creates = creates ≡ None
IsParentCreates v (Some q) creates = IsCreatesSeen v q creates

-- the key of a sequence node's record, once the creates of its parent are known
abbrev pub numbered_at : Bytes → Option ℕ → List Key
numbered_at path None = []
numbered_at path (Some n) = DataKey (sequence_path path n) ∷ []

abbrev pub numbered : Bool → Bytes → Option ℕ → List Key
numbered sequential path creates = if sequential then numbered_at path creates else []

-- the key of the record of a new node that is not a sequence node
abbrev pub plain_data : Bool → Bytes → List Key
plain_data sequential path = if sequential then [] else DataKey path ∷ []

-- the key of the list of the session's nodes, for an ephemeral node
abbrev pub session_nodes : Bool → ℤ → List Key
session_nodes ephemeral id = if ephemeral then SessionKey (nat_abs id) ∷ [] else []

-- these keys, with those of a new node and of its session
abbrev pub with_own : List Bytes → Bool → Bool → Bytes → ℤ → Option ℕ → List Bytes
with_own ks sequential ephemeral path id creates =
    ((ks ++ map key_bytes (plain_data sequential path)) ++ map key_bytes (session_nodes ephemeral id)) ++ map key_bytes (numbered sequential path creates)

abbrev pub create_keys : Bool → Bool → Bytes → Option Bytes → ℤ → Option ℕ → List Key
create_keys sequential ephemeral path q id creates =
    start_keys id ++ (((about_parent q ++ plain_data sequential path) ++ session_nodes ephemeral id) ++ numbered sequential path creates)

-- these are the wants of a create's keys, by the creates that the view saw of its parent
abbrev pub AreCreateWants : View → Bool → Bool → Bytes → Option Bytes → ℤ → List Want → Type 0
AreCreateWants v sequential ephemeral path q id ws =
    (creates : Option ℕ) × IsParentCreates v q creates × (ws ≡ lacking v (map key_bytes (create_keys sequential ephemeral path q id creates)))
