-- Paths in groups: the children of each node, and the nodes of each session.
use Rattle.std.specs.Prelude.{◌≡◌, ℤ, cond, Option, Some, None}
use Rattle.std.specs.Ordering.{int_cmp, int_eq}
use Rattle.std.specs.BTreeMap.{BTreeMap}
use Rattle.std.specs.BTreeMap as btree
use Rattle.std.specs.FinMap.{empty, get, keys}
use Rattle.zx_base.specs.Maps.{Bytes, Map, same}
use Rattle.zk_model.specs.Znodes.{Tree, children, owned}

abbrev pub Group : Type 0
Group = Map (Unit {0})

abbrev pub Families : Type 0
Families = Map Group

abbrev pub Owners : Type 0
Owners = BTreeMap ℤ Group

-- a group that is not kept has no paths
abbrev pub group_of : Option Group → Group
group_of None = empty
group_of (Some g) = g

abbrev pub family : Families → Bytes → Group
family m p = group_of (get m p)

abbrev pub owned_group : Owners → ℤ → Group
owned_group m id = group_of (btree.get int_cmp m id)

abbrev pub HasFamilies : Tree → Families → Type 0
HasFamilies t m = (p : Bytes) → keys (family m p) ≡ children t p

abbrev pub HasOwners : Tree → Owners → Type 0
HasOwners t m = (id : ℤ) → keys (owned_group m id) ≡ owned t id

-- n is m with one family, or the group of one session, changed
abbrev pub HasFamily : Families → Families → Bytes → Group → Type 0
HasFamily m n q g = (p : Bytes) → family n p ≡ cond (same p q) g (family m p)

abbrev pub HasOwner : Owners → Owners → ℤ → Group → Type 0
HasOwner m n s g = (id : ℤ) → owned_group n id ≡ cond (int_eq s id) g (owned_group m id)
