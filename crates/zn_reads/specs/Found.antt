-- What was found under a key, and what two records show of a node.
use Rattle.std.specs.Prelude.{◌≡◌, ℕ, ℤ, pos, nat_abs, List, [], ◌∷◌, Option, Some, None, option_map}
use Rattle.std.specs.FinMap.{get}
use Rattle.zk_model.specs.declared.node.Node.{Node}
use Rattle.zk_model.specs.declared.node.Stat.{Stat}
use Rattle.zk_model.specs.Znodes.{stat_of, child_names, cversion}
use Rattle.zk_service.specs.States.{State, IsSound}
use Rattle.zx_base.specs.Maps.{Bytes}
use Rattle.zn_layout.specs.declared.test.NodeNumbers.{NodeNumbers}
use Rattle.zn_layout.specs.declared.record.CountRec.{CountRec}
use Rattle.ev_types.specs.declared.answer.Kv.{Kv}
use Rattle.zn_layout.specs.Begin.{first_counts}
use Rattle.zn_layout.specs.Keys.{Key, DataKey}
use Rattle.zn_layout.specs.Listing.{HasValidPaths}
use Rattle.zn_layout.specs.StandsFor.{czxid_of}
use Rattle.zn_view.specs.Lookups.{HasSeen, IsCountsIn}
use Rattle.zn_view.specs.Seen.{View, listed}
use Rattle.zn_view.specs.Views.{IsOf, about_path}

-- each of these keys was looked up
abbrev pub HasLooked : View → List Key → Type 0
HasLooked v [] = Unit {0}
HasLooked v (k ∷ ks) = HasSeen v k × HasLooked v ks

-- what a client is shown of a node, by its numbers, the length of its data, the counts of its children, and the revisions at which
-- its two keys were put
abbrev pub stat_by : NodeNumbers → ℕ → ℤ → CountRec → ℤ → Stat
stat_by d content_length data_revision c counts_revision = record {
  czxid = czxid_of d.czxid data_revision;
  mzxid = data_revision;
  ctime = d.ctime;
  mtime = d.mtime;
  version = d.version;
  cversion = cversion c.creates (nat_abs c.children);
  aversion = pos 0;
  ephemeral_owner = d.owner;
  data_length = pos content_length;
  num_children = c.children;
  pzxid = counts_revision;
}

-- the counts of a node and the revision of their last change, by the record that was found of them: without one the node has had no
-- children since its create
abbrev pub AreCountsBy : NodeNumbers → ℤ → Option Kv → CountRec → ℤ → Type 0
AreCountsBy d revision None c changed = (c ≡ first_counts) × (changed ≡ czxid_of d.czxid revision)
AreCountsBy d revision (Some kv) c changed = IsCountsIn kv c × (changed ≡ kv.mod_revision)

-- a record of counts was found, and it is none
abbrev pub AreNoCounts : Option Kv → Type 0
AreNoCounts None = ⊥
AreNoCounts (Some kv) = (c : CountRec) → IsCountsIn kv c → ⊥

-- what a client is shown of the node at a path
abbrev pub stat_in : State → Bytes → Option Stat
stat_in s p = option_map (stat_of s.tree p) (get s.tree p)

-- where the node's two keys were looked up, this is its stat in each state that the view is of
abbrev pub IsStatAt : View → Bytes → Option Stat → Type 0
IsStatAt v p st = HasLooked v (about_path p) → (s : State) → IsOf v s → stat_in s p ≡ st

-- where the data key was looked up, this is the node's data in each state that the view is of and that has the node
abbrev pub IsContentAt : View → Bytes → Bytes → Type 0
IsContentAt v p content = HasLooked v (DataKey p ∷ []) → (s : State) → IsOf v s → (n : Node) → get s.tree p ≡ Some n → content ≡ n.content

-- the version of the data of the node at a path
abbrev pub version_in : State → Bytes → Option ℤ
version_in s p = option_map (λ (n : Node). n.version) (get s.tree p)

-- where the data key was looked up, this is the data's version in each state that the view is of
abbrev pub IsVersionAt : View → Bytes → Option ℤ → Type 0
IsVersionAt v p version = HasLooked v (DataKey p ∷ []) → (s : State) → IsOf v s → version_in s p ≡ version

-- where the children were listed, these are their names in each sound state with valid paths that the view is of
abbrev pub AreNamesAt : View → Bytes → List Bytes → Type 0
AreNamesAt v p names = (listed v p ≡ None → ⊥) → (s : State) → IsSound s → HasValidPaths s.tree → IsOf v s → names ≡ child_names s.tree p
