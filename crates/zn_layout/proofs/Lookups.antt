-- What one key says of the state that its keys stand for.
use Rattle.std.proofs.Common.{◌≡◌, ℕ, Bool, true, false, Option, Some, None, refl, sym, ◌∙◌, subst}
use Rattle.std.specs.FinMap.{get}
use Rattle.ev_types.specs.declared.answer.Kv.{Kv}
use Rattle.ev_types.specs.Ranges.{Keys}
use Rattle.zk_model.specs.declared.node.Node.{Node}
use Rattle.zk_model.specs.Znodes.{num_children}
use Rattle.zk_service.specs.States.{State}
use Rattle.zx_base.specs.Maps.{Bytes}
use Rattle.zn_layout.specs.declared.record.NodeRec.{NodeRec}
use Rattle.zn_layout.specs.declared.record.CountRec.{CountRec}
use Rattle.zn_layout.specs.Keys.{HeadKey, DataKey, CountsKey}
use Rattle.zn_layout.specs.Records.{node_value, counts_value, IsNodeRec, IsCountRec}
use Rattle.zn_layout.specs.Reading.{IsValueOf}
use Rattle.zn_layout.specs.StandsFor.{Stored, stored_of, at, data_record, counts_record, IsData, IsCounts, is_counted_in, DataMeans, CountsMean, IsHead, HeadMeans, StandsFor}
use Rattle.zn_layout.proofs.Nodes.{node_value-injective, counts_value-injective}

-- what matters of a key that is there
abbrev pub stored : Kv → Stored
stored kv = record { value = kv.value; revision = kv.mod_revision; lease = kv.lease }

-- ---- a node's data

-- the node is there, and this is its data
pub record FoundNode (s : State) (p : Bytes) (kv : Kv) : Type 0 where
  pub node : Node
  pub there : get s.tree p ≡ Some node
  pub is : IsData (stored kv) node

-- the node's data is there
pub record StoredNode (keys : Keys) (p : Bytes) (node : Node) : Type 0 where
  pub kv : Kv
  pub there : at keys (DataKey p) ≡ Some kv
  pub is : IsData (stored kv) node

found_node : (s : State) (p : Bytes) (kv : Kv) (n : Option Node) → get s.tree p ≡ n → DataMeans n (Some (stored kv)) → FoundNode s p kv
found_node s p kv None e h = absurd h
found_node s p kv (Some n) e h = record { node = n; there = e; is = h }

no_node : (n : Option Node) → DataMeans n None → n ≡ None
no_node None h = refl
no_node (Some n) h = absurd h

stored_node : (keys : Keys) (p : Bytes) (node : Node) (o : Option Kv) → at keys (DataKey p) ≡ o → DataMeans (Some node) (stored_of o) → StoredNode keys p node
stored_node keys p node None e h = absurd h
stored_node keys p node (Some kv) e h = record { kv = kv; there = e; is = h }

no_data : (o : Option Kv) → DataMeans None (stored_of o) → o ≡ None
no_data None h = refl
no_data (Some kv) h = absurd h

module _ (keys : Keys) (s : State) (stands : StandsFor keys s) (p : Bytes) where
  pub data_found : (kv : Kv) → at keys (DataKey p) ≡ Some kv → FoundNode s p kv
  data_found kv e = found_node s p kv (get s.tree p) refl (subst (λ (o : Option Kv). DataMeans (get s.tree p) (stored_of o)) e (stands.each (DataKey p)))

  pub data_absent : at keys (DataKey p) ≡ None → get s.tree p ≡ None
  data_absent e = no_node (get s.tree p) (subst (λ (o : Option Kv). DataMeans (get s.tree p) (stored_of o)) e (stands.each (DataKey p)))

  pub node_stored : (n : Node) → get s.tree p ≡ Some n → StoredNode keys p n
  node_stored n e = stored_node keys p n (at keys (DataKey p)) refl (subst (λ (o : Option Node). DataMeans o (stored_of (at keys (DataKey p)))) e (stands.each (DataKey p)))

  pub node_absent : get s.tree p ≡ None → at keys (DataKey p) ≡ None
  node_absent e = no_data (at keys (DataKey p)) (subst (λ (o : Option Node). DataMeans o (stored_of (at keys (DataKey p)))) e (stands.each (DataKey p)))

-- what is read of it is the node's record
pub data_read : (o : Stored) (n : Node) (r : NodeRec) (is : IsData o n) → IsValueOf node_value IsNodeRec o.value r → r ≡ data_record n is.stored
data_read o n r is read = node_value-injective r (data_record n is.stored) read.0 is.fits (sym read.1 ∙ is.value)

-- ---- the counts of its children

pub record FoundCounts (s : State) (p : Bytes) (kv : Kv) : Type 0 where
  pub node : Node
  pub there : get s.tree p ≡ Some node
  pub counted : is_counted_in s (Some node) ≡ true
  pub is : IsCounts (stored kv) node (num_children s.tree p)

-- what the state says of a node's counts, by whether it has a record of them
abbrev CountsOf : State → Bytes → Option Node → Bool → Option Kv → Type 0
CountsOf s p n b o = CountsMean n (num_children s.tree p) b (stored_of o)

found_counts : (s : State) (p : Bytes) (kv : Kv) (n : Option Node) (b : Bool) → get s.tree p ≡ n → is_counted_in s n ≡ b → CountsOf s p n b (Some kv) → FoundCounts s p kv
found_counts s p kv None b e d h = absurd h
found_counts s p kv (Some n) true e d h = record { node = n; there = e; counted = d; is = h }
found_counts s p kv (Some n) false e d h = absurd h

no_counts_there : (s : State) (p : Bytes) (b : Bool) (o : Option Kv) → CountsOf s p None b o → o ≡ None
no_counts_there s p b None h = refl
no_counts_there s p b (Some kv) h = absurd h

module _ (keys : Keys) (s : State) (stands : StandsFor keys s) (p : Bytes) where
  pub counts_found : (kv : Kv) → at keys (CountsKey p) ≡ Some kv → FoundCounts s p kv
  counts_found kv e = found_counts s p kv (get s.tree p) (is_counted_in s (get s.tree p)) refl refl (subst (CountsOf s p (get s.tree p) (is_counted_in s (get s.tree p))) e (stands.each (CountsKey p)))

  pub uncounted : get s.tree p ≡ None → at keys (CountsKey p) ≡ None
  uncounted e = no_counts_there s p (is_counted_in s None) (at keys (CountsKey p)) (subst (λ (o : Option Node). CountsOf s p o (is_counted_in s o) (at keys (CountsKey p))) e (stands.each (CountsKey p)))

pub counts_read : (o : Stored) (n : Node) (children : ℕ) (r : CountRec) → IsCounts o n children → IsValueOf counts_value IsCountRec o.value r → r ≡ counts_record n children
counts_read o n children r is read = counts_value-injective r (counts_record n children) read.0 is.fits (sym read.1 ∙ is.value)

-- ---- the head

pub record FoundHead (keys : Keys) (s : State) : Type 0 where
  pub kv : Kv
  pub there : at keys HeadKey ≡ Some kv
  pub is : IsHead kv s

found_head : (keys : Keys) (s : State) (o : Option Kv) → at keys HeadKey ≡ o → HeadMeans o s → FoundHead keys s
found_head keys s None e h = absurd h
found_head keys s (Some kv) e h = record { kv = kv; there = e; is = h }

-- the head is always there
pub head_found : (keys : Keys) (s : State) → StandsFor keys s → FoundHead keys s
head_found keys s stands = found_head keys s (at keys HeadKey) refl stands.head
