-- The range of a node's children holds the data keys of the children, in the order of their paths.
use Rattle.std.proofs.Common.{◌≡◌, ◌≢◌, ℤ, ◌+◌, ◌<◌, Bool, true, false, cond, ◌&&◌, List, [], ◌∷◌, ◌++◌, Option, Some, None, refl, sym, ap, ◌∙◌, subst, drop, arith}
use Rattle.std.specs.Prelude.{T, map, IsTrue}
use Rattle.std.specs.Ordering.{nat_cmp, is_lt, is_eq, eq_by_cmp, ordering_then}
use Rattle.std.specs.declared.cmp.Ordering.{Ordering}
use Rattle.std.proofs.lemmas.Cmp.{tied_itself, nat_cmp_total}
use Rattle.std.proofs.lemmas.Map.Lookups.{exact_bytes}
use Rattle.std.specs.Cmp.Lexicographic.{slice_cmp, nat_list_cmp_total}
use Rattle.std.specs.FinMap.{get, keys, entries, entries_sorted, get-entries}
use Rattle.std.specs.FinMap.Entries.{below_all, is_sorted, find, same_entries}
use Rattle.std.specs.Map.{keys_of}
use Rattle.ev_types.specs.declared.answer.Kv.{Kv}
use Rattle.ev_types.specs.Ranges.{Keys, is_within}
use Rattle.zx_base.specs.Maps.{Bytes, Map}
use Rattle.zx_base.proofs.MapLaws.{get-retain}
use Rattle.zk_model.specs.declared.node.Node.{Node}
use Rattle.zk_model.specs.Paths.{is_child, depth, is_path}
use Rattle.zk_model.specs.Znodes.{below, children}
use Rattle.zk_model.proofs.Paths.{is_child-yes, parent-from_child}
use Rattle.zk_service.specs.States.{State, IsSound, IsBounded}
use Rattle.zk_service.proofs.Children.{get-below_child}
use Rattle.zn_layout.specs.Keys.{Key, HeadKey, DataKey, CountsKey, SessionKey, LeaseKey, front, key_bytes}
use Rattle.zn_layout.specs.StandsFor.{StandsFor, at}
use Rattle.zn_layout.specs.Listing.{child_front, children_from, children_end, children_found, HasValidPaths}
use Rattle.zn_layout.proofs.Lookups.{data_found, node_stored}
use Rattle.zn_layout.proofs.Paths.{path_short}
use Rattle.zn_layout.proofs.Ranges.{depth-length, is_within-counts, is_within-head, is_within-session, is_within-lease, is_within-child, is_within-front, begins-rest, child-key, child-from_range}
use Rattle.zx_base.proofs.Orders.{equal-from_is_eq}
use Rattle.zx_base.proofs.Options.{none_some}

-- ---- lists of keys in order are determined by what they contain
units : List Bytes → List (Bytes × Unit {0})
units [] = []
units (k ∷ ks) = (k, tt) ∷ units ks

abbrev order : Bytes → Bytes → Ordering
order = slice_cmp nat_cmp

below_units : {X : Type 0} (x : Bytes) (es : List (Bytes × X)) → below_all order x (units (keys_of es)) ≡ below_all order x es
unfolding units
below_units x [] = refl
below_units x (e ∷ es) = ap (λ b. is_lt (order x e.0) && b) (below_units x es)

sorted_units : {X : Type 0} (es : List (Bytes × X)) → is_sorted order (units (keys_of es)) ≡ is_sorted order es
unfolding units
sorted_units [] = refl
sorted_units (e ∷ es) = λ i. below_units e.0 es i && sorted_units es i

erased : {X : Type 0} → Option X → Option (Unit {0})
erased None = None
erased (Some x) = Some tt

cond_erased : {X : Type 0} (b : Bool) (x : X) (y : Option X) (z : Option (Unit {0})) → z ≡ erased y → cond b (Some tt) z ≡ erased (cond b (Some x) y)
unfolding erased
cond_erased true x y z h = refl
cond_erased false x y z h = h

find_units : {X : Type 0} (k : Bytes) (es : List (Bytes × X)) → find order k (units (keys_of es)) ≡ erased (find order k es)
unfolding units erased
find_units k [] = refl
find_units k (e ∷ es) = cond_erased (eq_by_cmp order k e.0) e.1 (find order k es) _ (find_units k es)

keys_units : (ks : List Bytes) → keys_of (units ks) ≡ ks
unfolding units
keys_units [] = refl
keys_units (k ∷ ks) = ap (λ (r : List Bytes). k ∷ r) (keys_units ks)

-- the same bytes in front of two lists keep their order
order_front : (before x y : Bytes) → order (before ++ x) (before ++ y) ≡ order x y
order_front [] x y = refl
order_front (a ∷ before) x y = ap (λ o. ordering_then o (order (before ++ x) (before ++ y))) (tied_itself nat_cmp_total a) ∙ order_front before x y

below_front : (before x : Bytes) (ks : List Bytes) → below_all order (before ++ x) (units (map (λ k. before ++ k) ks)) ≡ below_all order x (units ks)
unfolding units
below_front before x [] = refl
below_front before x (k ∷ ks) = λ i. is_lt (order_front before x k i) && below_front before x ks i

sorted_front : (before : Bytes) (ks : List Bytes) → is_sorted order (units (map (λ k. before ++ k) ks)) ≡ is_sorted order (units ks)
unfolding units
sorted_front before [] = refl
sorted_front before (k ∷ ks) = λ i. below_front before k ks i && sorted_front before ks i

find_front : (before r : Bytes) (ks : List Bytes) → find order (before ++ r) (units (map (λ k. before ++ k) ks)) ≡ find order r (units ks)
unfolding units
find_front before r [] = refl
find_front before r (k ∷ ks) = λ i. cond (is_eq (order_front before r k i)) (Some tt) (find_front before r ks i)

from_front : (before k : Bytes) (ks : List Bytes) → find order k (units (map (λ r. before ++ r) ks)) ≡ Some tt → (r : Bytes) × (k ≡ before ++ r)
unfolding units
from_front before k [] h = absurd (none_some h)
from_front before k (r ∷ ks) h = elim (is_eq (order k (before ++ r))) as (λ b. is_eq (order k (before ++ r)) ≡ b → cond b (Some tt) (find order k (units (map (λ r. before ++ r) ks))) ≡ Some tt → (r : Bytes) × (k ≡ before ++ r)) [
  | true ↦ λ e _. (r, exact_bytes k (before ++ r) (equal-from_is_eq _ e))
  | false ↦ λ _ h. from_front before k ks h
] refl h

both_ways : (a b : Option (Unit {0})) → (a ≡ Some tt → b ≡ Some tt) → (b ≡ Some tt → a ≡ Some tt) → a ≡ b
both_ways None None f g = refl
both_ways None (Some u) f g = g refl
both_ways (Some u) b f g = sym (f refl)

-- two lists of keys in order that contain the same keys
keys-same : (xs ys : List Bytes) → T (is_sorted order (units xs)) → T (is_sorted order (units ys)) → ((k : Bytes) → find order k (units xs) ≡ Some tt → find order k (units ys) ≡ Some tt) → ((k : Bytes) → find order k (units ys) ≡ Some tt → find order k (units xs) ≡ Some tt) → xs ≡ ys
keys-same xs ys sx sy f g = sym (keys_units xs) ∙ ap keys_of (same_entries order nat_list_cmp_total exact_bytes (units xs) (units ys) sx sy (λ k. both_ways _ _ (f k) (g k))) ∙ keys_units ys

-- the keys of a map
sorted_keys : {X : Type 0} (m : Map X) → T (is_sorted order (units (keys m)))
sorted_keys m = subst T (sym (sorted_units (entries m))) (entries_sorted m)

find_keys : {X : Type 0} (m : Map X) (k : Bytes) → find order k (units (keys m)) ≡ erased (get m k)
find_keys m k = find_units k (entries m) ∙ ap erased (sym (get-entries m k))

there : {X : Type 0} (m : Map X) (k : Bytes) (x : X) → get m k ≡ Some x → find order k (units (keys m)) ≡ Some tt
unfolding erased
there m k x h = find_keys m k ∙ ap erased h

from_erased : {X : Type 0} (o : Option X) → erased o ≡ Some tt → (x : X) × (o ≡ Some x)
unfolding erased
from_erased None h = absurd (none_some h)
from_erased (Some x) h = (x, refl)

from_there : {X : Type 0} (m : Map X) (k : Bytes) → find order k (units (keys m)) ≡ Some tt → (x : X) × (get m k ≡ Some x)
from_there m k h = from_erased (get m k) (sym (find_keys m k) ∙ h)

keep_true : {X : Type 0} (b : Bool) (o : Option X) (x : X) → cond b o None ≡ Some x → (b ≡ true) × (o ≡ Some x)
keep_true true o x h = (refl, h)
keep_true false o x h = absurd (none_some h)

-- ---- valid paths

pub valid-bounded : (first : ℤ) (s : State) → IsBounded first s → HasValidPaths s.tree
valid-bounded first s bounded p n there = (bounded.nodes p n there).valid

shallow : (p : Bytes) → IsTrue (is_path p) → depth p + 1 < 10000
shallow p h = omega (arith, depth-length p, path_short p h)

path_some : (p : Bytes) → IsTrue (is_path p) → p ≢ []
unfolding is_path
path_some p h e = let no : IsTrue (is_path []) = subst (λ (x : Bytes). IsTrue (is_path x)) e h in cc

below_front_all : (p k : Bytes) → is_within (children_from p) (children_end p) k ≡ true → (rest : Bytes) × (k ≡ front ++ rest)
below_front_all p k h = let r = begins-rest (children_from p) k (sym (is_within-front p k) ∙ h) in (drop 3 (children_from p ++ r.0), r.1)

-- ---- a range's keys

module _ (stored : Keys) (s : State) (p : Bytes) (stands : StandsFor stored s) (sound : IsSound s) (valid : HasValidPaths s.tree) (path : IsTrue (is_path p)) where
  abbrev in_range : Bytes → Bool
  in_range = is_within (children_from p) (children_end p)

  abbrev listed : List Bytes
  listed = map (λ q. child_front p ++ q) (children s.tree p)

  listed_kind : (k : Key) (kv : Kv) → in_range (key_bytes k) ≡ true → at stored k ≡ Some kv → find order (key_bytes k) (units listed) ≡ Some tt
  listed_kind HeadKey kv h e = let no = is_within-head p in cc
  listed_kind (CountsKey q) kv h e = let no = is_within-counts p q in cc
  listed_kind (SessionKey id) kv h e = let no = is_within-session p id in cc
  listed_kind (LeaseKey id) kv h e = let no = is_within-lease p id in cc
  listed_kind (DataKey q) kv h e =
      let node = data_found stored s stands q kv e in
      let low : depth q < 10000 = omega (arith, shallow q (valid q node.node node.there)) in
      let child = child-from_range s.tree p q node.node sound.parents (path_some p path) low (shallow p path) node.there h in
      subst (λ (x : Bytes). find order x (units listed) ≡ Some tt) (sym (child-key p q child))
      (find_front (child_front p) q (children s.tree p) ∙ there (below s.tree p) q node.node (get-below_child s.tree p q (is_child-yes q p child) ∙ node.there))

  is_listed : (k : Bytes) → find order k (units (keys (children_found stored p))) ≡ Some tt → find order k (units listed) ≡ Some tt
  is_listed k h =
      let kv = from_there (children_found stored p) k h in
      let parts = keep_true (in_range k) (get stored k) kv.0 (sym (get-retain stored in_range k) ∙ kv.1) in
      let rest = below_front_all p k parts.0 in
      let key = stands.layout.no_other rest.0 kv.0 (subst (λ (x : Bytes). get stored x ≡ Some kv.0) rest.1 parts.1) in
      let is : k ≡ key_bytes key.0 = rest.1 ∙ key.1 in
      subst (λ (x : Bytes). find order x (units listed) ≡ Some tt) (sym is)
      (listed_kind key.0 kv.0 (subst (λ (x : Bytes). in_range x ≡ true) is parts.0) (subst (λ (x : Bytes). get stored x ≡ Some kv.0) is parts.1))

  child_of_below : (r : Bytes) (node : Node) → get (below s.tree p) r ≡ Some node → (is_child p r ≡ true) × (get s.tree r ≡ Some node)
  child_of_below r node h = keep_true (is_child p r) (get s.tree r) node (sym (get-retain s.tree (is_child p) r) ∙ h)

  is_found : (r : Bytes) (node : Node) → get (below s.tree p) r ≡ Some node → find order (child_front p ++ r) (units (keys (children_found stored p))) ≡ Some tt
  is_found r node h =
      let parts = child_of_below r node h in
      let child = parent-from_child r p parts.0 in
      let kv = node_stored stored s stands r node parts.1 in
      subst (λ (x : Bytes). find order x (units (keys (children_found stored p))) ≡ Some tt) (child-key p r child)
      (there (children_found stored p) (key_bytes (DataKey r)) kv.kv (get-retain stored in_range (key_bytes (DataKey r)) ∙ ap (λ b. cond b (at stored (DataKey r)) None) (is_within-child p r child) ∙ kv.there))

  all_found : (k : Bytes) → find order k (units listed) ≡ Some tt → find order k (units (keys (children_found stored p))) ≡ Some tt
  all_found k h =
      let r = from_front (child_front p) k (children s.tree p) h in
      let inside : find order r.0 (units (children s.tree p)) ≡ Some tt = sym (find_front (child_front p) r.0 (children s.tree p)) ∙ subst (λ (x : Bytes). find order x (units listed) ≡ Some tt) r.1 h in
      let node = from_there (below s.tree p) r.0 inside in
      subst (λ (x : Bytes). find order x (units (keys (children_found stored p))) ≡ Some tt) (sym r.1) (is_found r.0 node.0 node.1)

  -- the range's keys, in their order, are the front before the children's paths, in theirs
  pub children_listed : keys (children_found stored p) ≡ map (λ q. child_front p ++ q) (children s.tree p)
  children_listed = keys-same _ _ (sorted_keys (children_found stored p)) (subst T (sym (sorted_front (child_front p) (children s.tree p))) (sorted_keys (below s.tree p))) is_listed all_found
