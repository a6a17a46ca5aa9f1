-- A setWatches on the tree is what comes of the paths as they were found.
use Rattle.std.proofs.Common.{◌≡◌, ℕ, ℤ, Bool, true, false, cond, List, [], ◌∷◌, ◌++◌, drop, length, Option, Some, None, refl, sym, ap, ◌∙◌, arith}
use Rattle.std.specs.Prelude.{map, filter, nat_lt, option_map, if◌then◌else◌}
use Rattle.std.proofs.lemmas.Bool.Decides.{nat_tests}
use Rattle.std.specs.List.{flat_map}
use Rattle.std.specs.FinMap.{get}
use Rattle.ev_types.specs.declared.answer.Kv.{Kv}
use Rattle.zk_jute.specs.JuteReading.{front_long}
use Rattle.zx_base.specs.Maps.{Bytes}
use Rattle.zk_model.specs.declared.node.Node.{Node}
use Rattle.zk_model.specs.declared.request.Request.TheVariants as req
use Rattle.zk_model.specs.Paths.{is_path}
use Rattle.zk_model.specs.Watches.{valid_at}
use Rattle.zk_model.specs.Znodes.{num_children}
use Rattle.zk_service.specs.States.{State}
use Rattle.zn_layout.specs.Keys.{Key, DataKey, CountsKey, key_bytes}
use Rattle.zn_layout.specs.StandsFor.{czxid_of, data_record, is_counted_in, stored_of, CountsMean, DataMeans, IsData}
use Rattle.zn_layout.proofs.Lookups.{stored}
use Rattle.zn_layout.proofs.Nodes.{has_numbers, node_numbers, node_value-is, node_value-length}
use Rattle.zn_layout.proofs.Numbers.{long_back}
use Rattle.zn_view.specs.declared.plan.Who.{Who}
use Rattle.zn_view.specs.Seen.{View, seen}
use Rattle.zn_view.specs.Views.{IsOf, reads, about_path, valid}
use Rattle.zw_watch.specs.declared.seen_path.SeenPath.{SeenPath}
use Rattle.zw_watch.specs.declared.seen_path.WatchList.TheVariants.{Datas, Exists, Children}
use Rattle.zw_watch.specs.SeenPaths.{see_paths, unseen, path_on, paths_on}
use Rattle.zw_watch.proofs.SetWatches.{set_watches-paths}
use Rattle.zn_view.specs.Needs.{LacksNothing}
use Rattle.zn_view.specs.Lookups.{found_at}
use Rattle.zn_reads.specs.Found.{HasLooked}
use Rattle.zn_reads.specs.SeenPaths.{children_changed, made_at, put_at, seen_path, seen_paths, IsSetBy}
use Rattle.zn_reads.proofs.Agreeing.{found-means}
use Rattle.zn_reads.proofs.Looking.{looked-reads}

-- ---- when a node's data and children changed, by what was found

data_put : (n : Option Node) (o : Option Kv) → DataMeans n (stored_of o) → put_at o ≡ option_map (λ (x : Node). x.mzxid) n
data_put None None h = refl
data_put None (Some kv) h = absurd h
data_put (Some n) None h = absurd h
data_put (Some n) (Some kv) h = ap (λ (z : ℤ). Some z) (sym h.changed)

-- the czxid of a node is in its record
made_put : (kv : Kv) (n : Node) → IsData (stored kv) n → made_at kv ≡ Some n.czxid
made_put kv n of_data =
    let r = data_record n of_data.stored in
    let value : kv.value ≡ 1 ∷ node_numbers r = of_data.value ∙ node_value-is r in
    let long : nat_lt (length kv.value) 9 ≡ false = let e = ap length value in let numbers = node_value-length r in grind (arith, nat_tests) in
    let first : front_long (drop 1 kv.value) ≡ of_data.stored = ap (λ (v : Bytes). front_long (drop 1 v)) value ∙ long_back of_data.stored _ (has_numbers r of_data.fits).czxid in
    ap (λ b. option_map (λ (c : ℤ). czxid_of c kv.mod_revision) (if b then None else Some (front_long (drop 1 kv.value)))) long
    ∙ ap (λ (c : ℤ). Some (czxid_of c kv.mod_revision)) first ∙ ap (λ (c : ℤ). Some c) (sym of_data.made)

children_put : (n : Option Node) (k : ℕ) (counted : Bool) (own counts : Option Kv) → DataMeans n (stored_of own) → CountsMean n k counted (stored_of counts) → children_changed own counts ≡ option_map (λ (x : Node). x.pzxid) n
children_put None k counted None None own_data h = refl
children_put None k counted None (Some kv) own_data h = absurd h
children_put None k counted (Some own) counts own_data h = absurd own_data
children_put (Some n) k counted None counts own_data h = absurd own_data
children_put (Some n) k true (Some own) None own_data h = absurd h
children_put (Some n) k true (Some own) (Some kv) own_data h = ap (λ (z : ℤ). Some z) (sym h.pzxid)
children_put (Some n) k false (Some own) None own_data h = made_put own n own_data ∙ ap (λ (z : ℤ). Some z) (sym h.pzxid)
children_put (Some n) k false (Some own) (Some kv) own_data h = absurd h

-- when it changed, at a path that may not be valid
if_valid : (b : Bool) (o : Option ℤ) (f : Node → ℤ) (n : Option Node) → (b ≡ true → o ≡ option_map f n) → (if b then o else None) ≡ option_map f (if b then n else None)
if_valid true o f n h = h refl
if_valid false o f n h = refl

-- ---- many paths

-- a fact of each
abbrev Each : (Bytes → Type 0) → List Bytes → Type 0
Each P [] = Unit {0}
Each P (p ∷ ps) = P p × Each P ps

each-map : (P Q : Bytes → Type 0) (ps : List Bytes) → ((p : Bytes) → P p → Q p) → Each P ps → Each Q ps
each-map P Q [] f h = tt
each-map P Q (p ∷ ps) f h = (f p h.0, each-map P Q ps f h.1)

map_same : (f g : Bytes → SeenPath) (ps : List Bytes) → Each (λ (p : Bytes). f p ≡ g p) ps → map f ps ≡ map g ps
map_same f g [] h = refl
map_same f g (p ∷ ps) h = λ i. h.0 i ∷ map_same f g ps h.1 i

-- ---- each path of the three lists

looked_append : (v : View) (ks ls : List Key) → HasLooked v (ks ++ ls) → HasLooked v ks × HasLooked v ls
looked_append v [] ls h = (tt, h)
looked_append v (k ∷ ks) ls h = let rest = looked_append v ks ls h.1 in ((h.0, rest.0), rest.1)

module _ (v : View) (s : State) (of : IsOf v s) where
  -- the key of a valid path was looked up
  abbrev IsLooked : (Bytes → Key) → Bytes → Type 0
  IsLooked key p = is_path p ≡ true → seen v (key_bytes (key p)) ≡ None → ⊥

  each_looked : (key : Bytes → Key) (ps : List Bytes) → HasLooked v (map key (valid ps)) → Each (IsLooked key) ps
  each_looked key [] h = tt
  each_looked key (p ∷ ps) h = elim (is_path p) as (λ b. is_path p ≡ b → HasLooked v (map key (cond b (p ∷ filter is_path ps) (filter is_path ps))) → IsLooked key p × Each (IsLooked key) ps) [
    | true ↦ λ e h. (λ _. h.0, each_looked key ps h.1)
    | false ↦ λ e h. (λ t. absurd (cc), each_looked key ps h)
  ] refl h

  abbrev AreLooked : Bytes → Type 0
  AreLooked p = IsLooked DataKey p × IsLooked CountsKey p

  each_about : (ps : List Bytes) → HasLooked v (flat_map about_path (valid ps)) → Each AreLooked ps
  each_about [] h = tt
  each_about (p ∷ ps) h = elim (is_path p) as (λ b. is_path p ≡ b → HasLooked v (flat_map about_path (cond b (p ∷ filter is_path ps) (filter is_path ps))) → AreLooked p × Each AreLooked ps) [
    | true ↦ λ e h. ((λ _. h.0, λ _. h.1.0), each_about ps h.1.1)
    | false ↦ λ e h. ((λ t. absurd (cc), λ t. absurd (cc)), each_about ps h)
  ] refl h

  data_at : (p : Bytes) → IsLooked DataKey p → (if is_path p then put_at (found_at v (DataKey p)) else None) ≡ option_map (λ (x : Node). x.mzxid) (valid_at p s.tree)
  data_at p looked = if_valid (is_path p) _ (λ (x : Node). x.mzxid) (get s.tree p) (λ e. data_put (get s.tree p) (found_at v (DataKey p)) (found-means v s (DataKey p) of (looked e)))

  children_at : (p : Bytes) → AreLooked p → (if is_path p then children_changed (found_at v (DataKey p)) (found_at v (CountsKey p)) else None) ≡ option_map (λ (x : Node). x.pzxid) (valid_at p s.tree)
  children_at p looked = if_valid (is_path p) _ (λ (x : Node). x.pzxid) (get s.tree p) (λ e. children_put (get s.tree p) (num_children s.tree p) (is_counted_in s (get s.tree p)) (found_at v (DataKey p)) (found_at v (CountsKey p))
      (found-means v s (DataKey p) of (looked.0 e)) (found-means v s (CountsKey p) of (looked.1 e)))

  datas_seen : (ps : List Bytes) → Each (IsLooked DataKey) ps → map (seen_path v Datas) ps ≡ map (path_on s.tree Datas) ps
  datas_seen ps looked = map_same (seen_path v Datas) (path_on s.tree Datas) ps (each-map (IsLooked DataKey) _ ps (λ p h i. record { path = p; list = Datas; at = data_at p h i }) looked)

  exists_seen : (ps : List Bytes) → Each (IsLooked DataKey) ps → map (seen_path v Exists) ps ≡ map (path_on s.tree Exists) ps
  exists_seen ps looked = map_same (seen_path v Exists) (path_on s.tree Exists) ps (each-map (IsLooked DataKey) _ ps (λ p h i. record { path = p; list = Exists; at = data_at p h i }) looked)

  children_seen : (ps : List Bytes) → Each AreLooked ps → map (seen_path v Children) ps ≡ map (path_on s.tree Children) ps
  children_seen ps looked = map_same (seen_path v Children) (path_on s.tree Children) ps (each-map AreLooked _ ps (λ p h i. record { path = p; list = Children; at = children_at p h i }) looked)

-- ---- all of them

looked_lists : (who : Who) (v : View) (since : ℤ) (datas exists children : List Bytes) → LacksNothing (req.SetWatches since exists datas children) who v → HasLooked v (map DataKey (valid datas) ++ map DataKey (valid exists) ++ flat_map about_path (valid children))
unfolding reads
looked_lists who v since datas exists children whole = looked-reads (req.SetWatches since exists datas children) who v whole

pub set_by : (v : View) (datas exists children : List Bytes) → IsSetBy v datas exists children (seen_paths v datas exists children)
set_by v datas exists children = λ who since whole s of w.
    let looked = looked_append v (map DataKey (valid datas) ++ map DataKey (valid exists)) (flat_map about_path (valid children)) (looked_lists who v since datas exists children whole) in
    let first = looked_append v (map DataKey (valid datas)) (map DataKey (valid exists)) looked.0 in
    let one = datas_seen v s of datas (each_looked v s of DataKey datas first.0) in
    let two = exists_seen v s of exists (each_looked v s of DataKey exists first.1) in
    let three = children_seen v s of children (each_about v s of children looked.1) in
    let seen_there : seen_paths v datas exists children ≡ paths_on s.tree datas exists children = λ i. one i ++ two i ++ three i in
    set_watches-paths s.tree since datas exists children w ∙ ap (see_paths since (unseen w)) (sym seen_there)
