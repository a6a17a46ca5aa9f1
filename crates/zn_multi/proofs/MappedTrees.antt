-- A tree with another node at each path.
use Rattle.std.proofs.Common.{◌≡◌, Bool, true, false, cond, ◌&&◌, length, List, [], ◌∷◌, map, Option, Some, None, refl, sym, ap, ◌∙◌, subst}
use Rattle.std.specs.Prelude.{T, is_some, option_map, pos}
use Rattle.std.specs.FinMap.{get, keys, entries, len, len-entries, entries_sorted, entries-from_sorted, from_sorted, get-entries, get-from_sorted}
use Rattle.std.specs.FinMap.Entries.{below_all, find, is_sorted}
use Rattle.std.specs.Ordering.{eq_by_cmp, is_lt, nat_cmp}
use Rattle.std.specs.Cmp.Lexicographic.{slice_cmp}
use Rattle.std.proofs.lemmas.List.{length-map}
use Rattle.zx_base.specs.Maps.{Bytes}
use Rattle.zx_base.proofs.MapLaws.{ext}
use Rattle.zk_model.specs.declared.node.Node.{Node}
use Rattle.zk_model.specs.Znodes.{Tree, new_node}

abbrev Entry : Type 0
Entry = Bytes × Node

module _ (f : Node → Node) where
  abbrev changed : Entry → Entry
  changed e = (e.0, f e.1)

  below-changed : (k : Bytes) (es : List Entry) → below_all (slice_cmp nat_cmp) k (map changed es) ≡ below_all (slice_cmp nat_cmp) k es
  below-changed k [] = refl
  below-changed k (e ∷ es) = ap (λ b. is_lt (slice_cmp nat_cmp k e.0) && b) (below-changed k es)

  sorted-changed : (es : List Entry) → is_sorted (slice_cmp nat_cmp) (map changed es) ≡ is_sorted (slice_cmp nat_cmp) es
  sorted-changed [] = refl
  sorted-changed (e ∷ es) = λ i. below-changed e.0 es i && sorted-changed es i

  map-cond : (b : Bool) (n : Node) (o : Option Node) → cond b (Some (f n)) (option_map f o) ≡ option_map f (cond b (Some n) o)
  map-cond true n o = refl
  map-cond false n o = refl

  find-changed : (q : Bytes) (es : List Entry) → find (slice_cmp nat_cmp) q (map changed es) ≡ option_map f (find (slice_cmp nat_cmp) q es)
  find-changed q [] = refl
  find-changed q (e ∷ es) = ap (λ (o : Option Node). cond (eq_by_cmp (slice_cmp nat_cmp) q e.0) (Some (f e.1)) o) (find-changed q es) ∙ map-cond (eq_by_cmp (slice_cmp nat_cmp) q e.0) e.1 (find (slice_cmp nat_cmp) q es)

  pub mapped : Tree → Tree
  mapped t = from_sorted (map changed (entries t))

  still_sorted : (t : Tree) → T (is_sorted (slice_cmp nat_cmp) (map changed (entries t)))
  still_sorted t = subst T (sym (sorted-changed (entries t))) (entries_sorted t)

  pub get-mapped : (t : Tree) (q : Bytes) → get (mapped t) q ≡ option_map f (get t q)
  unfolding mapped
  get-mapped t q = get-from_sorted (slice_cmp nat_cmp) (map changed (entries t)) q (still_sorted t) ∙ find-changed q (entries t) ∙ ap (option_map f) (sym (get-entries t q))

  entries-mapped : (t : Tree) → entries (mapped t) ≡ map changed (entries t)
  unfolding mapped
  entries-mapped t = entries-from_sorted (slice_cmp nat_cmp) (map changed (entries t)) (still_sorted t)

  same_firsts : (es : List Entry) → map (λ (e : Entry). e.0) (map changed es) ≡ map (λ (e : Entry). e.0) es
  same_firsts [] = refl
  same_firsts (e ∷ es) = ap (λ (l : List Bytes). e.0 ∷ l) (same_firsts es)

  pub keys-mapped : (t : Tree) → keys (mapped t) ≡ keys t
  keys-mapped t = ap (map (λ (e : Entry). e.0)) (entries-mapped t) ∙ same_firsts (entries t)

  pub len-mapped : (t : Tree) → len (mapped t) ≡ len t
  len-mapped t = len-entries (mapped t) ∙ ap (λ (l : List Entry). length l) (entries-mapped t) ∙ length-map (entries t) changed ∙ sym (len-entries t)

-- two trees with nodes at the same paths have the same list of paths
any_node : Node → Node
any_node n = new_node [] (pos 0) (pos 0) 0

map-any : (o : Option Node) (b : Bool) → is_some o ≡ b → option_map any_node o ≡ cond b (Some (new_node [] (pos 0) (pos 0) 0)) None
unfolding any_node
map-any None b e = ap (λ c. cond c (Some (new_node [] (pos 0) (pos 0) 0)) None) e
map-any (Some n) b e = ap (λ c. cond c (Some (new_node [] (pos 0) (pos 0) 0)) None) e

pub same-keys : (t u : Tree) → ((q : Bytes) → is_some (get t q) ≡ is_some (get u q)) → keys t ≡ keys u
same-keys t u same =
    sym (keys-mapped any_node t)
    ∙ ap keys (ext (mapped any_node t) (mapped any_node u) (λ q. get-mapped any_node t q ∙ map-any (get t q) _ refl ∙ ap (λ b. cond b (Some (new_node [] (pos 0) (pos 0) 0)) None) (same q) ∙ sym (map-any (get u q) _ refl) ∙ sym (get-mapped any_node u q)))
    ∙ keys-mapped any_node u
