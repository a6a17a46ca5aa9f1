-- An ordered map of std from paths' bytes to entries, as the entries in order.
use Rattle.std.proofs.Common.{◌≡◌, Bool, true, false, cond, not, Option, Some, List, [], ◌∷◌, length, map, refl, sym, ap, ◌∙◌, subst, option_map}
use Rattle.std.proofs.lemmas.Bool.{and_parts}
use Rattle.std.proofs.lemmas.List.{length-map}
use Rattle.std.specs.declared.cmp.Ordering.{Ordering}
use Rattle.std.specs.declared.cmp.Ordering.TheVariants.{Less, Equal, Greater}
use Rattle.std.specs.Ordering.{is_eq, is_lt, match_ordering}
use Rattle.std.specs.Cmp.Lexicographic.{nat_list_cmp_total}
use Rattle.std.proofs.lemmas.Cmp.{tied_itself}
use Rattle.std.proofs.lemmas.Map.Lookups.{exact_bytes}
use Rattle.std.specs.List.{AllByRecursion}
use Rattle.std.specs.Map.{values_of, lookup, remove_entry}
use Rattle.std.specs.BTreeMap.{insert_entry, is_at}
use Rattle.std.specs.FinMap.{get, insert, remove, len, keys}
use Rattle.std.specs.FinMap.Entries.{put, find, below_all, is_sorted}
use Rattle.zx_base.specs.Maps.{Bytes, Map, same}
use Rattle.zx_base.proofs.MapLaws.{same-refl, same-false}
use Rattle.zk_machine.specs.Entries.{order, Entries, map_of}
use Rattle.zk_machine.proofs.EntryLaws.{get-map, put-less, put-equal, put-greater, others, sorted-put, sorted-where, insert-map, remove-map, keys-map, len-map}

module _ {X : Type 0} where
  unequal : (path : Bytes) (e : Bytes × X) → is_lt (order path e.0) ≡ true → same e.0 path ≡ false
  unequal path e above = same-false e.0 path (λ (is : e.0 ≡ path).
      let tied : order path e.0 ≡ Equal = ap (order path) is ∙ tied_itself nat_list_cmp_total path in
      let both : false ≡ true = sym (ap is_lt tied) ∙ above in absurd (cc))

  -- entries that come after a path in the order have other paths
  others-above : (path : Bytes) (vs : Entries X) → below_all order path vs ≡ true → others path vs ≡ vs
  others-above path [] above = refl
  others-above path (e ∷ vs) above =
      let parts = and_parts _ _ above in
      ap (λ b. cond (not b) (e ∷ others path vs) (others path vs)) (unequal path e parts.0) ∙ ap (λ (x : Entries X). e ∷ x) (others-above path vs parts.1)

abbrev pub Stored : Type 0 → Type 0 → Type 0
Stored K X = List (K × (Bytes × X))

abbrev pub by_bytes : {K : Type 0} → (K → Bytes) → K → K → Ordering
by_bytes bytes j k = order (bytes j) (bytes k)

module _ {K X : Type 0} (bytes : K → Bytes) where
  -- each entry stands under the bytes of its path
  abbrev pub IsKeyed : Stored K X → Type 0
  IsKeyed es = AllByRecursion (λ e. bytes e.0 ≡ e.1.0) es

  -- ---- look-ups

  chosen : (b : Bool) (v : Bytes × X) (o : Option (Bytes × X)) (p : Option X) → option_map (λ (x : Bytes × X). x.1) o ≡ p
      → option_map (λ (x : Bytes × X). x.1) (cond b (Some v) o) ≡ cond b (Some v.1) p
  chosen true v o p rest = refl
  chosen false v o p rest = rest

  pub lookup-values : (path : Bytes) (es : Stored K X) → IsKeyed es → option_map (λ (x : Bytes × X). x.1) (lookup (is_at (λ k. order path (bytes k))) es) ≡ find order path (values_of es)
  lookup-values path [] keyed = refl
  lookup-values path (e ∷ es) keyed =
      ap (λ (x : Bytes). option_map (λ (v : Bytes × X). v.1) (cond (is_eq (order path x)) (Some e.1) (lookup (is_at (λ k. order path (bytes k))) es))) keyed.0
      ∙ chosen (is_eq (order path e.1.0)) e.1 _ _ (lookup-values path es keyed.1)

  -- ---- one entry more

  here : (e : K × (Bytes × X)) (k : K) (v : Bytes × X) (r : Ordering) → bytes e.0 ≡ e.1.0 → bytes k ≡ v.0 → order (bytes k) (bytes e.0) ≡ r → order v.0 e.1.0 ≡ r
  here e k v r keyed is p = ap (λ (x : Bytes). order x e.1.0) (sym is) ∙ ap (order (bytes k)) (sym keyed) ∙ p

  pub values-insert : (es : Stored K X) (k : K) (v : Bytes × X) → IsKeyed es → bytes k ≡ v.0 → values_of (insert_entry (by_bytes bytes) es k v) ≡ put order v.0 v.1 (values_of es)
  values-insert [] k v keyed is = refl
  values-insert (e ∷ es) k v keyed is =
      elim (order (bytes k) (bytes e.0)) as (λ r. order (bytes k) (bytes e.0) ≡ r
      → values_of (match_ordering r ((k, v) ∷ e ∷ es) ((e.0, v) ∷ es) (e ∷ insert_entry (by_bytes bytes) es k v)) ≡ put order v.0 v.1 (values_of (e ∷ es))) [
        | Less ↦ λ p. sym (put-less v.0 v.1 e.1 (values_of es) (here e k v Less keyed.0 is p))
        | Equal ↦ λ p. sym (put-equal v.0 v.1 e.1 (values_of es) (here e k v Equal keyed.0 is p))
        | Greater ↦ λ p. ap (λ (x : Entries X). e.1 ∷ x) (values-insert es k v keyed.1 is) ∙ sym (put-greater v.0 v.1 e.1 (values_of es) (here e k v Greater keyed.0 is p))
      ] refl

  pub keyed-insert : (es : Stored K X) (k : K) (v : Bytes × X) → IsKeyed es → bytes k ≡ v.0 → IsKeyed (insert_entry (by_bytes bytes) es k v)
  keyed-insert [] k v keyed is = (is, tt)
  keyed-insert (e ∷ es) k v keyed is =
      elim (order (bytes k) (bytes e.0)) as (λ r. order (bytes k) (bytes e.0) ≡ r → IsKeyed (match_ordering r ((k, v) ∷ e ∷ es) ((e.0, v) ∷ es) (e ∷ insert_entry (by_bytes bytes) es k v))) [
        | Less ↦ λ p. (is, keyed)
        | Equal ↦ λ p. (sym (exact_bytes (bytes k) (bytes e.0) p) ∙ is, keyed.1)
        | Greater ↦ λ p. (keyed.0, keyed-insert es k v keyed.1 is)
      ] refl

  -- ---- one entry less

  apart : (path : Bytes) (e : K × (Bytes × X)) (r : Ordering) → bytes e.0 ≡ e.1.0 → order path (bytes e.0) ≡ r → (r ≡ Equal → ⊥) → same e.1.0 path ≡ false
  apart path e r keyed p other = same-false e.1.0 path (λ (is : e.1.0 ≡ path). other (sym p ∙ ap (order path) (keyed ∙ is) ∙ tied_itself nat_list_cmp_total path))

  left : (path : Bytes) (e : K × (Bytes × X)) (es : Stored K X) (r : Ordering) → bytes e.0 ≡ e.1.0 → is_sorted order (values_of (e ∷ es)) ≡ true → order path (bytes e.0) ≡ r
      → values_of (remove_entry (is_at (λ k. order path (bytes k))) es) ≡ others path (values_of es)
      → values_of (cond (is_eq r) es (e ∷ remove_entry (is_at (λ k. order path (bytes k))) es)) ≡ others path (values_of (e ∷ es))
  left path e es Less keyed sorted p rest =
      ap (λ (x : Entries X). e.1 ∷ x) rest ∙ sym (ap (λ b. cond (not b) (e.1 ∷ others path (values_of es)) (others path (values_of es))) (apart path e Less keyed p (λ same. absurd (cc))))
  left path e es Greater keyed sorted p rest =
      ap (λ (x : Entries X). e.1 ∷ x) rest ∙ sym (ap (λ b. cond (not b) (e.1 ∷ others path (values_of es)) (others path (values_of es))) (apart path e Greater keyed p (λ same. absurd (cc))))
  left path e es Equal keyed sorted p rest =
      let is : path ≡ e.1.0 = exact_bytes path (bytes e.0) p ∙ keyed in
      let above = and_parts _ _ sorted in
      let mine : same e.1.0 path ≡ true = ap (λ (x : Bytes). same x path) (sym is) ∙ same-refl path in
      sym (ap (λ b. cond (not b) (e.1 ∷ others path (values_of es)) (others path (values_of es))) mine
      ∙ others-above path (values_of es) (ap (λ (x : Bytes). below_all order x (values_of es)) is ∙ above.0))

  pub values-remove : (path : Bytes) (es : Stored K X) → IsKeyed es → is_sorted order (values_of es) ≡ true → values_of (remove_entry (is_at (λ k. order path (bytes k))) es) ≡ others path (values_of es)
  values-remove path [] keyed sorted = refl
  values-remove path (e ∷ es) keyed sorted =
      let above = and_parts _ _ sorted in
      left path e es (order path (bytes e.0)) keyed.0 sorted refl (values-remove path es keyed.1 above.1)

  pub keyed-remove : (test : K → Bool) (es : Stored K X) → IsKeyed es → IsKeyed (remove_entry test es)
  keyed-remove test [] keyed = tt
  keyed-remove test (e ∷ es) keyed = elim (test e.0) as (λ b. IsKeyed (cond b es (e ∷ remove_entry test es))) [ true ↦ keyed.1 | false ↦ (keyed.0, keyed-remove test es keyed.1) ]

  -- ---- the map of the entries

  pub get-stored : (path : Bytes) (es : Stored K X) → IsKeyed es → is_sorted order (values_of es) ≡ true
      → option_map (λ (x : Bytes × X). x.1) (lookup (is_at (λ k. order path (bytes k))) es) ≡ get (map_of (values_of es)) path
  get-stored path es keyed sorted = lookup-values path es keyed ∙ sym (get-map (values_of es) path sorted)

  abbrev pub IsInOrder : Stored K X → Type 0
  IsInOrder es = (is_sorted order (values_of es) ≡ true) × IsKeyed es

  pub inserted-in_order : (es fs : Stored K X) (k : K) (v : Bytes × X) → IsInOrder es → bytes k ≡ v.0 → fs ≡ insert_entry (by_bytes bytes) es k v → IsInOrder fs
  inserted-in_order es fs k v in_order is e = (
    ap (λ (x : Stored K X). is_sorted order (values_of x)) e ∙ ap (λ (x : Entries X). is_sorted order x) (values-insert es k v in_order.1 is) ∙ sorted-put v.0 v.1 (values_of es) in_order.0,
    subst (λ (x : Stored K X). IsKeyed x) (sym e) (keyed-insert es k v in_order.1 is),
  )

  pub inserted-map : (es fs : Stored K X) (k : K) (v : Bytes × X) → IsInOrder es → bytes k ≡ v.0 → fs ≡ insert_entry (by_bytes bytes) es k v
      → map_of (values_of fs) ≡ insert (map_of (values_of es)) v.0 v.1
  inserted-map es fs k v in_order is e =
      ap (λ (x : Stored K X). map_of (values_of x)) e ∙ ap (λ (x : Entries X). map_of x) (values-insert es k v in_order.1 is) ∙ insert-map v.0 v.1 (values_of es) in_order.0

  pub removed-in_order : (es fs : Stored K X) (path : Bytes) → IsInOrder es → fs ≡ remove_entry (is_at (λ k. order path (bytes k))) es → IsInOrder fs
  removed-in_order es fs path in_order e = (
    ap (λ (x : Stored K X). is_sorted order (values_of x)) e ∙ ap (λ (x : Entries X). is_sorted order x) (values-remove path es in_order.1 in_order.0)
        ∙ sorted-where (λ p. not (same p path)) (values_of es) in_order.0,
    subst (λ (x : Stored K X). IsKeyed x) (sym e) (keyed-remove (is_at (λ k. order path (bytes k))) es in_order.1),
  )

  pub removed-map : (es fs : Stored K X) (path : Bytes) → IsInOrder es → fs ≡ remove_entry (is_at (λ k. order path (bytes k))) es
      → map_of (values_of fs) ≡ remove (map_of (values_of es)) path
  removed-map es fs path in_order e =
      ap (λ (x : Stored K X). map_of (values_of x)) e ∙ ap (λ (x : Entries X). map_of x) (values-remove path es in_order.1 in_order.0) ∙ remove-map path (values_of es) in_order.0

  -- ---- look-ups, puts and removals, where the map of the entries is known by another name

  pub found-in : (path : Bytes) (es : Stored K X) (m : Map X) (found : Option (Bytes × X)) → IsInOrder es → map_of (values_of es) ≡ m
      → found ≡ lookup (is_at (λ k. order path (bytes k))) es → option_map (λ (x : Bytes × X). x.1) found ≡ get m path
  found-in path es m found in_order named is =
      ap (λ o. option_map (λ (x : Bytes × X). x.1) o) is ∙ get-stored path es in_order.1 in_order.0 ∙ ap (λ (n : Map X). get n path) named

  pub put-in : (es fs : Stored K X) (k : K) (v : Bytes × X) (m : Map X) → IsInOrder es → map_of (values_of es) ≡ m → bytes k ≡ v.0 → fs ≡ insert_entry (by_bytes bytes) es k v
      → map_of (values_of fs) ≡ insert m v.0 v.1
  put-in es fs k v m in_order named is e = inserted-map es fs k v in_order is e ∙ ap (λ (n : Map X). insert n v.0 v.1) named

  pub taken-from : (es fs : Stored K X) (path : Bytes) (m : Map X) → IsInOrder es → map_of (values_of es) ≡ m → fs ≡ remove_entry (is_at (λ k. order path (bytes k))) es
      → map_of (values_of fs) ≡ remove m path
  taken-from es fs path m in_order named e = removed-map es fs path in_order e ∙ ap (λ (n : Map X). remove n path) named

  pub len-in : (es : Stored K X) (m : Map X) → IsInOrder es → map_of (values_of es) ≡ m → length es ≡ len m
  len-in es m in_order named = sym (length-map es (λ (e : K × (Bytes × X)). e.1)) ∙ sym (len-map (values_of es) in_order.0) ∙ ap (λ (n : Map X). len n) named

  pub keys-in : (es : Stored K X) (m : Map X) (items : Entries X) → IsInOrder es → map_of (values_of es) ≡ m → items ≡ values_of es → map (λ (e : Bytes × X). e.0) items ≡ keys m
  keys-in es m items in_order named is =
      ap (λ (vs : Entries X). map (λ (e : Bytes × X). e.0) vs) is ∙ sym (keys-map (values_of es) in_order.0) ∙ ap (λ (n : Map X). keys n) named
