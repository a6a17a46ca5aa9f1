-- A sorted map of std as a finite map: the leases, and the keys that a range met.
use Rattle.std.proofs.Common.{◌≡◌, cond, Some, None, List, [], ◌∷◌, map, refl, sym, ap, ◌∙◌, subst}
use Rattle.std.specs.Prelude.{T, IfSome, Option}
use Rattle.std.specs.declared.cmp.Ordering.{Ordering}
use Rattle.std.specs.declared.cmp.Ordering.TheVariants.{Less}
use Rattle.std.specs.Ordering.{is_lt, eq_by_cmp, nat_cmp}
use Rattle.std.specs.Cmp.{IsTotalOrder, eq_by_cmp_equiv}
use Rattle.std.specs.Cmp.Lexicographic.{slice_cmp, nat_list_cmp_total}
use Rattle.std.specs.List.{All, AllByRecursion}
use Rattle.std.specs.List.Sorted.{IsStrictlySortedBy}
use Rattle.std.specs.Map.{lookup, keys_of, values_of}
use Rattle.std.specs.BTreeMap.{is_at}
use Rattle.std.specs.FinMap.{FinMap, IsAntisymmetric, find, is_sorted, get, insert, remove, entries, values, retain_keys, from_entries, from_sorted, same_map, get-entries, get-from_entries, get-insert, get-remove, get-from_sorted, entries-from_sorted, entries_sorted}
use Rattle.std.specs.FinMap.Entries.{below_all}
use Rattle.std.proofs.lemmas.Map.Keys.{IsDistinct-from_sorted}
use Rattle.std.proofs.lemmas.Map.Lookups.{exact_bytes}
use Rattle.std.proofs.lemmas.Map.Views.{All-values_from_lookup}
use Rattle.zx_base.specs.Maps.{Bytes}
use Rattle.zx_base.proofs.MapLaws.{get-retain}
use Rattle.ev_types.specs.declared.answer.Kv.{Kv}
use Rattle.ev_types.specs.declared.ask.RangeReq.{RangeReq}
use Rattle.ev_types.specs.Ranges.{Keys, is_within, in_range}
use Rattle.zx_base.proofs.Booleans.{T-and, T-first, T-second}
use Rattle.zx_base.proofs.Orders.{less-from_T}

module _ {K X : Type 0} (R : K → K → Ordering) where
  find-lookup : (q : K) (es : List (K × X)) → find R q es ≡ lookup (is_at (R q)) es
  find-lookup q [] = refl
  find-lookup q (e ∷ es) = ap (cond (eq_by_cmp R q e.0) (Some e.1)) (find-lookup q es)

  below_all-from_sorted : (k : K) (es : List (K × X)) → AllByRecursion (λ y. R k y ≡ Less) (keys_of es) → T (below_all R k es)
  below_all-from_sorted k [] h = tt
  below_all-from_sorted k (e ∷ es) h = T-and _ _ (subst (λ (o : Ordering). T (is_lt o)) (sym h.0) tt) (below_all-from_sorted k es h.1)

  is_sorted-from_keys : (es : List (K × X)) → IsStrictlySortedBy R (keys_of es) → T (is_sorted R es)
  unfolding IsStrictlySortedBy
  is_sorted-from_keys [] h = tt
  is_sorted-from_keys (e ∷ es) h = T-and _ _ (below_all-from_sorted e.0 es h.0) (is_sorted-from_keys es h.1)

module _ {K X : Type 0} {R : K → K → Ordering} (o : IsTotalOrder R) where
  pub get-lookup : (es : List (K × X)) (q : K) → get (from_entries {R = R} es) q ≡ lookup (is_at (R q)) es
  get-lookup es q = get-from_entries o es q ∙ find-lookup R q es

  -- a key that took a value
  pub from_entries-update : IsAntisymmetric R → (es fs : List (K × X)) (k : K) (v : X) →
      ((q : K) → lookup (is_at (R q)) fs ≡ cond (is_at (R k) q) (Some v) (lookup (is_at (R q)) es)) → from_entries {R = R} fs ≡ insert (from_entries es) k v
  from_entries-update exact es fs k v updates = same_map o exact _ _ (λ q.
      get-lookup fs q ∙ updates q ∙ ap (λ b. cond b (Some v) (lookup (is_at (R q)) es)) ((eq_by_cmp_equiv o).symm k q)
      ∙ ap (cond (eq_by_cmp R q k) (Some v)) (sym (get-lookup es q)) ∙ sym (get-insert o (from_entries es) k v q))

  -- a key that was taken away
  pub from_entries-without : IsAntisymmetric R → (es fs : List (K × X)) (k : K) →
      ((q : K) → lookup (is_at (R q)) fs ≡ cond (is_at (R k) q) None (lookup (is_at (R q)) es)) → from_entries {R = R} fs ≡ remove (from_entries es) k
  from_entries-without exact es fs k updates = same_map o exact _ _ (λ q.
      get-lookup fs q ∙ updates q ∙ ap (λ b. cond b None (lookup (is_at (R q)) es)) ((eq_by_cmp_equiv o).symm k q)
      ∙ ap (cond (eq_by_cmp R q k) None) (sym (get-lookup es q)) ∙ sym (get-remove o (from_entries es) k q))

  -- entries in order that answer as a map does are the map's
  pub entries_from_gets : IsAntisymmetric R → (m : FinMap R X) (es : List (K × X)) → IsStrictlySortedBy R (keys_of es) →
      ((q : K) → lookup (is_at (R q)) es ≡ get m q) → es ≡ entries m
  entries_from_gets exact m es ordered gets =
      let sorted : T (is_sorted R es) = is_sorted-from_keys R es ordered in
      sym (entries-from_sorted R es sorted)
      ∙ ap entries (same_map o exact (from_sorted es) m (λ q. get-from_sorted R es q sorted ∙ find-lookup R q es ∙ gets q))

-- the keys in a range, in order, where each of them was looked up
pub values-in_range : (r : RangeReq) (m : Keys) (es : List (Bytes × Kv)) → IsStrictlySortedBy (slice_cmp nat_cmp) (keys_of es) →
    ((q : Bytes) → lookup (is_at (slice_cmp nat_cmp q)) es ≡ cond (is_within r.key r.end q) (get m q) None) → values_of es ≡ in_range r m
unfolding in_range
values-in_range r m es ordered gets =
    ap (map (λ (e : Bytes × Kv). e.1)) (entries_from_gets nat_list_cmp_total exact_bytes (retain_keys m (is_within r.key r.end)) es ordered (λ q. gets q ∙ sym (get-retain m (is_within r.key r.end) q)))

-- ---- what holds of each value that a map answers holds of all its values

if_found : {X : Type 0} (P : X → Type 0) (o : Option X) → ((x : X) → o ≡ Some x → P x) → IfSome o P
if_found P None h = tt
if_found P (Some x) h = h x refl

module _ {K X : Type 0} (R : K → K → Ordering) where
  keys-below_all : (k : K) (es : List (K × X)) → T (below_all R k es) → AllByRecursion (λ y. R k y ≡ Less) (keys_of es)
  keys-below_all k [] h = tt
  keys-below_all k (e ∷ es) h = (less-from_T (R k e.0) (T-first _ _ h), keys-below_all k es (T-second _ _ h))

  keys-is_sorted : (es : List (K × X)) → T (is_sorted R es) → IsStrictlySortedBy R (keys_of es)
  unfolding IsStrictlySortedBy
  keys-is_sorted [] h = tt
  keys-is_sorted (e ∷ es) h = (keys-below_all e.0 es (T-first _ _ h), keys-is_sorted es (T-second _ _ h))

  pub All-values : (o : IsTotalOrder R) (P : X → Type 0) (m : FinMap R X) → ((k : K) (x : X) → get m k ≡ Some x → P x) → All P (values m)
  All-values o P m h =
      All-values_from_lookup (eq_by_cmp_equiv o) P (entries m) (IsDistinct-from_sorted R (keys_of (entries m)) (keys-is_sorted (entries m) (entries_sorted m)))
      (λ q. if_found P _ (λ x found. h q x (get-entries m q ∙ find-lookup R q (entries m) ∙ found)))
