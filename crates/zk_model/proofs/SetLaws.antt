-- Sets of paths as lists of their members.
use Rattle.std.proofs.Common.{◌≡◌, ◌≢◌, Bool, true, false, ◌||◌, cond, List, [], ◌∷◌, length, map, refl, sym, ap, ◌∙◌, ⊎_elim}
use Rattle.std.specs.Prelude.{◌==◌}
use Rattle.std.proofs.lemmas.Cmp.{tied_itself}
use Rattle.std.proofs.lemmas.List.{length-map}
use Rattle.std.proofs.lemmas.Map.Lookups.{exact_bytes}
use Rattle.std.specs.List.{list_any, AllZip}
use Rattle.std.specs.BTreeMap.{is_at}
use Rattle.std.specs.BTreeSet.{insert_key}
use Rattle.std.specs.Set.{remove_key}
use Rattle.std.specs.Cmp.Lexicographic.{slice_cmp, nat_list_cmp_total}
use Rattle.std.specs.Ordering.{nat_cmp, is_eq, match_ordering}
use Rattle.std.specs.declared.cmp.Ordering.{Ordering}
use Rattle.std.specs.declared.cmp.Ordering.TheVariants.{Less, Equal, Greater}
use Rattle.std.specs.FinMap.{get, insert, remove, contains_key, len}
use Rattle.zx_base.specs.Maps.{Bytes, same}
use Rattle.zx_base.proofs.MapLaws.{ext, either, same-refl, same-false, get-insert_same, get-insert_other, get-remove_same, get-remove_other}
use Rattle.zk_model.specs.Watches.{PathSet}
use Rattle.zk_model.specs.PathSets.{set_of, has}
use Rattle.zk_model.proofs.PathSets.{get-set_of, contains-set_of, length-set_of, marked, same_set}
use Rattle.zx_base.proofs.Booleans.{or-swap, or-again}
use Rattle.zx_base.proofs.Options.{there}

without : (path : Bytes) (ps qs : List Bytes) → has path ps ≡ false → ((q : Bytes) → q ≢ path → has q ps ≡ has q qs) → set_of ps ≡ remove (set_of qs) path
without path ps qs gone others = ext _ _ (λ q. ⊎_elim
    (λ (e : q ≡ path). get-set_of ps q ∙ ap marked (ap (λ (x : Bytes). has x ps) e ∙ gone) ∙ sym (ap (get (remove (set_of qs) path)) e ∙ get-remove_same (set_of qs) path))
    (λ (n : q ≢ path). get-set_of ps q ∙ ap marked (others q n) ∙ sym (get-remove_other (set_of qs) path q n ∙ get-set_of qs q))
    (either q path))

-- a path that is in the set is put in again
pub insert-there : (s : PathSet) (path : Bytes) → contains_key s path ≡ true → s ≡ insert s path tt
insert-there s path is = ext _ _ (λ q. ⊎_elim
    (λ (e : q ≡ path). ap (get s) e ∙ there (get s path) is ∙ sym (ap (get (insert s path tt)) e ∙ get-insert_same s path tt))
    (λ (n : q ≢ path). sym (get-insert_other s path q tt n))
    (either q path))

-- ---- the keys of an ordered set, each the bytes of a path

abbrev order : Bytes → Bytes → Ordering
order = slice_cmp nat_cmp

untied : (q p : Bytes) → q ≢ p → is_eq (order q p) ≡ false
untied q p n = elim (order q p) as (λ r. order q p ≡ r → is_eq r ≡ false) [ Less ↦ λ h. refl | Equal ↦ λ h. absurd (n (exact_bytes q p h)) | Greater ↦ λ h. refl ] refl

-- the order ties a path to itself alone
ties : (q p : Bytes) → is_eq (order q p) ≡ same p q
ties q p = ⊎_elim
    (λ (e : q ≡ p). ap (λ (x : Bytes). is_eq (order q x)) (sym e) ∙ ap is_eq (tied_itself nat_list_cmp_total q) ∙ sym (ap (λ (x : Bytes). same x q) (sym e) ∙ same-refl q))
    (λ (n : q ≢ p). untied q p n ∙ sym (same-false p q (λ e. n (sym e))))
    (either q p)

module _ {K : Type 0} (bytes : K → Bytes) where
  abbrev by_bytes : K → K → Ordering
  by_bytes j k = order (bytes j) (bytes k)

  abbrev is_path : Bytes → K → Bool
  is_path path = is_at (λ k. order path (bytes k))

  found : (path : Bytes) (ks : List K) → list_any (is_path path) ks ≡ has path (map bytes ks)
  found path [] = refl
  found path (k ∷ ks) = ap (λ b. b || list_any (is_path path) ks) (ties path (bytes k)) ∙ ap (λ b. same (bytes k) path || b) (found path ks)

  pub contains-keys : (path : Bytes) (ks : List K) (s : PathSet) → set_of (map bytes ks) ≡ s → list_any (is_path path) ks ≡ contains_key s path
  contains-keys path ks s named = found path ks ∙ sym (contains-set_of (map bytes ks) path) ∙ ap (λ (m : PathSet). contains_key m path) named

  pub is_empty-keys : (ks : List K) (s : PathSet) → set_of (map bytes ks) ≡ s → (length ks == 0) ≡ (len s == 0)
  is_empty-keys ks s named = ap (λ n. n == 0) (sym (length-map ks bytes)) ∙ length-set_of (map bytes ks) ∙ ap (λ (m : PathSet). len m == 0) named

  -- ---- one more path

  has-inserted : (q : Bytes) (k : K) (ks : List K) → has q (map bytes (insert_key by_bytes ks k)) ≡ (same (bytes k) q || has q (map bytes ks))
  has-inserted q k [] = refl
  has-inserted q k (x ∷ xs) =
      elim (by_bytes k x) as (λ r. by_bytes k x ≡ r
      → has q (map bytes (match_ordering r (k ∷ x ∷ xs) (x ∷ xs) (x ∷ insert_key by_bytes xs k))) ≡ (same (bytes k) q || (same (bytes x) q || has q (map bytes xs)))) [
        | Less ↦ λ h. refl
        | Equal ↦ λ h. or-again (same (bytes x) q) (has q (map bytes xs)) ∙ ap (λ (p : Bytes). same p q || (same (bytes x) q || has q (map bytes xs))) (sym (exact_bytes (bytes k) (bytes x) h))
        | Greater ↦ λ h. ap (λ b. same (bytes x) q || b) (has-inserted q k xs) ∙ or-swap (same (bytes x) q) (same (bytes k) q) (has q (map bytes xs))
      ] refl

  pub inserted-keys : (path : Bytes) (k : K) (js ks : List K) (s : PathSet) → set_of (map bytes js) ≡ s → bytes k ≡ path → ks ≡ insert_key by_bytes js k → set_of (map bytes ks) ≡ insert s path tt
  inserted-keys path k js ks s named is inserted =
      ap (λ (x : List K). set_of (map bytes x)) inserted
      ∙ same_set (map bytes (insert_key by_bytes js k)) (bytes k ∷ map bytes js) (λ q. has-inserted q k js)
      ∙ ap (λ (m : PathSet). insert m (bytes k) tt) named
      ∙ ap (λ (p : Bytes). insert s p tt) is

  -- ---- a path less

  has-removed : (path q : Bytes) (ks : List K) → q ≢ path → has q (map bytes (remove_key (is_path path) ks)) ≡ has q (map bytes ks)
  has-removed path q [] n = refl
  has-removed path q (x ∷ xs) n =
      elim (order path (bytes x)) as (λ r. order path (bytes x) ≡ r
      → has q (map bytes (cond (is_eq r) xs (x ∷ remove_key (is_path path) xs))) ≡ (same (bytes x) q || has q (map bytes xs))) [
        | Less ↦ λ h. ap (λ b. same (bytes x) q || b) (has-removed path q xs n)
        | Equal ↦ λ h. sym (ap (λ b. b || has q (map bytes xs)) (same-false (bytes x) q (λ e. n (sym (exact_bytes path (bytes x) h ∙ e)))))
        | Greater ↦ λ h. ap (λ b. same (bytes x) q || b) (has-removed path q xs n)
      ] refl

  pub removed-keys : (path : Bytes) (js ks : List K) (s : PathSet) → set_of (map bytes js) ≡ s → list_any (is_path path) ks ≡ false → ks ≡ remove_key (is_path path) js
      → set_of (map bytes ks) ≡ remove s path
  removed-keys path js ks s named gone removed =
      without path (map bytes ks) (map bytes js) (sym (found path ks) ∙ gone) (λ q n. ap (λ (x : List K). has q (map bytes x)) removed ∙ has-removed path q js n)
      ∙ ap (λ (m : PathSet). remove m path) named

  -- ---- a copy

  pub cloned-keys : (C : K → K → Type 0) → ((j k : K) → C j k → bytes k ≡ bytes j) → (js ks : List K) → AllZip C js ks → map bytes ks ≡ map bytes js
  cloned-keys C alike [] [] all = refl
  cloned-keys C alike [] (k ∷ ks) all = absurd all
  cloned-keys C alike (j ∷ js) [] all = absurd all
  cloned-keys C alike (j ∷ js) (k ∷ ks) all = ap (λ (p : Bytes). p ∷ map bytes ks) (alike j k all.0) ∙ ap (λ (ps : List Bytes). bytes j ∷ ps) (cloned-keys C alike js ks all.1)
