-- A pair that is put into a cache comes first, and takes the place of one with the same key.
use Rattle.std.proofs.Common.{◌≡◌, ℕ, suc, ◌-◌, ◌≤◌, Bool, true, false, cond, List, [], ◌∷◌, length, Option, Some, None, All, refl, sym, ap, ◌∙◌, subst, take, arith}
use Rattle.std.specs.Option.{option_map_or}
use Rattle.std.proofs.lemmas.List.{take_all}
use Rattle.std.proofs.lemmas.List.Elements.{All-cons, All-head, All-tail, All-take}
use Rattle.std.specs.Map.{lookup, lookup_entry, remove_entry}
use Rattle.lru.specs.LruCache.{lru_cache, promoted, put_entries}
use Rattle.zx_base.specs.Maps.{Bytes, same}
use Rattle.zx_base.proofs.MapLaws.{same-true}
use Rattle.zx_base.proofs.Options.{none_some, some_none, some_is}
use Rattle.zn_view.specs.Seen.{View}
use Rattle.zp_step.specs.Kept.{put_first, used_first}
use Rattle.zp_kept.specs.Entries.{HasNoLists, IsPlainPair}

abbrev Views : Type 0
Views = List (Bytes × View)

absent-stays : (test : Bytes → Bool) (xs : Views) → lookup_entry test xs ≡ None → remove_entry test xs ≡ xs
absent-stays test [] e = refl
absent-stays test (x ∷ xs) e = (elim (test x.0) as (λ b. cond b (Some x) (lookup_entry test xs) ≡ None → cond b xs (x ∷ remove_entry test xs) ≡ x ∷ xs) [
  | true ↦ λ f. absurd (some_none f)
  | false ↦ λ f. ap (λ (l : Views). x ∷ l) (absent-stays test xs f)
]) e

present-goes : (test : Bytes → Bool) (xs : Views) (y : Bytes × View) → lookup_entry test xs ≡ Some y → (test y.0 ≡ true) × (suc (length (remove_entry test xs)) ≡ length xs)
present-goes test [] y e = absurd (none_some e)
present-goes test (x ∷ xs) y e = (elim (test x.0) as (λ b. test x.0 ≡ b → cond b (Some x) (lookup_entry test xs) ≡ Some y → (test y.0 ≡ true) × (suc (length (cond b xs (x ∷ remove_entry test xs))) ≡ suc (length xs))) [
  | true ↦ λ t f. (subst (λ (z : Bytes × View). test z.0 ≡ true) (some_is f) t, refl)
  | false ↦ λ t f. let more = present-goes test xs y f in (more.0, ap suc more.1)
]) refl e

pub put-is : (p : Bytes) (v : View) (xs : Views) (n : ℕ) → n ≡ 16 → length xs ≤ n → put_entries same (lru_cache xs n) p v ≡ put_first p (Some v) xs
put-is p v xs n size short = go (lookup_entry (same p) xs) refl
  where
    go : (o : Option (Bytes × View)) → lookup_entry (same p) xs ≡ o → option_map_or (λ (e : Bytes × View). (e.0, v) ∷ remove_entry (same p) xs) o ((p, v) ∷ take (n - 1) xs) ≡ (p, v) ∷ take 15 (remove_entry (same p) xs)
    go None e = ap (λ (m : ℕ). (p, v) ∷ take (m - 1) xs) size ∙ ap (λ (l : Views). (p, v) ∷ take 15 l) (sym (absent-stays (same p) xs e))
    go (Some y) e =
        let there = present-goes (same p) xs y e in
        let few : length (remove_entry (same p) xs) ≤ 15 = omega (arith, there.1, size, short) in
        ap (λ (q : Bytes). (q, v) ∷ remove_entry (same p) xs) (sym (same-true p y.0 there.0)) ∙ ap (λ (l : Views). (p, v) ∷ l) (sym (take_all 15 (remove_entry (same p) xs) few))

-- ---- a pair that is used comes first

looked-up : (test : Bytes → Bool) (xs : Views) (v : View) → lookup test xs ≡ Some v → (q : Bytes) × (lookup_entry test xs ≡ Some (q, v)) × (test q ≡ true)
looked-up test [] v e = absurd (none_some e)
looked-up test (x ∷ xs) v e = (elim (test x.0) as (λ b. test x.0 ≡ b → cond b (Some x.1) (lookup test xs) ≡ Some v → (q : Bytes) × (cond b (Some x) (lookup_entry test xs) ≡ Some (q, v)) × (test q ≡ true)) [
  | true ↦ λ t f. (x.0, ap (λ (u : View). Some (x.0, u)) (some_is f), t)
  | false ↦ λ t f. looked-up test xs v f
]) refl e

pub promoted-is : (p : Bytes) (v : View) (xs : Views) → lookup (same p) xs ≡ Some v → promoted (same p) xs ≡ used_first p v xs
promoted-is p v xs e =
    let there = looked-up (same p) xs v e in
    ap (λ (o : Option (Bytes × View)). option_map_or (λ (y : Bytes × View). y ∷ remove_entry (same p) xs) o xs) there.1
    ∙ ap (λ (q : Bytes). (q, v) ∷ remove_entry (same p) xs) (sym (same-true p there.0 there.2))

-- ---- no view has lists

pub removed-plain : (test : Bytes → Bool) (xs : Views) → All IsPlainPair xs → All IsPlainPair (remove_entry test xs)
removed-plain test [] h = h
removed-plain test (x ∷ xs) h = elim (test x.0) as (λ b. All IsPlainPair (cond b xs (x ∷ remove_entry test xs))) [
  | true ↦ All-tail IsPlainPair x xs h
  | false ↦ All-cons IsPlainPair x (remove_entry test xs) (All-head IsPlainPair x xs h) (removed-plain test xs (All-tail IsPlainPair x xs h))
]

pub put-plain : (p : Bytes) (v : View) (xs : Views) → HasNoLists v → All IsPlainPair xs → All IsPlainPair (put_first p (Some v) xs)
put-plain p v xs plain h = All-cons IsPlainPair (p, v) (take 15 (remove_entry (same p) xs)) plain (All-take IsPlainPair 15 (remove_entry (same p) xs) (removed-plain (same p) xs h))

entry-plain : (test : Bytes → Bool) (xs : Views) (y : Bytes × View) → lookup_entry test xs ≡ Some y → All IsPlainPair xs → IsPlainPair y
entry-plain test [] y e h = absurd (none_some e)
entry-plain test (x ∷ xs) y e h = (elim (test x.0) as (λ b. cond b (Some x) (lookup_entry test xs) ≡ Some y → IsPlainPair y) [
  | true ↦ λ f. subst IsPlainPair (some_is f) (All-head IsPlainPair x xs h)
  | false ↦ λ f. entry-plain test xs y f (All-tail IsPlainPair x xs h)
]) e

pub promoted-plain : (test : Bytes → Bool) (xs : Views) → All IsPlainPair xs → All IsPlainPair (promoted test xs)
promoted-plain test xs h = go (lookup_entry test xs) refl
  where
    go : (o : Option (Bytes × View)) → lookup_entry test xs ≡ o → All IsPlainPair (option_map_or (λ (e : Bytes × View). e ∷ remove_entry test xs) o xs)
    go None e = h
    go (Some y) e = All-cons IsPlainPair y (remove_entry test xs) (entry-plain test xs y e h) (removed-plain test xs h)

-- ---- where no view is kept, there is none to use

no-entry : (test : Bytes → Bool) (xs : Views) → lookup test xs ≡ None → lookup_entry test xs ≡ None
no-entry test [] e = refl
no-entry test (x ∷ xs) e = (elim (test x.0) as (λ b. cond b (Some x.1) (lookup test xs) ≡ None → cond b (Some x) (lookup_entry test xs) ≡ None) [
  | true ↦ λ f. absurd (some_none f)
  | false ↦ λ f. no-entry test xs f
]) e

pub promoted-stays : (test : Bytes → Bool) (xs : Views) → lookup test xs ≡ None → promoted test xs ≡ xs
promoted-stays test xs e = ap (λ (o : Option (Bytes × View)). option_map_or (λ (y : Bytes × View). y ∷ remove_entry test xs) o xs) (no-entry test xs e)
