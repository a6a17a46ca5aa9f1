-- One key of the store's fold is the fold of that key, while no list of changes puts a key twice: a version then rises by
-- at most one a revision, and never reaches the end of its type.
use Rattle.std.proofs.Common.{◌≡◌, ℕ, ◌+◌, ◌≤◌, ◌<◌, ◌-◌, ◌^◌, min, Bool, true, false, cond, ℤ, pos, ◌+ℤ◌, w64, List, [], ◌∷◌, length, Option, Some, None, refl, sym, ap, ◌∙◌, subst, arith, zero-add}
use Rattle.std.specs.Int.{saturate_signed}
use Rattle.std.specs.List.{list_any, list_all}
use Rattle.std.specs.FinMap.{get, insert, remove, empty, get-empty}
use Rattle.std.specs.Cmp.Lexicographic.{slice_cmp}
use Rattle.std.specs.Ordering.{nat_cmp}
use Rattle.zx_base.specs.Maps.{Bytes, same}
use Rattle.zx_base.proofs.MapLaws.{same-true, apart-from_same, get-insert_same, get-insert_other, get-remove_same, get-remove_other}
use Rattle.ev_types.specs.declared.answer.Kv.{Kv}
use Rattle.ev_types.specs.Ranges.{Keys}
use Rattle.ev_types.specs.Store.{Change, Puts, Removes, put_over, changed, after_changes, keys_from}
use Rattle.ev_store.specs.Changes.{put_keys, puts_once}
use Rattle.std.proofs.lemmas.Bool.{or_parts, and_parts, not-true}
use Rattle.ev_store.specs.Folds.{kv_after_put, key_after_change, key_after_changes, key_after_revisions}
use Rattle.zx_base.proofs.Numbers.{same-symm}

-- ---- maps at a key, by the test

pub get-insert_at : (m : Keys) (k : Bytes) (v : Kv) (q : Bytes) → get (insert m k v) q ≡ cond (same k q) (Some v) (get m q)
get-insert_at m k v q =
    elim (same k q) as (λ b. same k q ≡ b → get (insert m k v) q ≡ cond b (Some v) (get m q)) [
      | true ↦ λ e. subst (λ (x : Bytes). get (insert m k v) x ≡ Some v) (same-true k q e) (get-insert_same m k v)
      | false ↦ λ e. get-insert_other m k q v (λ h. apart-from_same k q e (sym h))
    ] refl

pub get-remove_at : (m : Keys) (k q : Bytes) → get (remove m k) q ≡ cond (same k q) None (get m q)
get-remove_at m k q =
    elim (same k q) as (λ b. same k q ≡ b → get (remove m k) q ≡ cond b None (get m q)) [
      | true ↦ λ e. subst (λ (x : Bytes). get (remove m k) x ≡ None) (same-true k q e) (get-remove_same m k)
      | false ↦ λ e. get-remove_other m k q (λ h. apart-from_same k q e (sym h))
    ] refl

-- ---- versions

-- the key's version is at most n
abbrev pub IsBounded : ℕ → Option Kv → Type 0
IsBounded n None = Unit {0}
IsBounded n (Some kv) = (v : ℕ) × (kv.version ≡ pos v) × (v ≤ n)

pub bounded-more : (m n : ℕ) (o : Option Kv) → m ≤ n → IsBounded m o → IsBounded n o
bounded-more m n None h b = tt
bounded-more m n (Some kv) h b = (b.0, b.1, omega (arith, h, b.2))

-- how often a change, and a list of changes, puts a key
abbrev pub put_count : Bytes → Change → ℕ
put_count q (Puts k v lease) = cond (same k q) 1 0
put_count q (Removes k) = 0

abbrev pub puts_count : Bytes → List Change → ℕ
puts_count q [] = 0
puts_count q (c ∷ cs) = put_count q c + puts_count q cs

puts_count-none : (k : Bytes) (cs : List Change) → list_any (same k) (put_keys cs) ≡ false → puts_count k cs ≡ 0
puts_count-none k [] h = refl
puts_count-none k (Puts x v lease ∷ cs) h =
    let other : same x k ≡ false = same-symm x k ∙ (or_parts _ _ h).0 in
    let rest = puts_count-none k cs (or_parts _ _ h).1 in
    ap (λ b. cond b 1 0 + puts_count k cs) other ∙ zero-add (puts_count k cs) ∙ rest
puts_count-none k (Removes x ∷ cs) h = zero-add (puts_count k cs) ∙ puts_count-none k cs h

pub puts_count-once : (q : Bytes) (cs : List Change) → puts_once cs ≡ true → puts_count q cs ≤ 1
puts_count-once q [] h = omega arith
puts_count-once q (Puts k v lease ∷ cs) h =
    let rest : puts_count q cs ≤ 1 = puts_count-once q cs (and_parts _ _ h).1 in
    elim (same k q) as (λ b. same k q ≡ b → cond b 1 0 + puts_count q cs ≤ 1) [
      | true ↦ λ e. let none : puts_count q cs ≡ 0 = subst (λ (x : Bytes). puts_count x cs ≡ 0) (same-true k q e) (puts_count-none k cs (not-true _ (and_parts _ _ h).0)) in omega (arith, none)
      | false ↦ λ e. omega (arith, rest)
    ] refl
puts_count-once q (Removes k ∷ cs) h = let rest : puts_count q cs ≤ 1 = puts_count-once q cs h in omega (arith, rest)

-- ---- a put, a change, a list of changes

next_version : (v n : ℕ) → v ≤ n → n + 1 ≤ 2 ^ 62 → min (v + 1) (2 ^ 63 - 1) ≡ v + 1
next_version v n h k = omega arith

next_version-is : (z : ℤ) (v n : ℕ) → z ≡ pos v → v ≤ n → n + 1 ≤ 2 ^ 62 → saturate_signed w64 (z +ℤ pos 1) ≡ z +ℤ pos 1
next_version-is z v n e h k =
    ap (λ x. saturate_signed w64 (x +ℤ pos 1)) e ∙ ap pos (next_version v n h k) ∙ ap (λ x. x +ℤ pos 1) (sym e)

pub kv_after_put-is : (r : ℤ) (k v : Bytes) (lease : ℤ) (o : Option Kv) (n : ℕ) → IsBounded n o → n + 1 ≤ 2 ^ 62 → kv_after_put r k v lease o ≡ put_over r k v lease o
kv_after_put-is r k v lease None n b h = refl
kv_after_put-is r k v lease (Some old) n b h = λ i. record (put_over r k v lease (Some old)) { version = next_version-is old.version b.0 n b.1 b.2 h i }

put_over-bounded : (r : ℤ) (k v : Bytes) (lease : ℤ) (o : Option Kv) (n : ℕ) → IsBounded n o → IsBounded (n + 1) (Some (put_over r k v lease o))
put_over-bounded r k v lease None n b = (1, refl, omega arith)
put_over-bounded r k v lease (Some old) n b = (b.0 + 1, ap (λ x. x +ℤ pos 1) b.1, omega (arith, b.2))

abbrev pub FollowsChange : ℤ → Keys → Change → Bytes → ℕ → Type 0
FollowsChange r m c q n = (get (changed r m c) q ≡ key_after_change r q (get m q) c) × IsBounded (n + put_count q c) (key_after_change r q (get m q) c)

after_put : (r : ℤ) (m : Keys) (k v : Bytes) (lease : ℤ) (q : Bytes) (n : ℕ) (b : Bool) → same k q ≡ b → IsBounded n (get m q) → n + cond b 1 0 ≤ 2 ^ 62 →
    (get (insert m k (put_over r k v lease (get m k))) q ≡ cond b (Some (kv_after_put r k v lease (get m q))) (get m q))
    × IsBounded (n + cond b 1 0) (cond b (Some (kv_after_put r k v lease (get m q))) (get m q))
after_put r m k v lease q n true e bound room =
    let is : put_over r k v lease (get m k) ≡ kv_after_put r k v lease (get m q) =
    ap (λ x. put_over r k v lease (get m x)) (same-true k q e) ∙ sym (kv_after_put-is r k v lease (get m q) n bound room) in (
      get-insert_at m k _ q ∙ ap (λ b. cond b (Some (put_over r k v lease (get m k))) (get m q)) e ∙ ap Some is,
      subst (λ x. IsBounded (n + 1) (Some x)) (sym (kv_after_put-is r k v lease (get m q) n bound room)) (put_over-bounded r k v lease (get m q) n bound),
    )
after_put r m k v lease q n false e bound room =
    (get-insert_at m k _ q ∙ ap (λ b. cond b (Some (put_over r k v lease (get m k))) (get m q)) e, bounded-more n (n + 0) (get m q) (omega arith) bound)

after_remove : (r : ℤ) (m : Keys) (k q : Bytes) (n : ℕ) (b : Bool) → same k q ≡ b → IsBounded n (get m q) →
    (get (remove m k) q ≡ cond b None (get m q)) × IsBounded (n + 0) (cond b None (get m q))
after_remove r m k q n true e bound = (get-remove_at m k q ∙ ap (λ b. cond b None (get m q)) e, tt)
after_remove r m k q n false e bound = (get-remove_at m k q ∙ ap (λ b. cond b None (get m q)) e, bounded-more n (n + 0) (get m q) (omega arith) bound)

pub follows_change : (r : ℤ) (m : Keys) (c : Change) (q : Bytes) (n : ℕ) → IsBounded n (get m q) → n + put_count q c ≤ 2 ^ 62 → FollowsChange r m c q n
follows_change r m (Puts k v lease) q n bound room = after_put r m k v lease q n (same k q) refl bound room
follows_change r m (Removes k) q n bound room = after_remove r m k q n (same k q) refl bound

pub follows_changes : (r : ℤ) (m : Keys) (cs : List Change) (q : Bytes) (n : ℕ) → IsBounded n (get m q) → n + puts_count q cs ≤ 2 ^ 62 →
    (get (after_changes r m cs) q ≡ key_after_changes r q (get m q) cs) × IsBounded (n + puts_count q cs) (get (after_changes r m cs) q)
follows_changes r m [] q n bound room = (refl, bounded-more n (n + 0) (get m q) (omega arith) bound)
follows_changes r m (c ∷ cs) q n bound room =
    let here = follows_change r m c q n bound (omega (arith, room)) in
    let so_far : IsBounded (n + put_count q c) (get (changed r m c) q) = subst (IsBounded (n + put_count q c)) (sym here.0) here.1 in
    let rest = follows_changes r (changed r m c) cs q (n + put_count q c) so_far (omega (arith, room)) in
    (rest.0 ∙ ap (λ o. key_after_changes r q o cs) here.0, bounded-more _ _ _ (omega arith) rest.1)

pub follows_revisions : (r : ℕ) (m : Keys) (css : List (List Change)) (q : Bytes) (n : ℕ) → IsBounded n (get m q) → list_all puts_once css ≡ true → n + length css ≤ 2 ^ 62 →
    (get (keys_from r m css) q ≡ key_after_revisions r q (get m q) css) × IsBounded (n + length css) (get (keys_from r m css) q)
follows_revisions r m [] q n bound once room = (refl, bounded-more n (n + 0) (get m q) (omega arith) bound)
follows_revisions r m (cs ∷ css) q n bound once room =
    let few : puts_count q cs ≤ 1 = puts_count-once q cs (and_parts _ _ once).0 in
    let here = follows_changes (pos r) m cs q n bound (omega (arith, few, room)) in
    let so_far : IsBounded (n + 1) (get (after_changes (pos r) m cs) q) = bounded-more _ _ _ (omega (arith, few)) here.1 in
    let rest = follows_revisions (r + 1) (after_changes (pos r) m cs) css q (n + 1) so_far (and_parts _ _ once).1 (omega (arith, room)) in
    (rest.0 ∙ ap (λ o. key_after_revisions (r + 1) q o css) here.0, bounded-more _ _ _ (omega arith) rest.1)

-- what a key has after all revisions, and after some changes of the next one
pub get-keys_from : (css : List (List Change)) (q : Bytes) → list_all puts_once css ≡ true → length css < 2 ^ 62 → get (keys_from 1 empty css) q ≡ key_after_revisions 1 q None css
get-keys_from css q once short =
    let none = get-empty {X = Kv} (slice_cmp nat_cmp) q in
    (follows_revisions 1 empty css q 0 (subst (IsBounded 0) (sym none) tt) once (omega (arith, short))).0 ∙ ap (λ o. key_after_revisions 1 q o css) none

pub get-after_changes : (css : List (List Change)) (cs : List Change) (r : ℤ) (q : Bytes) → list_all puts_once css ≡ true → length css < 2 ^ 62 → puts_once cs ≡ true →
    get (after_changes r (keys_from 1 empty css) cs) q ≡ key_after_changes r q (key_after_revisions 1 q None css) cs
get-after_changes css cs r q once short new_once =
    let none = get-empty {X = Kv} (slice_cmp nat_cmp) q in
    let before = follows_revisions 1 empty css q 0 (subst (IsBounded 0) (sym none) tt) once (omega (arith, short)) in
    let few = puts_count-once q cs new_once in
    (follows_changes r (keys_from 1 empty css) cs q (length css) (bounded-more _ _ _ (omega arith) before.1) (omega (arith, few, short))).0
    ∙ ap (λ o. key_after_changes r q o cs) (get-keys_from css q once short)
