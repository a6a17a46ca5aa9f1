-- A key that has one mod_revision at two revisions of a store has one value there.
use Rattle.std.proofs.Common.{◌≡◌, ℕ, suc, ◌+◌, ◌≤◌, ◌<◌, List, [], ◌∷◌, length, take, refl, sym, ap, ◌∙◌, arith, ℤ, pos, inl, inr, ⊎_elim}
use Rattle.std.specs.Prelude.{Option, Some, None, ◌⊎◌}
use Rattle.std.specs.Cmp.Lexicographic.{slice_cmp}
use Rattle.std.specs.FinMap.{empty, get, get-empty}
use Rattle.std.specs.Ordering.{nat_cmp}
use Rattle.std.proofs.lemmas.Bool.{cases_order}
use Rattle.ev_types.specs.declared.answer.Kv.{Kv}
use Rattle.ev_types.specs.Ranges.{Keys}
use Rattle.ev_types.specs.Store.{Change, Puts, Removes, Store, after_changes, changed, keys_from, mod_of, put_over, store_at}
use Rattle.ev_types.proofs.Grown.{keys_from-append}
use Rattle.zx_base.specs.Maps.{Bytes}
use Rattle.zx_base.proofs.MapLaws.{either, get-insert_other, get-insert_same, get-remove_other, get-remove_same}
use Rattle.zx_base.proofs.Options.{none_some, some_is}
use Rattle.zx_base.proofs.Numbers.{pos-same}
use Rattle.zx_base.proofs.Lists.{take-more}

pub put_over-mod : (r : ℤ) (k v : Bytes) (lease : ℤ) (o : Option Kv) → (put_over r k v lease o).mod_revision ≡ r
put_over-mod r k v lease None = refl
put_over-mod r k v lease (Some old) = refl

-- a change leaves a key as it was, or puts it at its revision
changed-from : (r : ℤ) (m : Keys) (c : Change) (k : Bytes) (kv : Kv) → get (changed r m c) k ≡ Some kv → (kv.mod_revision ≡ r) ⊎ (get m k ≡ Some kv)
changed-from r m (Puts q v lease) k kv h = ⊎_elim
    (λ e. let is : put_over r q v lease (get m q) ≡ kv = some_is (sym (get-insert_same m q (put_over r q v lease (get m q))) ∙ sym (ap (get (changed r m (Puts q v lease))) e) ∙ h) in
    inl (ap (λ (x : Kv). x.mod_revision) (sym is) ∙ put_over-mod r q v lease (get m q)))
    (λ apart. inr (sym (get-insert_other m q k (put_over r q v lease (get m q)) apart) ∙ h))
    (either k q)
changed-from r m (Removes q) k kv h = ⊎_elim
    (λ e. absurd (none_some (sym (get-remove_same m q) ∙ sym (ap (get (changed r m (Removes q))) e) ∙ h)))
    (λ apart. inr (sym (get-remove_other m q k apart) ∙ h))
    (either k q)

pub after_changes-from : (r : ℤ) (m : Keys) (cs : List Change) (k : Bytes) (kv : Kv) → get (after_changes r m cs) k ≡ Some kv → (kv.mod_revision ≡ r) ⊎ (get m k ≡ Some kv)
after_changes-from r m [] k kv h = inr h
after_changes-from r m (c ∷ cs) k kv h = elim (after_changes-from r (changed r m c) cs k kv h) [ inl e ↦ inl e | inr e ↦ changed-from r m c k kv e ]

-- what a key has is from a revision among these, or from before
pub record IsPutFrom (r n : ℕ) (kv : Kv) : Type 0 where
  pub revision : ℕ
  pub least : r ≤ revision
  pub most : revision < r + n
  pub put : kv.mod_revision ≡ pos revision

one_more : (r n : ℕ) (kv : Kv) → IsPutFrom (r + 1) n kv → IsPutFrom r (suc n) kv
one_more r n kv p = record { revision = p.revision; least = omega (arith, p.least); most = omega (arith, p.most); put = p.put }

keys_from-from : (r : ℕ) (m : Keys) (css : List (List Change)) (k : Bytes) (kv : Kv) → get (keys_from r m css) k ≡ Some kv → IsPutFrom r (length css) kv ⊎ (get m k ≡ Some kv)
keys_from-from r m [] k kv h = inr h
keys_from-from r m (cs ∷ css) k kv h = elim (keys_from-from (r + 1) (after_changes (pos r) m cs) css k kv h) [
  | inl p ↦ inl (one_more r (length css) kv p)
  | inr e ↦ elim (after_changes-from (pos r) m cs k kv e) [
    | inl f ↦ inl (record { revision = r; least = omega arith; most = omega arith; put = f })
    | inr f ↦ inr f
  ]
]

-- each key of a store was put at a revision of it
pub put_by : (s : Store) (a : ℕ) (k : Bytes) (kv : Kv) → get (store_at s a) k ≡ Some kv → IsPutFrom 1 (length (take a s.revisions)) kv
unfolding store_at
put_by s a k kv h = elim (keys_from-from 1 empty (take a s.revisions) k kv h) [ inl p ↦ p | inr e ↦ absurd (none_some (sym (get-empty (slice_cmp nat_cmp) k) ∙ e)) ]

-- at a later revision a key is as it was, or was put since
pub since : (s : Store) (a b : ℕ) (k : Bytes) (kv : Kv) → a ≤ b → get (store_at s b) k ≡ Some kv
    → ((n : ℕ) × (length (take a s.revisions) < n) × (kv.mod_revision ≡ pos n)) ⊎ (get (store_at s a) k ≡ Some kv)
unfolding store_at
since s a b k kv le h =
    let t = take-more a b s.revisions le in
    let e : get (keys_from (1 + length (take a s.revisions)) (keys_from 1 empty (take a s.revisions)) t.0) k ≡ Some kv =
    ap (λ m. get m k) (sym (ap (keys_from 1 empty) t.1 ∙ keys_from-append 1 empty (take a s.revisions) t.0)) ∙ h in
    elim (keys_from-from (1 + length (take a s.revisions)) (keys_from 1 empty (take a s.revisions)) t.0 k kv e) [
      | inl p ↦ inl (p.revision, omega (arith, p.least), p.put)
      | inr f ↦ inr f
    ]

one_value : (s : Store) (a b : ℕ) (k : Bytes) (x y : Kv) → a ≤ b → get (store_at s a) k ≡ Some x → get (store_at s b) k ≡ Some y → x.mod_revision ≡ y.mod_revision → get (store_at s a) k ≡ Some y
one_value s a b k x y le hx hy e = elim (since s a b k y le hy) [
  | inl n ↦ let p = put_by s a k x hx in absurd (omega (arith, n.1, p.most, pos-same p.revision n.0 (sym p.put ∙ e ∙ n.2)))
  | inr f ↦ f
]

not_at_zero : (s : Store) (a : ℕ) (k : Bytes) (kv : Kv) → get (store_at s a) k ≡ Some kv → kv.mod_revision ≡ pos 0 → ⊥
not_at_zero s a k kv h none = let p = put_by s a k kv h in omega (arith, p.least, pos-same p.revision 0 (sym p.put ∙ none))

-- A key whose mod_revision is at a later revision what it was is as it was: there with the same value, or still absent.
pub later_as_it_was : (s : Store) (a b : ℕ) (k : Bytes) → a ≤ b → mod_of (get (store_at s b) k) ≡ mod_of (get (store_at s a) k) → get (store_at s b) k ≡ get (store_at s a) k
later_as_it_was s a b k le h = go (get (store_at s a) k) (get (store_at s b) k) refl refl h
  where
    go : (x y : Option Kv) → get (store_at s a) k ≡ x → get (store_at s b) k ≡ y → mod_of y ≡ mod_of x → y ≡ x
    go None None ex ey e = refl
    go None (Some v) ex ey e = absurd (not_at_zero s b k v ey e)
    go (Some u) None ex ey e = absurd (not_at_zero s a k u ex (sym e))
    go (Some u) (Some v) ex ey e = sym (one_value s a b k u v le ex ey (sym e)) ∙ ex

-- the same at any two revisions
pub as_it_was : (s : Store) (a b : ℕ) (k : Bytes) → mod_of (get (store_at s a) k) ≡ mod_of (get (store_at s b) k) → get (store_at s a) k ≡ get (store_at s b) k
as_it_was s a b k h = elim (cases_order a b) [
  | inl e ↦ ap (λ n. get (store_at s n) k) e
  | inr e ↦ elim e [
    | inl lt ↦ sym (later_as_it_was s a b k (omega (arith, lt)) (sym h))
    | inr gt ↦ later_as_it_was s b a k (omega (arith, gt)) h
  ]
]
